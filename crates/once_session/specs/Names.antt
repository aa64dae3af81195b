-- What faults are called when they are printed.
use Rattle.std.specs.Prelude.{ℕ, List, codes}
use Rattle.once_session.specs.declared.engine.OnceFault.{OnceFault}
use Rattle.once_session.specs.declared.engine.OnceFault.TheVariants as once

-- the name of a session that failed
unfoldable pub once_fault_name : OnceFault → List ℕ
once_fault_name once.BadInput = codes "BadInput"
once_fault_name once.Read = codes "Read"
once_fault_name once.Write = codes "Write"
once_fault_name once.Memory = codes "Memory"
once_fault_name once.TurnsUsedUp = codes "TurnsUsedUp"
