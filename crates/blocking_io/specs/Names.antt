-- What faults are called where they are printed.
use Rattle.std.specs.Prelude.{ℕ, List, codes}
use Rattle.blocking_io.specs.declared.conversing.ConverseFault.{ConverseFault}
use Rattle.blocking_io.specs.declared.conversing.ConverseFault.TheVariants as converse
use Rattle.blocking_io.specs.declared.serving.ServeFault.{ServeFault}
use Rattle.blocking_io.specs.declared.serving.ServeFault.TheVariants as serve

-- the name of a failed conversation
unfoldable pub converse_fault_name : ConverseFault → List ℕ
converse_fault_name converse.Ended = codes "Ended"
converse_fault_name converse.Read = codes "Read"
converse_fault_name converse.Write = codes "Write"
converse_fault_name converse.BadWelcome = codes "BadWelcome"
converse_fault_name converse.BadReply = codes "BadReply"
converse_fault_name converse.Memory = codes "Memory"
converse_fault_name converse.TurnsUsedUp = codes "TurnsUsedUp"
converse_fault_name converse.Failed = codes "Failed"

-- the name of a session that failed
unfoldable pub serve_fault_name : ServeFault → List ℕ
serve_fault_name serve.IdInUse = codes "IdInUse"
serve_fault_name serve.Read = codes "Read"
serve_fault_name serve.Write = codes "Write"
serve_fault_name serve.Memory = codes "Memory"
serve_fault_name serve.TurnsUsedUp = codes "TurnsUsedUp"
