-- Queries that are prepared before their records are named.
use Rattle.std.specs.Prelude.{ℕ, List, Option, Some, None}
use Rattle.pir_schemes.specs.declared.query_masks.MasksFor.{MasksFor}
use Rattle.pir_schemes.specs.Masks.{Serve}
use Rattle.client_core.specs.declared.state.ServerInfo.{ServerInfo}

-- there are masks that have that of retrieval `number` of a client's seed, on the last version
-- known
abbrev pub ServeNext : Option MasksFor → ServerInfo → List ℕ → ℕ → Type 0
ServeNext None known seed number = ⊥
ServeNext (Some masks) known seed number = Serve masks known.plan known.count seed number
