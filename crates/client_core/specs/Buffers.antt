-- The memory that a query is made in.
use Rattle.std.specs.Prelude.{◌≡◌, ◌≤◌, ◌+◌, ◌*◌, [], vec_capacity}
use Rattle.pir_schemes.specs.declared.scheme.Scheme.{Scheme}
use Rattle.pir_schemes.specs.Retrievals.{query_count}
use Rattle.client_core.specs.declared.calls.AskBuffers.{AskBuffers}
use Rattle.client_core.specs.declared.state.ServerInfo.{ServerInfo}
use Rattle.client_core.specs.States.{shape_known}

-- memory for the words of a query on the last version known, and room for the 14 bytes and the
-- words of its frame
pub record IsAskBuffers (s : Scheme) (k : ServerInfo) (room : AskBuffers) : Type 0 where
  pub words : room.words ≡ record { scheme = s; plan = k.plan; count = k.count }
  pub empty : room.bytes.items ≡ []
  pub bytes : 14 + 4 * query_count s (shape_known k) ≤ vec_capacity room.bytes
