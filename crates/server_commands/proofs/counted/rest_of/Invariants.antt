use Rattle.std.proofs.Common.{◌≡◌, ◌≤◌, ◌<◌, ℕ, List, length}
use Rattle.std.specs.Io.KnownBytes.{Consumes}
use Rattle.server_commands.proofs.counted.rest_of.Given as goal

abbrev pub invariant-pieces : goal.invariant-pieces
invariant-pieces g l = record {
  within : l.taken ≤ l.most;
  room : 0 < length l.buffer.items;
  done : (bytes : List ℕ) × (length bytes ≡ l.taken) × Consumes (g.R.Read.remaining l.fn.reader) (g.R.Read.remaining l.reader) bytes;
}
