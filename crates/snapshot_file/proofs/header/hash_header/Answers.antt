use Rattle.std.proofs.Common.{[], subst}
use Rattle.sha2.specs.Hashers.{Holds256}
use Rattle.snapshot_file.proofs.header.hash_header.Goals as goal

pub returns : goal.returns
returns c = subst (Holds256 c.update.new.self) c.in_ok-prefix.ensures (c.update.ensures [] c.new-hasher.ensures)
