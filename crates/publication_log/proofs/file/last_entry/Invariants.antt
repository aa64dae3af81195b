use Rattle.std.proofs.Common.{ℕ, length}
use Rattle.publication_log.proofs.file.last_entry.Given as goal

abbrev pub decreases-entries : goal.decreases-entries
decreases-entries l = length l.rest
