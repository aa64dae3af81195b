use Rattle.std.proofs.Common.{length}
use Rattle.publisher_drafts.proofs.importing.changes_of_lines.Given as goal

abbrev pub decreases-lines : goal.decreases-lines
decreases-lines l = length l.rest
