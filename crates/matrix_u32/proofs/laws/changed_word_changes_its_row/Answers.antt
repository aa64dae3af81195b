use Rattle.matrix_u32.proofs.Changes.{row_change}
use Rattle.matrix_u32.proofs.laws.changed_word_changes_its_row.Goals as goal

pub returns : goal.returns
returns c = row_change
