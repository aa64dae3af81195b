use Rattle.client_core.proofs.RowLaws.{rows_of_the_record_suffice}
use Rattle.client_core.proofs.laws.rows_of_the_record_suffice.Goals as goal

pub returns : goal.returns
returns c = rows_of_the_record_suffice
