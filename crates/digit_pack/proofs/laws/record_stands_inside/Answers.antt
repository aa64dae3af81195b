use Rattle.digit_pack.proofs.Records.{row_inside, column_inside}
use Rattle.digit_pack.proofs.laws.record_stands_inside.Goals as goal

pub returns : goal.returns
returns c = λ l i d s p q. (row_inside l i d s.groups q, column_inside l i s.groups p)
