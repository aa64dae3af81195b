use Rattle.digit_pack.proofs.HeldRecords.{digits_hold}
use Rattle.digit_pack.proofs.laws.digits_hold_their_records.Goals as goal

pub returns : goal.returns
returns c = digits_hold
