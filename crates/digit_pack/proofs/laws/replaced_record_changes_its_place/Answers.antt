use Rattle.digit_pack.proofs.Changes.{record_change}
use Rattle.digit_pack.proofs.laws.replaced_record_changes_its_place.Goals as goal

pub returns : goal.returns
returns c = record_change
