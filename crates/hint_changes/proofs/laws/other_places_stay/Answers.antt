use Rattle.hint_changes.proofs.Places.{other_places}
use Rattle.hint_changes.proofs.laws.other_places_stay.Goals as goal

pub returns : goal.returns
returns c = other_places
