-- What a verdict on entries says.
use Rattle.std.proofs.Common.{◌≡◌, ◌∙◌, ap, refl, ℕ, Bool, true, false, Some, None, Option, List, ◌∷◌}
use Rattle.std.specs.Prelude.{if◌then◌else◌, ◌&&◌}
use Rattle.pir_schemes.specs.declared.plan.Plan.{Plan}
use Rattle.publication_log.specs.Publications.{Published}
use Rattle.log_replay.specs.Replays.{are_changes_of}
use Rattle.log_replay.specs.Replays.{count_after_all}
use Rattle.publisher_drafts.specs.Merging.{are_entries_of}

pub some_from : (b : Bool) (n m : ℕ) → Some n ≡ (if b then Some m else None) → (b ≡ true) × (n ≡ m)
some_from true n m e = (refl, cc)
some_from false n m e = absurd cc

pub none_from : (b : Bool) (m : ℕ) → None ≡ (if b then Some m else None) → b ≡ false
none_from true m e = absurd cc
none_from false m e = refl

-- the first entry can be made, and so the others decide
pub first_entry_made : (plan : Plan) (count : ℕ) (p : Published) (ps : List Published) → are_changes_of plan count p.changes ≡ true →
    are_entries_of plan count (p ∷ ps) ≡ are_entries_of plan (count_after_all count p.changes) ps
first_entry_made plan count p ps made = ap (λ (b : Bool). b && are_entries_of plan (count_after_all count p.changes) ps) made

pub first_entry_refused : (plan : Plan) (count : ℕ) (p : Published) (ps : List Published) → are_changes_of plan count p.changes ≡ false →
    are_entries_of plan count (p ∷ ps) ≡ false
first_entry_refused plan count p ps refused = ap (λ (b : Bool). b && are_entries_of plan (count_after_all count p.changes) ps) refused
