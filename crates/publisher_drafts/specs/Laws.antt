-- Laws of merged drafts.
use Rattle.std.specs.Prelude.{◌≡◌, List, [], length, true, ℕ}
use Rattle.pir_schemes.specs.declared.plan.Plan.{Plan}
use Rattle.publication_log.specs.Publications.{Published}
use Rattle.log_replay.specs.Replays.{are_changes_of, records_replayed}
use Rattle.publisher_drafts.specs.Merging.{merged_all, are_entries_of, records_after_entries}

-- if entries can be made to records, one after another, their merged changes can be made to them
-- too, and give the same records
abbrev pub MergedAlike : Type 0
MergedAlike = (plan : Plan) (records : List (List ℕ)) (ps : List Published) → are_entries_of plan (length records) ps ≡ true →
    (are_changes_of plan (length records) (merged_all [] ps) ≡ true) × (records_replayed records (merged_all [] ps) ≡ records_after_entries records ps)
