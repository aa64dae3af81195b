-- The end of a draft with the last session that edited it.
use Rattle.std.specs.Prelude.{◌≡◌, ℕ, List, Bool, false, ◌&&◌, Option, nat_eq, MatchBool}
use Rattle.server_core.specs.Cores.{Core}
use Rattle.connection_turns.specs.Runs.{DoesToCore, Undrafts}
use Rattle.service_watch.specs.declared.draft_life.DraftLife.{DraftLife}
use Rattle.service_watch.specs.declared.draft_life.DraftLife.TheVariants.{Publication, Session}
use Rattle.connection_table.specs.declared.connection.ServedConnection.{ServedConnection}
use Rattle.connection_table.specs.Drafting.{editor_count}

-- whether a draft of a version is over, if it is marked: it ends with sessions, and none is left
-- that edited it
abbrev pub is_over : DraftLife → Bool → List (Option ServedConnection) → ℕ → Bool
is_over Publication marked places version = false
is_over Session marked places version = marked && nat_eq (editor_count version places) 0

-- A draft that is over is dropped; else nothing changes.
abbrev pub EndsDraft : DraftLife → List (Option ServedConnection) → Core → Core → Type 0
EndsDraft life places before after =
    MatchBool (is_over life before.store.marked places before.store.version) (DoesToCore before Undrafts after) (after ≡ before)
