use Rattle.std.proofs.Common.{◌≡◌, ◌++◌, List}
use Rattle.publication_log.specs.Publications.{Placed}
use Rattle.publication_log.specs.Builders.{IsMadeOf}
use Rattle.publisher_drafts.specs.Merging.{changes_of_map}
use Rattle.publisher_drafts.proofs.changes.publication_of.Given as goal

-- the publication so far has the changes before those that are left
abbrev pub invariant-loop-place : goal.invariant-loop-place
invariant-loop-place l = (l.builder.version ≡ l.version) × ((done : List Placed) × IsMadeOf l.builder (record { version = l.version; changes = done })
    × (done ++ changes_of_map l.place-iterator ≡ changes_of_map l.changes.entries))
