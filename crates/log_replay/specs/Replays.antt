-- What the publications of a log make of records, and of a store.
use Rattle.std.specs.Prelude.{◌≡◌, ◌<◌, ◌+◌, ◌==◌, ◌&&◌, ◌||◌, nat_lt, if◌then◌else◌, ℕ, List, [], ◌∷◌, ◌++◌, length, slice_set, Bool, true, false}
use Rattle.digit_pack.specs.Layout.{is_layout}
use Rattle.pir_schemes.specs.declared.plan.Plan.{Plan}
use Rattle.pir_schemes.specs.Plans.{fits, shape_at}
use Rattle.publication_log.specs.declared.changes.Publication.{Publication}
use Rattle.publication_log.specs.Publications.{Placed, Published, changes_bytes, IsPublished}
use Rattle.version_store.specs.Histories.{StoreState, History, StoreChange, Edited, Appended, held_after, held_published, history_after, published}

-- a publication that was read of a log is this one
pub record IsPublicationOf (publication : Publication) (p : Published) : Type 0 where
  pub each : IsPublished p
  pub version : publication.version ≡ p.version
  pub changes : publication.changes.rest.now ≡ changes_bytes p.changes

-- ---- records

-- the records after a change: one of them is replaced, or one more comes after them
abbrev pub record_changed : List (List ℕ) → Placed → List (List ℕ)
record_changed records c = if nat_lt c.place (length records) then slice_set records c.place c.bytes else records ++ c.bytes ∷ []

-- the records after changes, one after another
abbrev pub records_replayed : List (List ℕ) → List Placed → List (List ℕ)
records_replayed records [] = records
records_replayed records (c ∷ cs) = records_replayed (record_changed records c) cs

-- how many records there are after a change
abbrev pub count_after : ℕ → Placed → ℕ
count_after count c = if nat_lt c.place count then count else count + 1

-- how many records there are after changes, one after another
abbrev pub count_after_all : ℕ → List Placed → ℕ
count_after_all count [] = count
count_after_all count (c ∷ cs) = count_after_all (count_after count c) cs

-- whether so many records have this place, or it is the next one and a layout has room for it
abbrev pub has_place : Plan → ℕ → ℕ → Bool
has_place plan count place = nat_lt place count || ((place == count) && is_layout (shape_at plan (count + 1)))

-- whether changes can be made to so many records, one after another: each has a place, and bytes
-- that can be a record
abbrev pub are_changes_of : Plan → ℕ → List Placed → Bool
are_changes_of plan count [] = true
are_changes_of plan count (c ∷ cs) = (has_place plan count c.place && fits plan c.bytes) && are_changes_of plan (count_after count c) cs

-- whether a publication follows a version of so many records: it is the next one, it changes
-- something, and its changes can be made
abbrev pub is_replayable : Plan → ℕ → ℕ → Published → Bool
is_replayable plan version count p = (p.version == (version + 1)) && (nat_lt 0 (length p.changes) && are_changes_of plan count p.changes)

-- ---- stores

-- the edit of one of so many records, or the append, that a change is
abbrev pub edit_or_append : ℕ → Placed → StoreChange
edit_or_append count c = if nat_lt c.place count then Edited c.place c.bytes else Appended c.bytes

-- the edits and appends that changes of so many records are
abbrev pub edits_and_appends : ℕ → List Placed → List StoreChange
edits_and_appends count [] = []
edits_and_appends count (c ∷ cs) = edit_or_append count c ∷ edits_and_appends (count_after count c) cs

-- what a store keeps after a publication's edits and appends, and their publication
abbrev pub replayed : Published → StoreState → StoreState
replayed p s = held_published (held_after (edits_and_appends (length s.draft) p.changes) s)

-- the history after a publication's edits and appends, and their publication
abbrev pub history_replayed : Published → History → History
history_replayed p h = published (history_after (edits_and_appends (length h.draft) p.changes) h)

-- what a store keeps after publications, one after another
abbrev pub replayed_all : List Published → StoreState → StoreState
replayed_all [] s = s
replayed_all (p ∷ ps) s = replayed_all ps (replayed p s)

-- the history after publications, one after another
abbrev pub history_replayed_all : List Published → History → History
history_replayed_all [] h = h
history_replayed_all (p ∷ ps) h = history_replayed_all ps (history_replayed p h)

-- whether a publication follows the current version of a store
abbrev pub is_next_of : StoreState → Published → Bool
is_next_of s p = is_replayable s.edition.plan s.version (length s.edition.records) p

-- whether publications follow one another, the first of them a store's current version
abbrev pub are_next_of : StoreState → List Published → Bool
are_next_of s [] = true
are_next_of s (p ∷ ps) = is_next_of s p && are_next_of (replayed p s) ps

-- a store without a draft
pub record HasNoDraft (s : StoreState) : Type 0 where
  pub unmarked : s.marked ≡ false
  pub draft : s.draft ≡ s.edition.records

-- changes that can be made to the current records of a store, and make its draft of them; there is
-- one if the draft is marked
pub record IsDraftMade (s : StoreState) (cs : List Placed) : Type 0 where
  pub some : s.marked ≡ true → 0 < length cs
  pub each : are_changes_of s.edition.plan (length s.edition.records) cs ≡ true
  pub made : records_replayed s.edition.records cs ≡ s.draft

-- a publication of a store's draft: it follows the current version, and its changes make the draft
-- of the current records
pub record IsDraftOf (s : StoreState) (p : Published) : Type 0 where
  pub next : is_next_of s p ≡ true
  pub made : records_replayed s.edition.records p.changes ≡ s.draft
