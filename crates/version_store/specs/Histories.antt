-- All versions of the records, a draft, and a mark.
use Rattle.std.specs.Prelude.{⊤, ◌≡◌, ◌≤◌, ℕ, ◌+◌, ◌-◌, List, [], ◌∷◌, ◌++◌, length, Bool, true, false, Option, Some, None, nat_eq, nat_lt, nat_le, ◌&&◌, if◌then◌else◌, unwrap_or, filter, slice_set, slice_get, take}
use Rattle.std.specs.List.{list_any, range_with_len}
use Rattle.digit_pack.specs.Layout.{digit_rows}
use Rattle.pir_schemes.specs.declared.plan.Plan.{Plan}
use Rattle.pir_schemes.specs.Plans.{shape_at, digits_at, slots}
use Rattle.hint_changes.specs.Changes.{changes_between}
use Rattle.hint_update.specs.Logs.{Log}
use Rattle.record_log.specs.OldRecords.{OldRecord, entries_bytes}
use Rattle.version_store.specs.Deltas.{changed_rows, changes_of}
use Rattle.version_store.specs.Editions.{Records}
use Rattle.version_store.specs.OldRecords.{kept_olds, olds_replaced, slots_with_blanks, with_olds}

-- what a store keeps: the number of the current version and its records, the draft, whether an edit
-- or an append was accepted since the last publication, the digest of the publisher's key, the rows
-- of digits that each of the newest 16 publications changed, the newest first, and the old bytes of
-- the records that each of the newest publications changed, the oldest first
pub record StoreState : Type 0 where
  pub version : ℕ
  pub edition : Records
  pub draft : List (List ℕ)
  pub marked : Bool
  pub publisher : List ℕ
  pub log : List (List ℕ)
  pub olds : List (List OldRecord)

-- a history: the number of the opening version; the records of the versions before the current
-- one, the newest first; those of the current one; those of the draft; and the mark, which says
-- that an edit or an append was accepted since the last publication
pub record History : Type 0 where
  pub first : ℕ
  pub past : List (List (List ℕ))
  pub current : List (List ℕ)
  pub draft : List (List ℕ)
  pub marked : Bool

-- the history of one version
abbrev pub opened : ℕ → List (List ℕ) → History
opened version records = record { first = version; past = []; current = records; draft = records; marked = false }

-- the number of the current version
abbrev pub current_version : History → ℕ
current_version h = h.first + length h.past

-- the records of a version; none before the opening one, and none above the current one
abbrev pub records_of : History → ℕ → Option (List (List ℕ))
records_of h v = if nat_lt (current_version h) v then None else slice_get (h.current ∷ h.past) (current_version h - v)

-- an edit replaces one record of the draft, and sets the mark
abbrev pub after_edit : ℕ → List ℕ → History → History
after_edit i bytes h = record h { draft = slice_set h.draft i bytes; marked = true }

-- an append puts a record after those of the draft, and sets the mark
abbrev pub after_append : List ℕ → History → History
after_append bytes h = record h { draft = h.draft ++ bytes ∷ []; marked = true }

-- a publication makes the draft the current version, and clears the mark
abbrev pub published : History → History
published h = record h { past = h.current ∷ h.past; current = h.draft; marked = false }

-- without its draft a history has the current version in that place, and no mark
abbrev pub undrafted : History → History
undrafted h = record h { draft = h.current; marked = false }

-- what is kept after an edit
abbrev pub held_edited : ℕ → List ℕ → StoreState → StoreState
held_edited i bytes s = record s { draft = slice_set s.draft i bytes; marked = true }

-- what is kept after an append
abbrev pub held_appended : List ℕ → StoreState → StoreState
held_appended bytes s = record s { draft = s.draft ++ bytes ∷ []; marked = true }

-- the rows of digits that a publication of the draft changes
abbrev pub draft_rows : StoreState → List ℕ
draft_rows s = changed_rows (digits_at s.edition.plan s.edition.records) (digits_at s.edition.plan s.draft)

-- what is kept of old bytes after a publication of the draft
abbrev pub olds_after_draft : StoreState → List (List OldRecord)
olds_after_draft s = with_olds s.edition.plan s.olds (olds_replaced s.edition.plan s.edition.records s.draft)

-- what is kept after a publication
abbrev pub held_published : StoreState → StoreState
held_published s = record s {
  version = s.version + 1;
  edition = record s.edition { records = s.draft };
  marked = false;
  log = take 16 (draft_rows s ∷ s.log);
  olds = olds_after_draft s;
}

-- what is kept once the draft is dropped
abbrev pub without_draft : StoreState → StoreState
without_draft s = record s { draft = s.edition.records; marked = false }

-- an accepted edit of a record, an accepted append, or a publication
pub data StoreChange : Type 0 where
  Edited : ℕ → List ℕ → StoreChange
  Appended : List ℕ → StoreChange
  Published : StoreChange

-- the history after changes
abbrev pub history_after : List StoreChange → History → History
history_after [] h = h
history_after (Edited i bytes ∷ more) h = history_after more (after_edit i bytes h)
history_after (Appended bytes ∷ more) h = history_after more (after_append bytes h)
history_after (Published ∷ more) h = history_after more (published h)

-- what is kept after changes
abbrev pub held_after : List StoreChange → StoreState → StoreState
held_after [] s = s
held_after (Edited i bytes ∷ more) s = held_after more (held_edited i bytes s)
held_after (Appended bytes ∷ more) s = held_after more (held_appended bytes s)
held_after (Published ∷ more) s = held_after more (held_published s)

-- each version has as many records as the one before it or more; given are the newest, and those
-- before it, the newest first
abbrev pub AreGrowing : List (List ℕ) → List (List (List ℕ)) → Type 0
AreGrowing newest [] = ⊤
AreGrowing newest (before ∷ past) = (length before ≤ length newest) × AreGrowing before past

-- what is kept is that of the history
pub record StandsFor (s : StoreState) (h : History) : Type 0 where
  pub version : current_version h ≡ s.version
  pub current : h.current ≡ s.edition.records
  pub draft : h.draft ≡ s.draft
  pub marked : h.marked ≡ s.marked
  pub log : take 16 (changes_of s.edition.plan h.current h.past) ≡ s.log
  pub olds : kept_olds s.edition.plan h.current h.past ≡ s.olds
  pub growing : AreGrowing h.draft (h.current ∷ h.past)

-- ---- what publications changed
-- the records of a version, and none if there is no such version
abbrev pub version_records : History → ℕ → List (List ℕ)
version_records h v = unwrap_or (records_of h v) []

-- the rows of digits in which a version and the next one differ
abbrev pub next_changes : Plan → History → ℕ → List ℕ
next_changes p h v = changed_rows (digits_at p (version_records h v)) (digits_at p (version_records h (v + 1)))

-- whether in row r of the digits some two consecutive versions differ, from version `since` to the
-- current one
abbrev pub changed_since : Plan → History → ℕ → ℕ → Bool
changed_since p h since r = list_any (λ v. list_any (nat_eq r) (next_changes p h v)) (range_with_len since (current_version h - since))

-- whether a version is the current one, or one of the 16 before it
abbrev pub is_recent : History → ℕ → Bool
is_recent h v = nat_le h.first v && (nat_le v (current_version h) && nat_le (current_version h - v) 16)

-- The rows of digits in which some two consecutive versions differ, from version `since` to the
-- current one, ascending, each once; None if `since` is neither the current version nor one of the
-- 16 before it.
unfoldable pub delta_rows : Plan → History → ℕ → Option (List ℕ)
delta_rows p h since =
    if is_recent h since then Some (filter (changed_since p h since) (range_with_len 0 (digit_rows (shape_at p (length h.current)))))
    else None

-- what differs between a version and the current one, as entries: of the bytes that records have in
-- the digits, with blanks for records that were appended since
abbrev pub entries_between : Plan → History → ℕ → List ℕ
entries_between p h since =
    entries_bytes (changes_between (slots_with_blanks p (length h.current) (version_records h since)) (slots p h.current))

-- whether old bytes of all publications since a version are among those of the newest so many
abbrev pub reaches_olds : ℕ → ℕ → ℕ → Bool
reaches_olds current kept since = nat_le since current && nat_le (current - since) kept

-- what differs between a version and the current one, as entries; none if there is no such version,
-- old bytes since it were dropped, or the entries have more than so many bytes
unfoldable pub changes_since : Plan → History → ℕ → ℕ → Option (List ℕ)
changes_since p h since most =
    if reaches_olds (current_version h) (length (kept_olds p h.current h.past)) since
    then (if nat_le (length (entries_between p h since)) most then Some (entries_between p h since) else None) else None

-- the log that a store keeps
abbrev pub kept_log : StoreState → Log
kept_log s = record { version = s.version; lists = s.log }
