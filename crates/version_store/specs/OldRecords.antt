-- The old bytes of the records that publications changed.
use Rattle.std.specs.Prelude.{◌≡◌, ◌*◌, ◌/◌, ℕ, List, [], ◌∷◌, ◌++◌, Option, Some, None, length, map, if◌then◌else◌}
use Rattle.digit_pack.specs.Layout.{digit_rows, is_wide}
use Rattle.hint_changes.specs.Changes.{ChangedRecord, changes_between}
use Rattle.pir_schemes.specs.declared.plan.Plan.{Plan}
use Rattle.pir_schemes.specs.Plans.{shape_at, slots}
use Rattle.record_log.specs.Logs.{AreInside, KeptLog, kept_within}
use Rattle.record_log.specs.OldRecords.{OldBytes, OldRecord}
use Rattle.record_log.specs.Steps.{change_or_none}
use Rattle.version_store.specs.Editions.{Records, grown}

-- the old bytes of a record that changed
abbrev pub old_of : ChangedRecord → OldRecord
old_of c = record { index = c.index; bytes = c.old }

-- the old bytes of the records that differ between two lists of as many, ascending
abbrev pub olds_between : List (List ℕ) → List (List ℕ) → List OldRecord
olds_between before after = map old_of (changes_between before after)

-- the bytes that records have in the digits with blanks after them, so many in all
abbrev pub slots_with_blanks : Plan → ℕ → List (List ℕ) → List (List ℕ)
slots_with_blanks p n records = slots p (grown p n records)

-- the old bytes of the records that a version changes of the one before it, with blanks for those
-- that were appended
unfoldable pub olds_replaced : Plan → List (List ℕ) → List (List ℕ) → List OldRecord
olds_replaced p before after = map old_of (changes_between (slots_with_blanks p (length after) before) (slots p after))

-- how many old bytes a store keeps at most: an eighth of the bytes of its SimplePIR hint, whose
-- words have four
abbrev pub most_old_bytes : Plan → ℕ
most_old_bytes p = digit_rows (shape_at p 0) * p.dimension / 2

-- a log with the old bytes of one more publication, if there are any to keep
abbrev pub with_newest : KeptLog → Option OldBytes → KeptLog
with_newest log None = log
with_newest log (Some newest) = record log { lists = kept_within log.record_len log.most (log.lists ++ newest.records ∷ []) }

-- what is kept of old bytes after one more publication: in a wide store those of the newest 16
-- publications at most, and of `most_old_bytes` bytes at most, the oldest going first; in an
-- ordinary store, which keeps none, what there was
unfoldable pub with_olds : Plan → List (List OldRecord) → List OldRecord → List (List OldRecord)
with_olds p lists newest = if is_wide p.form then kept_within p.record_len (most_old_bytes p) (lists ++ newest ∷ []) else lists

-- what is kept of old bytes, a list for each of the newest publications, the oldest first; given
-- are the records of the current version, and those of the versions before it, the newest first
unfoldable pub kept_olds : Plan → List (List ℕ) → List (List (List ℕ)) → List (List OldRecord)
kept_olds p current [] = []
kept_olds p current (before ∷ past) = with_olds p (kept_olds p before past) (olds_replaced p before current)

-- what a publication of a draft changes, by old bytes: only a wide store asks for it
abbrev pub draft_olds : Records → List (List ℕ) → Option OldBytes
draft_olds e draft =
    if is_wide e.plan.form then Some (record { record_len = e.plan.record_len; records = olds_replaced e.plan e.records draft }) else None

-- the old bytes of a record were added to others, unless its new bytes are the same
abbrev pub AddsOld : ℕ → List ℕ → List ℕ → OldBytes → OldBytes → Type 0
AddsOld i old new before after =
    after ≡ record before { records = before.records ++ map old_of (change_or_none i old new) }

-- a log of old bytes of the records of a version
pub record IsOldsLog (e : Records) (log : KeptLog) : Type 0 where
  pub record_len : log.record_len ≡ e.plan.record_len
  pub most : log.most ≡ most_old_bytes e.plan
  pub inside : AreInside (length e.records) log.lists
