-- Laws of what publications changed.
use Rattle.std.specs.Prelude.{◌≡◌, ◌<◌, ◌≤◌, ◌^◌, ◌++◌, ℕ, All, List, length}
use Rattle.matrix_u32.specs.Matrix.{WordMatrix, product}
use Rattle.digit_pack.specs.Layout.{Shape, IsShape, digit_cols, digit_matrix}
use Rattle.hint_changes.specs.Changes.{ChangedRecord, changes_between, moved}
use Rattle.hint_changes.specs.Entries.{changes_in}
use Rattle.record_log.specs.OldRecords.{OldRecord, AreOldOf, entries_bytes, undone}
use Rattle.record_log.specs.Logs.{AreNewestOf, AreOldOfAll, kept_within, newest, nth_version, undone_all}

-- the old bytes of all that changed give the records before
abbrev pub OldBytesUndo : Type 0
OldBytesUndo = (before after : List (List ℕ)) (olds : List OldRecord) → AreOldOf before after olds → undone olds after ≡ before

-- changes are read again as they were written, if they are of records of one length
abbrev pub EntriesSayTheChanges : Type 0
EntriesSayTheChanges = (len : ℕ) (changes : List ChangedRecord) →
    All (λ (c : ChangedRecord). (c.index < 2 ^ 32) × (length c.old ≡ len) × (length c.new ≡ len)) changes →
    changes_in len (entries_bytes changes) ≡ changes

-- the old records of the newest n publications lead back from the newest version to version n
abbrev pub LogsLeadBack : Type 0
LogsLeadBack = (versions : List (List (List ℕ))) (lists : List (List OldRecord)) → AreOldOfAll versions lists →
    (n : ℕ) → n ≤ length lists → undone_all (newest n lists) (nth_version versions 0) ≡ nth_version versions n

-- what is kept of publications is what the newest changed
abbrev pub KeptListsAreTheNewest : Type 0
KeptListsAreTheNewest = (len most : ℕ) (lists : List (List OldRecord)) → AreNewestOf lists (kept_within len most lists)

-- old records stay those of a publication, if the same records are put after those before it and
-- those after it
abbrev pub OldBytesStayWithBlanks : Type 0
OldBytesStayWithBlanks = (before after more : List (List ℕ)) (olds : List OldRecord) →
    AreOldOf before after olds → AreOldOf (before ++ more) (after ++ more) olds

-- the entries of what differs between two lists of records move the hint of the one to that of the
-- other
abbrev pub EntriesMoveTheHint : Type 0
EntriesMoveTheHint = (l : Shape) (before after : List (List ℕ)) (a1 : WordMatrix) →
    IsShape l → digit_cols l ≤ a1.rows → l.count < 2 ^ 32 → length before ≡ length after → length after ≤ l.count →
    All (λ (bytes : List ℕ). length bytes ≡ l.record_len) before → All (λ (bytes : List ℕ). length bytes ≡ l.record_len) after →
    moved l a1 (changes_in l.record_len (entries_bytes (changes_between before after))) (product (digit_matrix l before) a1)
    ≡ product (digit_matrix l after) a1
