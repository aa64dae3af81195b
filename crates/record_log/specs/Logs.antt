-- What the newest publications changed.
use Rattle.std.specs.Prelude.{⊤, ◌≡◌, ◌<◌, ◌≤◌, ◌+◌, ◌*◌, ◌-◌, ◌&&◌, ℕ, All, Bool, List, [], ◌∷◌, length, take, drop, if◌then◌else◌, nat_le, slice_index_or}
use Rattle.std.specs.List.{list_any}
use Rattle.matrix_u32.specs.Sum.{list_of}
use Rattle.hint_changes.specs.Changes.{changes_between}
use Rattle.record_log.specs.OldRecords.{AreOldOf, OldRecord, entries_bytes, has_old, old_bytes_in, undone}

-- the records before some publications, the first of which is the oldest, by those after them
abbrev pub undone_all : List (List OldRecord) → List (List ℕ) → List (List ℕ)
undone_all [] records = records
undone_all (oldest ∷ newer) records = undone oldest (undone_all newer records)

-- whether some of the publications changed record i
abbrev pub is_listed : List (List OldRecord) → ℕ → Bool
is_listed lists i = list_any (λ olds. has_old olds i) lists

-- the bytes that record i had before the first of the publications that changed it; none if no one
-- did
abbrev pub oldest_bytes : List (List OldRecord) → ℕ → List ℕ
oldest_bytes [] i = []
oldest_bytes (oldest ∷ newer) i = if has_old oldest i then old_bytes_in oldest i else oldest_bytes newer i

-- how many bytes the old records of some publications have
abbrev pub total_bytes : ℕ → List (List OldRecord) → ℕ
total_bytes len [] = 0
total_bytes len (oldest ∷ newer) = length oldest * len + total_bytes len newer

-- whether these are 16 publications at most, whose old records have so many bytes at most
abbrev pub are_within : ℕ → ℕ → List (List OldRecord) → Bool
are_within len most lists = nat_le (length lists) 16 && nat_le (total_bytes len lists) most

-- the newest 16 publications at most, whose old records have so many bytes at most: the oldest go
-- first
abbrev pub kept_within : ℕ → ℕ → List (List OldRecord) → List (List OldRecord)
kept_within len most [] = []
kept_within len most (oldest ∷ newer) = if are_within len most (oldest ∷ newer) then oldest ∷ newer else kept_within len most newer

-- what a log has: the length of records, how many bytes the old ones may have together, and those
-- of the newest publications, the oldest first
pub record KeptLog : Type 0 where
  pub record_len : ℕ
  pub most : ℕ
  pub lists : List (List OldRecord)

-- of lists for publications, the oldest first, those of the newest n publications
abbrev pub newest : ℕ → List (List OldRecord) → List (List OldRecord)
newest n lists = drop (length lists - n) lists

-- what is kept of some publications: the newest, 16 at most; so the newest n of these are the
-- newest n of all
pub record AreNewestOf (lists kept : List (List OldRecord)) : Type 0 where
  pub few : length kept ≤ 16
  pub inside : length kept ≤ length lists
  pub same : kept ≡ newest (length kept) lists
  pub each : (n : ℕ) → n ≤ length kept → newest n kept ≡ newest n lists

-- the records of version n of some, the newest of which is version 0
abbrev pub nth_version : List (List (List ℕ)) → ℕ → List (List ℕ)
nth_version versions n = slice_index_or versions n []

-- each of the lists, the oldest first, has all that one publication changed from a version to the
-- next; of the versions the newest is first
abbrev pub AreOldOfAll : List (List (List ℕ)) → List (List OldRecord) → Type 0
AreOldOfAll versions [] = ⊤
AreOldOfAll versions (oldest ∷ newer) =
    AreOldOf (nth_version versions (length newer + 1)) (nth_version versions (length newer)) oldest × AreOldOfAll versions newer

-- all publications changed records of so many alone
abbrev pub AreInside : ℕ → List (List OldRecord) → Type 0
AreInside count lists = All (All (λ (old : OldRecord). old.index < count)) lists

-- the bytes of record i, in the bytes of records of one length, one after another
abbrev pub nth_bytes : ℕ → List ℕ → ℕ → List ℕ
nth_bytes len bytes i = take len (drop (i * len) bytes)

-- so many records of one length, whose bytes come one after another
abbrev pub records_of_bytes : ℕ → ℕ → List ℕ → List (List ℕ)
records_of_bytes len count bytes = list_of count (nth_bytes len bytes)

-- what differs between the records before some publications and those after them, as entries
abbrev pub entries_since : List (List OldRecord) → List (List ℕ) → List ℕ
entries_since lists after = entries_bytes (changes_between (undone_all lists after) after)
