-- What a draft changes of the current version.
use Rattle.std.specs.Prelude.{◌≡◌, ℕ, ◌+◌, ◌<◌, ◌≤◌, List, length, true}
use Rattle.digit_pack.specs.Layout.{is_layout, record_at}
use Rattle.pir_schemes.specs.Plans.{fits, shape_at}
use Rattle.version_store.specs.Histories.{StoreState}

-- a record of the current version that the draft leaves as it is
abbrev pub IsUnchangedAt : StoreState → ℕ → Type 0
IsUnchangedAt s k = (k < length s.edition.records) × (record_at s.draft k ≡ record_at s.edition.records k)

-- the first change of a draft at or after a place: its bytes are those of the draft and can be a
-- record, the records up to it are within every limit, and no record between the place and it is
-- changed
pub record IsNextChange (s : StoreState) (low i : ℕ) (bytes : List ℕ) : Type 0 where
  pub at : low ≤ i
  pub inside : i < length s.draft
  pub bytes_are : bytes ≡ record_at s.draft i
  pub fit : fits s.edition.plan bytes ≡ true
  pub layout : is_layout (shape_at s.edition.plan (i + 1)) ≡ true
  pub between : (k : ℕ) → low ≤ k → k < i → IsUnchangedAt s k

-- no record of a draft is changed from a place on, and none of the current version is missing
pub record HasNoChange (s : StoreState) (low : ℕ) : Type 0 where
  pub count : length s.edition.records ≤ length s.draft
  pub after : (k : ℕ) → low ≤ k → k < length s.draft → IsUnchangedAt s k
