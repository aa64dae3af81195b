-- What a store can be opened with.
use Rattle.std.specs.Prelude.{◌≡◌, ◌≤◌, ℕ, List, [], length, true, false}
use Rattle.digit_pack.specs.Layout.{IsLayout}
use Rattle.snapshot_file.specs.declared.snapshot.Header.{Header}
use Rattle.std.specs.List.{flat_map}
use Rattle.snapshot_file.specs.Snapshots.{shape_of, records_len, has_slots, hashed_bytes, snapshot_bytes, IsSnapshot}
use Rattle.sha2.specs.Sha256.{sha256}
use Rattle.digit_pack.specs.Slots.{is_form}
use Rattle.version_store.specs.declared.opening.OpenError.{OpenError}
use Rattle.version_store.specs.declared.opening.OpenError.TheVariants.{BadLayout, BadVersion, BadRecords, Memory}
use Rattle.pir_schemes.specs.declared.plan.Plan.{Plan}
use Rattle.pir_schemes.specs.Plans.{records_held, slots}
use Rattle.version_store.specs.Histories.{StoreState}

-- a form that there is, a layout within its limits, and a dimension of 1 to 1024
pub record HasSizes (h : Header) : Type 0 where
  pub form : is_form h.form h.record_len ≡ true
  pub layout : IsLayout (shape_of h)
  pub low : 1 ≤ h.dimension
  pub high : h.dimension ≤ 1024

-- a snapshot that a store is opened with: sizes within the limits, a version from 1 on, as many
-- bytes as its records have, and in forms of slots a slot for each record
pub record IsSound (h : Header) (records : List ℕ) : Type 0 where
  pub sizes : HasSizes h
  pub version : 1 ≤ h.version
  pub len : length records ≡ records_len h
  pub slots : has_slots h records ≡ true

-- what a store is opened with: the fields of its snapshot, and the bytes of its records
pub record Unopened : Type 0 where
  pub header : Header
  pub bytes : List ℕ

-- why no store is opened with a snapshot: the first cause that holds
abbrev pub IsOpenFault : Header → List ℕ → OpenError → Type 0
IsOpenFault h records BadLayout = ¬ HasSizes h
IsOpenFault h records BadVersion = HasSizes h × (h.version ≡ 0)
IsOpenFault h records BadRecords = HasSizes h × (1 ≤ h.version) × ¬ ((length records ≡ records_len h) × (has_slots h records ≡ true))
IsOpenFault h records Memory = IsSound h records

-- what a snapshot says of every version
abbrev pub plan_held : Header → Plan
plan_held h = record { form = h.form; width = h.width; record_len = h.record_len; groups = h.groups; dimension = h.dimension; seed = h.seed }

-- the records that bytes hold for the fields of a snapshot
abbrev pub records_for : Header → List ℕ → List (List ℕ)
records_for h bytes = records_held (plan_held h) h.count bytes

-- what a store of a snapshot holds: its records as the only version, and as the draft
abbrev pub held_of : Header → List ℕ → StoreState
held_of h records = record {
  version = h.version;
  edition = record { plan = plan_held h; records = records_held (plan_held h) h.count records };
  draft = records_held (plan_held h) h.count records;
  marked = false;
  publisher = h.publisher;
  log = [];
  olds = [];
}

-- a store as it is opened with a snapshot of this header and these records, and the snapshot's
-- digest
pub record IsRead (h : Header) (records : List ℕ) (s : StoreState) (digest : List ℕ) : Type 0 where
  pub snapshot : IsSnapshot h records
  pub held : s ≡ held_of h records
  pub named : digest ≡ sha256 (hashed_bytes h records)

-- the fields of a snapshot of what a store holds
abbrev pub header_of_held : StoreState → Header
header_of_held s = record {
  form = s.edition.plan.form;
  width = s.edition.plan.width;
  record_len = s.edition.plan.record_len;
  groups = s.edition.plan.groups;
  count = length s.edition.records;
  dimension = s.edition.plan.dimension;
  version = s.version;
  seed = s.edition.plan.seed;
  publisher = s.publisher;
}

-- the bytes of slots, one after another
abbrev pub bytes_of_records : List (List ℕ) → List ℕ
bytes_of_records records = flat_map (λ bytes. bytes) records

-- the snapshot of a store's current version
abbrev pub snapshot_of : StoreState → List ℕ
snapshot_of s = snapshot_bytes (header_of_held s) (bytes_of_records (slots s.edition.plan s.edition.records))
