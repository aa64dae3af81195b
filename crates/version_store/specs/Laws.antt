-- Laws of versions.
use Rattle.std.specs.Prelude.{◌≡◌, ◌<◌, ℕ, All, List, length, false, Some, nat_eq}
use Rattle.std.specs.List.{list_any}
use Rattle.matrix_u32.specs.Matrix.{row}
use Rattle.digit_pack.specs.Layout.{IsLayout, digit_rows}
use Rattle.hint_changes.specs.Changes.{moved}
use Rattle.hint_changes.specs.Entries.{changes_in}
use Rattle.pir_schemes.specs.declared.scheme.Scheme.TheVariants.{Simple}
use Rattle.pir_schemes.specs.declared.plan.Plan.{Plan}
use Rattle.pir_schemes.specs.Plans.{IsPlan, IsRecordOf, first_public, shape_at, records_held}
use Rattle.pir_schemes.specs.Retrievals.{hint_matrix}
use Rattle.snapshot_file.specs.declared.snapshot.Header.{Header}
use Rattle.snapshot_file.specs.Migrations.{IsPlainForm, in_slots, AreInSlots}
use Rattle.snapshot_file.specs.Widenings.{IsOrdinaryForm, in_wide}
use Rattle.snapshot_file.specs.Snapshots.{shape_of}
use Rattle.version_store.specs.Openings.{IsSound, plan_held}
use Rattle.version_store.specs.Histories.{AreGrowing, StoreState, History, StandsFor, StoreChange, changes_since, history_after, held_after, records_of, delta_rows}

-- after any accepted edits, appends and publications a store represents its history after them
abbrev pub EachRunStands : Type 0
EachRunStands = (changes : List StoreChange) (s : StoreState) (h : History) → StandsFor s h → StandsFor (held_after changes s) (history_after changes h)

-- a row that is not among those since a version is the same in that version's SimplePIR hint and in
-- the current one, both made from scratch
abbrev pub UnchangedRowsStay : Type 0
UnchangedRowsStay = (p : Plan) (h : History) (since : ℕ) (rows : List ℕ) (records : List (List ℕ))
    → delta_rows p h since ≡ Some rows → records_of h since ≡ Some records
    → (r : ℕ) → r < digit_rows (shape_at p (length h.current)) → list_any (nat_eq r) rows ≡ false
    → row (hint_matrix Simple p records) r ≡ row (hint_matrix Simple p h.current) r

-- what differs between a version and the current one moves that version's SimplePIR hint to the
-- current one, both made from scratch
abbrev pub ChangesSinceMoveTheHint : Type 0
ChangesSinceMoveTheHint = (p : Plan) (h : History) (since most : ℕ) (entries : List ℕ) (records : List (List ℕ))
    → IsPlan p (length h.current) → AreGrowing h.current h.past → All (IsRecordOf p) h.current → All (IsRecordOf p) records
    → changes_since p h since most ≡ Some entries → records_of h since ≡ Some records
    → let l = shape_at p (length h.current) in
    moved l (first_public l p.dimension p.seed) (changes_in p.record_len entries) (hint_matrix Simple p records) ≡ hint_matrix Simple p h.current

-- a snapshot of one length that was moved into slots is one that a store is opened with, and holds
-- the same records
abbrev pub MigratedRecordsStay : Type 0
MigratedRecordsStay = (h : Header) (records moved : List ℕ) → IsSound h records → IsPlainForm h.form → IsLayout (shape_of (in_slots h)) →
    AreInSlots h records moved →
    IsSound (in_slots h) moved
    × (records_held (plan_held (in_slots h)) h.count moved ≡ records_held (plan_held h) h.count records)

-- a wide snapshot made of an ordinary one is one that a store is opened with, and holds the same
-- records
abbrev pub WidenedRecordsStay : Type 0
WidenedRecordsStay = (h : Header) (seed records : List ℕ) → IsSound h records → IsOrdinaryForm h.form →
    IsLayout (shape_of (in_wide h seed)) →
    IsSound (in_wide h seed) records
    × (records_held (plan_held (in_wide h seed)) h.count records ≡ records_held (plan_held h) h.count records)
