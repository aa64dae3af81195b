-- What the publications of a log make of a snapshot's record bytes.
use Rattle.std.specs.Prelude.{◌≡◌, ◌+◌, ℕ, List, length, Bool}
use Rattle.publication_log.specs.Publications.{Placed, Published}
use Rattle.snapshot_file.specs.declared.snapshot.Header.{Header}
use Rattle.version_store.specs.Openings.{plan_held, records_for}
use Rattle.log_replay.specs.Replays.{records_replayed, is_replayable}

-- the fields of a snapshot of so many records
abbrev pub with_record_count : Header → ℕ → Header
with_record_count h count = record h { count = count }

-- the fields of a snapshot of this version
abbrev pub with_version : Header → ℕ → Header
with_version h version = record h { version = version }

-- the fields of a snapshot of the next version, of so many records
abbrev pub next_header : Header → ℕ → Header
next_header h count = record h { version = h.version + 1; count = count }

-- a snapshot after changes, of the same version
pub record AreRecordsChanged (h : Header) (bytes : List ℕ) (cs : List Placed) (h' : Header) (bytes' : List ℕ) : Type 0 where
  pub header : h' ≡ with_record_count h (length (records_replayed (records_for h bytes) cs))
  pub held : records_for h' bytes' ≡ records_replayed (records_for h bytes) cs

-- a snapshot after a publication: of the next version, with the records after the changes
pub record AreRecordsReplayed (h : Header) (bytes : List ℕ) (p : Published) (h' : Header) (bytes' : List ℕ) : Type 0 where
  pub header : h' ≡ next_header h (length (records_replayed (records_for h bytes) p.changes))
  pub held : records_for h' bytes' ≡ records_replayed (records_for h bytes) p.changes

-- whether a publication follows a snapshot
abbrev pub is_next_of_snapshot : Header → Published → Bool
is_next_of_snapshot h p = is_replayable (plan_held h) h.version h.count p
