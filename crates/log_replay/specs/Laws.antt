-- Laws of what logs make of stores and of snapshots.
use Rattle.std.specs.Prelude.{◌≡◌, ◌≤◌, ℕ, List, [], ◌∷◌, ◌++◌, length}
use Rattle.publication_log.specs.Publications.{Published}
use Rattle.record_log.specs.OldRecords.{OldRecord}
use Rattle.snapshot_file.specs.declared.snapshot.Header.{Header}
use Rattle.version_store.specs.Histories.{StoreState, held_published, without_draft}
use Rattle.version_store.specs.Openings.{held_of}
use Rattle.log_replay.specs.Replays.{records_replayed, replayed, replayed_all, IsDraftOf}
use Rattle.log_replay.specs.Records.{AreRecordsReplayed}

-- what a store keeps after a publication is its own publication of a draft with the changes
abbrev pub ReplayedIsPublished : Type 0
ReplayedIsPublished = (p : Published) (s : StoreState) →
    replayed p s ≡ held_published (record s { draft = records_replayed s.draft p.changes })

-- the publication of a store's draft, replayed on the store without its draft, gives what the
-- store's own publication gives
abbrev pub DraftIsReplayed : Type 0
DraftIsReplayed = (s : StoreState) (p : Published) → IsDraftOf s p → replayed p (without_draft s) ≡ held_published s

-- a snapshot after publications, each made on its records
abbrev pub AreRecordsReplayedAll : Header → List ℕ → List Published → Header → List ℕ → Type 0
AreRecordsReplayedAll h bytes [] h' bytes' = (h' ≡ h) × (bytes' ≡ bytes)
AreRecordsReplayedAll h bytes (p ∷ ps) h' bytes' =
    (mid : Header) × (between : List ℕ) × AreRecordsReplayed h bytes p mid between × AreRecordsReplayedAll mid between ps h' bytes'

-- a store with other logs of the rows and of the old bytes that publications changed
abbrev pub with_logs : List (List ℕ) → List (List OldRecord) → StoreState → StoreState
with_logs log olds s = record s { log = log; olds = olds }

-- a store that is opened with a snapshot after publications keeps what the store that is opened
-- with the snapshot before them keeps after them, but the rows and the old bytes that they changed
abbrev pub RecordsReplayAlike : Type 0
RecordsReplayAlike = (h h' : Header) (bytes bytes' : List ℕ) (ps : List Published) → AreRecordsReplayedAll h bytes ps h' bytes' →
    held_of h' bytes' ≡ with_logs [] [] (replayed_all ps (held_of h bytes))

-- a store that is opened with a later snapshot, and on which 16 publications or more are replayed,
-- keeps what the store keeps that is opened with the first snapshot and on which all are replayed,
-- the rows and the old bytes that the latest 16 changed too
abbrev pub LastSixteenSuffice : Type 0
LastSixteenSuffice = (h h' : Header) (bytes bytes' : List ℕ) (earlier latest : List Published) → AreRecordsReplayedAll h bytes earlier h' bytes' →
    16 ≤ length latest → replayed_all latest (held_of h' bytes') ≡ replayed_all (earlier ++ latest) (held_of h bytes)
