-- The codes of a server's results, as include/vulandrai.h lists them.
use Rattle.std.specs.Prelude.{ℕ, Result, Ok, Err}
use Rattle.server_core.specs.declared.server.FeedError.{FeedError}
use Rattle.server_core.specs.declared.server.FeedError.TheVariants as served
use Rattle.server_core.specs.declared.server.SessionError.{SessionError}
use Rattle.server_core.specs.declared.server.SessionError.TheVariants as opening
use Rattle.foreign_sessions.specs.declared.server.PieceFault.{PieceFault}
use Rattle.foreign_sessions.specs.declared.server.PieceFault.TheVariants as piece
use Rattle.snapshot_file.specs.declared.snapshot.SnapshotFault.{SnapshotFault}
use Rattle.snapshot_file.specs.declared.snapshot.SnapshotFault.TheVariants as snapshot
use Rattle.version_store.specs.declared.store.EditError.{EditError}
use Rattle.version_store.specs.declared.store.EditError.TheVariants as edit
use Rattle.version_store.specs.declared.store.AppendError.{AppendError}
use Rattle.version_store.specs.declared.store.AppendError.TheVariants as append
use Rattle.version_store.specs.declared.store.PublishError.{PublishError}
use Rattle.version_store.specs.declared.store.PublishError.TheVariants as publication

-- the code of bytes that are no snapshot file, or for which memory is refused
abbrev pub snapshot_code : SnapshotFault → ℕ
snapshot_code snapshot.NotSnapshot = 64
snapshot_code snapshot.BadLayout = 65
snapshot_code snapshot.Short = 66
snapshot_code snapshot.BadDigest = 67
snapshot_code snapshot.TrailingBytes = 68
snapshot_code snapshot.BadSlot = 69
snapshot_code snapshot.Read = 70
snapshot_code snapshot.Memory = 5

-- the code of the opening of a session
abbrev pub opening_code : Result (Unit {0}) SessionError → ℕ
opening_code (Ok done) = 0
opening_code (Err opening.IdInUse) = 49
opening_code (Err opening.Memory) = 5

-- the code of a piece that the server refuses
abbrev pub served_code : FeedError → ℕ
served_code served.NoSession = 48
served_code served.Memory = 5

-- the code of a piece of a session's stream
abbrev pub piece_code : Result (Unit {0}) PieceFault → ℕ
piece_code (Ok done) = 0
piece_code (Err piece.Untaken) = 36
piece_code (Err (piece.Server fault)) = served_code fault

-- the code of the first frame of a piece
abbrev pub frame_code : Result ℕ PieceFault → ℕ
frame_code (Ok taken) = 0
frame_code (Err fault) = piece_code (Err fault)

-- the code of a server's edit
abbrev pub edit_code : Result (Unit {0}) EditError → ℕ
edit_code (Ok done) = 0
edit_code (Err edit.BadIndex) = 50
edit_code (Err edit.BadLength) = 51
edit_code (Err edit.Memory) = 5

-- the code of a server's append
abbrev pub append_code : Result (Unit {0}) AppendError → ℕ
append_code (Ok done) = 0
append_code (Err append.BadLength) = 51
append_code (Err append.Full) = 54
append_code (Err append.Memory) = 5

-- the code of a server's publication
abbrev pub publication_code : Result ℕ PublishError → ℕ
publication_code (Ok version) = 0
publication_code (Err publication.NothingToPublish) = 52
publication_code (Err publication.VersionsUsedUp) = 53
publication_code (Err publication.Memory) = 5
