-- The turn of a connection.
use Rattle.std.specs.Prelude.{◌≡◌, ◌≢◌, ◌≤◌, ◌<◌, ◌+◌, ◌-◌, ◌⊎◌, ℕ, List, [], length, take, drop, not, Some, None, Result, Ok, Err}
use Rattle.std.specs.List.{flat_map, AllByRecursion}
use Rattle.std.specs.declared.alloc.AllocError.{AllocError}
use Rattle.frame_codec.specs.declared.frame.Frame.{Frame}
use Rattle.frame_codec.specs.Frames.{IsFrame, encoding}
use Rattle.version_store.specs.Histories.{History, StandsFor}
use Rattle.server_core.specs.Cores.{Core, session_of, MayWait, PublishesNext}
use Rattle.server_core.specs.Serving.{Setting, setting_of, is_closed}
use Rattle.server_core.specs.Sessions.{Session, FeedsFirst}
use Rattle.connection_turns.specs.Calls.{DeviceCall, Read, ReadLater, ReadFails, Write, WriteLater, WriteFails, Append, AppendUndone, AppendLost, TakeBack, TakeBackFails}
use Rattle.connection_turns.specs.Sizes.{most_owed}
use Rattle.connection_turns.specs.Connections.{ConnectionSeen, MayRead, MayServe, MovesTo, Answers, after_receipt, after_end, after_write, after_served_frame}
use Rattle.connection_turns.specs.Runs.{DoesToCore, Serves, OthersStay}
use Rattle.connection_turns.specs.declared.turns.Served.{Served}
use Rattle.connection_turns.specs.declared.turns.Served.TheVariants.{Done, PutOff}
use Rattle.connection_turns.specs.declared.turns.Fault.{Fault}
use Rattle.connection_turns.specs.declared.turns.Fault.TheVariants as fault

-- A frame at most of what was received is served to the connection's session, on the history of its
-- moment: the replies to it are owed then, after what was owed before.
pub record ServesNext (x : Setting) (h : History) (s : Session) (id now : ℕ) (old new : ConnectionSeen) (after : Core) : Type 0 where
  pub count : ℕ
  pub history : History
  pub session : Session
  pub replies : List Frame
  pub within : count ≤ length old.unserved
  pub served : FeedsFirst x h s old.unserved (Ok count) history session replies
  pub each : AllByRecursion IsFrame replies
  pub setting_is : setting_of after.store ≡ x
  pub store_is : StandsFor after.store history
  pub session_is : session_of after.sessions id ≡ Some session
  pub new_is : new ≡ after_served_frame count (flat_map encoding replies) (not (is_closed session.standing)) now old

-- memory for it was refused: nothing was served, and its session is closed
pub record StopsNext (x : Setting) (h : History) (s : Session) (id : ℕ) (old new : ConnectionSeen) (after : Core) : Type 0 where
  pub refused : AllocError
  pub history : History
  pub session : Session
  pub served : FeedsFirst x h s old.unserved (Err refused) history session []
  pub setting_is : setting_of after.store ≡ x
  pub store_is : StandsFor after.store history
  pub session_is : session_of after.sessions id ≡ Some session
  pub new_is : new ≡ old

-- for each history that the store represents, and the session of this number
abbrev pub AtEach : Core → ℕ → (Setting → History → Session → Type 0) → Type 0
AtEach before id P = (h : History) → StandsFor before.store h → (s : Session) → session_of before.sessions id ≡ Some s → P (setting_of before.store) h s

-- what came of a read
abbrev pub ReadsSome : {C : Type 0} → (C → DeviceCall → C → Type 0) → ConnectionSeen → C → ConnectionSeen → C → Type 0
ReadsSome does old a new b =
    (does a ReadLater b × (new ≡ old)) ⊎ ((does a (Read 65536 []) b × (new ≡ after_end old))
    ⊎ ((bytes : List ℕ) × (0 < length bytes) × does a (Read 65536 bytes) b × (new ≡ after_receipt bytes old)))

-- one read at most, if the connection may read
abbrev pub ReadsOnce : {C : Type 0} → (C → DeviceCall → C → Type 0) → ConnectionSeen → C → Result (Unit {0}) Fault → ConnectionSeen → C → Type 0
ReadsOnce does old a (Ok done) new b = ((MayRead old → ⊥) × (new ≡ old) × (b ≡ a)) ⊎ (MayRead old × ReadsSome does old a new b)
ReadsOnce does old a (Err fault.Read) new b = MayRead old × does a ReadFails b × (new ≡ old)
ReadsOnce does old a (Err fault.Memory) new b = MayRead old × ((bytes : List ℕ) × does a (Read 65536 bytes) b) × (new ≡ old)
ReadsOnce does old a (Err _) new b = ⊥

-- the frame at hand is served, or memory for it is refused
abbrev pub FrameGives : ℕ → ℕ → ConnectionSeen → Core → Result (Unit {0}) Fault → ConnectionSeen → Core → Type 0
FrameGives id now old before (Ok done) new after = AtEach before id (λ x h s. ServesNext x h s id now old new after)
FrameGives id now old before (Err fault.Memory) new after = AtEach before id (λ x h s. StopsNext x h s id old new after)
FrameGives id now old before (Err _) new after = ⊥

-- A frame that publishes nothing is served, or memory for it is refused: no call is made for it.
pub record ServesPlain {C : Type 0} (id now : ℕ) (old : ConnectionSeen) (before : Core) (a : C) (answer : Result (Unit {0}) Fault)
    (new : ConnectionSeen) (after : Core) (b : C) : Type 0 where
  pub plain : PublishesNext before id old.unserved → ⊥
  pub gives : FrameGives id now old before answer new after
  pub version_is : after.store.version ≡ before.store.version
  pub no_call : b ≡ a

-- A publication that was appended is made or, if memory is refused to it, taken back.
abbrev pub MakesOrTakesBack : {C : Type 0} → (C → DeviceCall → C → Type 0) → ℕ → C → Result (Unit {0}) Fault → ℕ → C → Type 0
MakesOrTakesBack does before a (Ok done) after b =
    ((after ≡ before + 1) × (b ≡ a)) ⊎ ((after ≡ before) × does a (TakeBack (before + 1)) b)
MakesOrTakesBack does before a (Err e) after b = (after ≡ before) × does a (TakeBack (before + 1)) b

-- the frame of a publication that was appended is served, or memory for it is refused
pub record ServesAppended {C : Type 0} (does : C → DeviceCall → C → Type 0) (id now : ℕ) (old : ConnectionSeen) (before : Core) (a : C)
    (answer : Result (Unit {0}) Fault) (new : ConnectionSeen) (after : Core) (b : C) : Type 0 where
  pub gives : FrameGives id now old before answer new after
  pub ends : MakesOrTakesBack does before.store.version a answer after.store.version b

-- the publication of a frame that was served, or to which memory was refused, was not made, and
-- could not be taken back
pub record FailsToTakeBack {C : Type 0} (does : C → DeviceCall → C → Type 0) (id now : ℕ) (old : ConnectionSeen) (before : Core) (a : C)
    (new : ConnectionSeen) (after : Core) (b : C) : Type 0 where
  pub answer : Result (Unit {0}) Fault
  pub gives : FrameGives id now old before answer new after
  pub version_is : after.store.version ≡ before.store.version
  pub fails : does a (TakeBackFails (before.store.version + 1)) b

-- what comes of a publication that was appended
abbrev pub EndsAppended : {C : Type 0} → (C → DeviceCall → C → Type 0) → ℕ → ℕ → ConnectionSeen → Core → C → Result (Unit {0}) Fault → ConnectionSeen → Core → C → Type 0
EndsAppended does id now old before a (Err fault.Save) new after b = FailsToTakeBack does id now old before a new after b
EndsAppended does id now old before a answer new after b = ServesAppended does id now old before a answer new after b

-- a publication is appended, and only then its frame is served
pub record Publishes {C : Type 0} (does : C → DeviceCall → C → Type 0) (id now : ℕ) (old : ConnectionSeen) (before : Core) (a : C)
    (answer : Result (Unit {0}) Fault) (new : ConnectionSeen) (after : Core) (b : C) : Type 0 where
  pub publishes : PublishesNext before id old.unserved
  pub appended_by : C
  pub appends : does a (Append (before.store.version + 1)) appended_by
  pub ends : EndsAppended does id now old before appended_by answer new after b

-- a publication could not be appended: nothing is served
pub record FailsToAppend {C : Type 0} (does : C → DeviceCall → C → Type 0) (call : ℕ → DeviceCall) (id : ℕ) (old : ConnectionSeen) (before : Core) (a : C)
    (new : ConnectionSeen) (after : Core) (b : C) : Type 0 where
  pub publishes : PublishesNext before id old.unserved
  pub fails : does a (call (before.store.version + 1)) b
  pub seen_is : new ≡ old
  pub core_is : after ≡ before

-- One frame at most, if one may be served. If it publishes, the publication is appended before:
-- if nothing of that is left, nothing is served, and if a part of it may be left, or it could not
-- be taken back, nothing may be written any more. Only a query or a publication is put off; that
-- changes nothing, and no call is made for it.
abbrev pub ServesOnce : {C : Type 0} → (C → DeviceCall → C → Type 0) → ℕ → ℕ → ConnectionSeen → Core → C → Result Served Fault → ConnectionSeen → Core → C → Type 0
ServesOnce does id now old before a (Ok Done) new after b =
    ((MayServe old → ⊥) × (new ≡ old) × (after ≡ before) × (b ≡ a))
    ⊎ (MayServe old × (ServesPlain id now old before a (Ok tt) new after b ⊎ Publishes does id now old before a (Ok tt) new after b))
ServesOnce does id now old before a (Ok PutOff) new after b = MayServe old × MayWait before id old.unserved × (new ≡ old) × (after ≡ before) × (b ≡ a)
ServesOnce does id now old before a (Err fault.Memory) new after b =
    MayServe old × (ServesPlain id now old before a (Err fault.Memory) new after b ⊎ Publishes does id now old before a (Err fault.Memory) new after b)
ServesOnce does id now old before a (Err fault.Write) new after b = MayServe old × FailsToAppend does AppendUndone id old before a new after b
ServesOnce does id now old before a (Err fault.Save) new after b =
    MayServe old × (FailsToAppend does AppendLost id old before a new after b ⊎ Publishes does id now old before a (Err fault.Save) new after b)
ServesOnce does id now old before a (Err fault.Read) new after b = ⊥

-- one write at most, if something is owed
abbrev pub WritesOnce : {C : Type 0} → (C → DeviceCall → C → Type 0) → ℕ → ConnectionSeen → C → Result (Unit {0}) Fault → ConnectionSeen → C → Type 0
WritesOnce does now old a (Ok done) new b =
    ((old.owed ≡ []) × (new ≡ old) × (b ≡ a)) ⊎ ((does a WriteLater b × (new ≡ old))
    ⊎ ((n : ℕ) × (0 < n) × (n ≤ length old.owed) × does a (Write (take n old.owed)) b × (new ≡ after_write n now old)))
WritesOnce does now old a (Err fault.Write) new b = (0 < length old.owed) × does a WriteFails b × (new ≡ old)
WritesOnce does now old a (Err _) new b = ⊥

-- a turn that came to its end, or was stopped by a write that failed
pub record TakesTurn {C : Type 0} (does : C → DeviceCall → C → Type 0) (id now : ℕ) (old : ConnectionSeen) (before : Core) (a : C) (served : Served)
    (answer : Result (Unit {0}) Fault) (new : ConnectionSeen) (after : Core) (b : C) : Type 0 where
  pub filled : ConnectionSeen
  pub answered : ConnectionSeen
  pub read_by : C
  pub served_by : C
  pub reads : ReadsOnce does old a (Ok tt) filled read_by
  pub serves : ServesOnce does id now filled before read_by (Ok served) answered after served_by
  pub writes : WritesOnce does now answered served_by answer new b

-- one that the frame at hand stopped
pub record StopsAtFrame {C : Type 0} (does : C → DeviceCall → C → Type 0) (id now : ℕ) (old : ConnectionSeen) (before : Core) (a : C) (e : Fault)
    (new : ConnectionSeen) (after : Core) (b : C) : Type 0 where
  pub filled : ConnectionSeen
  pub read_by : C
  pub reads : ReadsOnce does old a (Ok tt) filled read_by
  pub serves : ServesOnce does id now filled before read_by (Err e) new after b

-- A turn of a connection: one read at most, one frame at most, whose publication is appended before
-- it is made, and one write at most.
abbrev pub IsTurn : {C : Type 0} → (C → DeviceCall → C → Type 0) → ℕ → ℕ → ConnectionSeen → Core → C → Result Served Fault → ConnectionSeen → Core → C → Type 0
IsTurn does id now old before a (Ok served) new after b = TakesTurn does id now old before a served (Ok tt) new after b
IsTurn does id now old before a (Err fault.Read) new after b = ReadsOnce does old a (Err fault.Read) new b × (after ≡ before)
IsTurn does id now old before a (Err fault.Write) new after b =
    ((served : Served) × TakesTurn does id now old before a served (Err fault.Write) new after b)
    ⊎ StopsAtFrame does id now old before a fault.Write new after b
IsTurn does id now old before a (Err fault.Memory) new after b =
    (ReadsOnce does old a (Err fault.Memory) new b × (after ≡ before)) ⊎ StopsAtFrame does id now old before a fault.Memory new after b
IsTurn does id now old before a (Err fault.Save) new after b = StopsAtFrame does id now old before a fault.Save new after b

-- ---- turns as moves of their connections and as deeds of the one run

-- what was served of the bytes received, between two states of a connection
abbrev pub served_between : ConnectionSeen → ConnectionSeen → List ℕ
served_between old new = take (length old.unserved - length new.unserved) old.unserved

-- what was replied between them
abbrev pub replied_between : ConnectionSeen → ConnectionSeen → List ℕ
replied_between old new = drop (length old.owed) new.owed

-- a frame that was served is a move of the connection
abbrev pub ServedFramesAreMoves : Type 0
ServedFramesAreMoves = (x : Setting) (h : History) (s : Session) (id now : ℕ) (old new : ConnectionSeen) (after : Core) → ServesNext x h s id now old new after →
    MovesTo old (Answers (served_between old new) (replied_between old new) new.live now) new

-- a frame that was served is a deed of the run over one history
abbrev pub ServedFramesAreDeeds : Type 0
ServedFramesAreDeeds = (before after : Core) (id now : ℕ) (old new : ConnectionSeen) → session_of before.sessions id ≢ None →
    AtEach before id (λ x h s. ServesNext x h s id now old new after) → OthersStay id before after
    → DoesToCore before (Serves id (served_between old new) (replied_between old new)) after

-- What is owed is bounded: fewer bytes than the limit, and one reply.
abbrev pub OwedIsBounded : Type 0
OwedIsBounded = (x : Setting) (h : History) (s : Session) (id now : ℕ) (old new : ConnectionSeen) (after : Core) → MayServe old →
    ServesNext x h s id now old new after → length new.owed ≤ most_owed
