-- What is there after a crash while the turns of connections are made.
use Rattle.std.specs.Prelude.{◌≡◌, ◌≢◌, ◌-◌, ℕ, List, [], ◌∷◌, ◌++◌, Result, Err}
use Rattle.server_core.specs.Cores.{Core}
use Rattle.connection_turns.specs.Calls.{DeviceCall, Write, Append, TakeBack}
use Rattle.connection_turns.specs.Connections.{ConnectionSeen}
use Rattle.connection_turns.specs.Turns.{IsTurn}
use Rattle.connection_turns.specs.declared.turns.Served.{Served}
use Rattle.connection_turns.specs.declared.turns.Fault.{Fault}
use Rattle.connection_turns.specs.declared.turns.Fault.TheVariants as fault

-- a call is noted after those that were made before it
abbrev pub Notes : List DeviceCall → DeviceCall → List DeviceCall → Type 0
Notes before call after = after ≡ before ++ call ∷ []

-- the version that is there after a crash when these calls were made, and this one was before them
abbrev pub saved_after : ℕ → List DeviceCall → ℕ
saved_after saved [] = saved
saved_after saved (Append version ∷ calls) = saved_after version calls
saved_after saved (TakeBack version ∷ calls) = saved_after (version - 1) calls
saved_after saved (_ ∷ calls) = saved_after saved calls

-- Whenever bytes are written by these calls, this version is the one that is there after a crash;
-- first another may be.
abbrev pub WritesOnlySaved : ℕ → ℕ → List DeviceCall → Type 0
WritesOnlySaved version saved [] = Unit {0}
WritesOnlySaved version saved (Write bytes ∷ calls) = (saved ≡ version) × WritesOnlySaved version saved calls
WritesOnlySaved version saved (Append next ∷ calls) = WritesOnlySaved version next calls
WritesOnlySaved version saved (TakeBack next ∷ calls) = WritesOnlySaved version (next - 1) calls
WritesOnlySaved version saved (_ ∷ calls) = WritesOnlySaved version saved calls

-- What a turn's calls leave: bytes are written only while the version that is served is there after
-- a crash, so that no write comes between an append and the publication or the taking back of it;
-- and that version is there when the turn is over, unless none may follow.
pub record SavesBeforeWriting (before after : ℕ) (answer : Result Served Fault) (calls : List DeviceCall) : Type 0 where
  pub writes : WritesOnlySaved after before calls
  pub saved : answer ≢ Err fault.Save → saved_after before calls ≡ after

-- each turn writes only what is there after a crash
abbrev pub TurnsSaveBeforeWriting : Type 0
TurnsSaveBeforeWriting = (id now : ℕ) (old new : ConnectionSeen) (before after : Core) (answer : Result Served Fault) (calls : List DeviceCall) →
    IsTurn Notes id now old before [] answer new after calls → SavesBeforeWriting before.store.version after.store.version answer calls
