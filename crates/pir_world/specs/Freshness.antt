-- How old an answer may be.
use Rattle.std.specs.Prelude.{◌≡◌, ◌≤◌, ℕ, List, Bool, Some, slice_get}
use Rattle.std.specs.List.{AllByRecursion}
use Rattle.snapshot_file.specs.declared.snapshot.Header.{Header}
use Rattle.version_store.specs.Histories.{History, current_version}
use Rattle.client_core.specs.declared.state.Event.{Event}
use Rattle.client_core.specs.declared.state.Event.TheVariants.{Welcomed, Synced, Retrieved, Unreadable, Stale, Done, Refused}
use Rattle.pir_world.specs.declared.steps.Step.{Step}
use Rattle.pir_world.specs.declared.steps.Outcome.TheVariants.{Published, Reported}
use Rattle.pir_world.specs.Runs.{State, ClientLink, LogEntry, Served, Ended, Plain, RunsTo, serves, arrived, opening, setting_in}
use Rattle.pir_world.specs.Earlier.{AllWithEarlier}
use Rattle.pir_world.specs.Headlines.{IsOpening}

-- an event names no version above this one
abbrev pub NamesUpTo : ℕ → Event → Type 0
NamesUpTo n (Welcomed v) = v ≤ n
NamesUpTo n (Synced scheme v) = v ≤ n
NamesUpTo n (Retrieved i v bytes) = v ≤ n
NamesUpTo n (Unreadable i v) = v ≤ n
NamesUpTo n (Stale v) = v ≤ n
NamesUpTo n (Done v) = v ≤ n
NamesUpTo n (Refused code) = Unit {0}

-- an entry reports no version above this one: neither as an outcome nor by what ended a retrieval
abbrev pub ReportedUpTo : ℕ → LogEntry → Type 0
ReportedUpTo n (Ended k r reply event) = NamesUpTo n event
ReportedUpTo n (Plain (Reported k event)) = NamesUpTo n event
ReportedUpTo n (Plain (Published v)) = v ≤ n
ReportedUpTo n _ = Unit {0}

-- a frame was served while version `now` was current, and no later version had been reported to
-- anybody before
abbrev pub IsServedFresh : List LogEntry → LogEntry → Type 0
IsServedFresh before (Served k f now reply) = AllByRecursion (ReportedUpTo now) before
IsServedFresh before _ = Unit {0}

-- each frame was served while a version was current that is no older than any that had been
-- reported before
abbrev pub IsFreshLog : List LogEntry → Type 0
IsFreshLog log = AllWithEarlier IsServedFresh log

-- a frame is served while `now` is the current version of a history, and no later version had been
-- reported to anybody before
abbrev pub IsFreshIn : History → List LogEntry → LogEntry → Type 0
IsFreshIn h before (Served k f now reply) = (now ≡ current_version h) × AllByRecursion (ReportedUpTo now) before
IsFreshIn h before _ = Unit {0}

-- Every delivery to the server in every run serves frames as `IsFreshIn` says. An answer is of the
-- version that is current when its query is served, so it is never older than a version that had
-- been reported to anybody before.
abbrev pub AnswersAreFresh : Type 0
AnswersAreFresh = (h : Header) (records : List ℕ) (seeds : List (List ℕ)) (steps : List Step) (s : State) → IsOpening h records →
    RunsTo (setting_in h) (opening h records seeds) steps s →
    (short : Bool) (k most : ℕ) (l : ClientLink) → slice_get s.links k ≡ Some l →
    AllByRecursion (IsFreshIn s.history s.log) (serves (setting_in h) short k s.history l.standing (arrived l.up most)).log

-- the log of every run from every snapshot that a store accepts is fresh, for all seeds
abbrev pub EveryLogIsFresh : Type 0
EveryLogIsFresh = (h : Header) (records : List ℕ) (seeds : List (List ℕ)) (steps : List Step) (s : State) → IsOpening h records →
    RunsTo (setting_in h) (opening h records seeds) steps s → IsFreshLog s.log
