-- What callers see of a world.
use Rattle.std.specs.Prelude.{◌≡◌, ℕ, List, [], length, Bool, false}
use Rattle.snapshot_file.specs.declared.snapshot.Header.{Header}
use Rattle.server_core.specs.Cores.{Core}
use Rattle.pir_world.specs.declared.steps.Step.{Step}
use Rattle.pir_world.specs.declared.steps.Outcome.{Outcome}
use Rattle.pir_world.specs.Runs.{State, outcomes_of, setting_in}
use Rattle.pir_world.specs.Headlines.{IsRunFrom}
use Rattle.pir_world.specs.Sides.{Side, Implements}

-- the snapshot and the seeds it was opened with, the server, the clients' ends, the steps made and
-- the outcomes, in order, and whether memory was refused in a step
pub record WorldSeen : Type 0 where
  pub header : Header
  pub records : List ℕ
  pub seeds : List (List ℕ)
  pub core : Core
  pub ends : List Side
  pub steps : List Step
  pub outcomes : List Outcome
  pub broken : Bool

-- a run of a world's steps from its opening leads to this state, whose outcomes the world has;
-- until memory was refused in a step, its parts are the state's
pub record IsRunOf (w : WorldSeen) (s : State) : Type 0 where
  pub run : IsRunFrom w.header w.records w.seeds w.steps s
  pub outcomes_are : w.outcomes ≡ outcomes_of s.log
  pub parts : w.broken ≡ false → Implements (setting_in w.header) w.core w.ends w.outcomes s

-- a world that has made no step
pub record IsNew (w : WorldSeen) (h : Header) (records : List ℕ) (seeds : List (List ℕ)) : Type 0 where
  pub header : w.header ≡ h
  pub records_are : w.records ≡ records
  pub seeds_are : w.seeds ≡ seeds
  pub clients : length w.ends ≡ length seeds
  pub steps : w.steps ≡ []
  pub outcomes : w.outcomes ≡ []
  pub unbroken : w.broken ≡ false
