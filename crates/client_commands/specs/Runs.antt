-- Runs of a client, and the seeds and numbers of their retrievals. A run draws its seed from the
-- system's random source as it begins, and counts from 0. It reads neither from its folder, so no
-- crash of a run, no copy and no restoration of the folder brings a seed or a number back.
use Rattle.std.specs.Prelude.{◌≡◌, ◌≢◌, ◌+◌, ℕ, zero, suc, List, [], ◌∷◌, ◌++◌, map, Bool, true, false, Option, Some, None, is_some, slice_get, if◌then◌else◌}
use Rattle.std.specs.List.{AllByRecursion}
use Rattle.pir_schemes.specs.Plans.{client_profile}
use Rattle.client_core.specs.declared.state.ClientState.{ClientState}
use Rattle.client_core.specs.declared.state.Hint.{Hint}
use Rattle.client_core.specs.States.{fresh}
use Rattle.client_core.specs.Calls.{Ask, call_refusal}
use Rattle.client_core.specs.Laws.{Happening, after, numbers_at}

-- the next number of a client after an ask, whatever came of it: one more, unless a check of the
-- client refuses the ask
abbrev pub number_after_ask : ℕ → ClientState → ℕ
number_after_ask index c = if is_some (call_refusal (Ask index) c) then c.number else c.number + 1

-- ---- runs, and what happens to them

-- a run: its client, and whether it has ended, by itself or by a crash
pub record RunOfClient : Type 0 where
  pub client : ClientState
  pub ended : Bool

-- a run as it begins with these bytes of the random source
abbrev pub run_of : List ℕ → RunOfClient
run_of draw = record { client = fresh draw 0; ended = false }

-- the bytes of the files in a folder, and the runs over it, in the order in which they began: any
-- number of them at one time
pub record RunsOverFolder : Type 0 where
  pub folder : List (List ℕ)
  pub runs : List RunOfClient

-- a folder as it is found, and no run
abbrev pub runs_over_folder : List (List ℕ) → RunsOverFolder
runs_over_folder folder = record { folder = folder; runs = [] }

-- What happens: a run begins with a draw of the random source; its client, named by the run's
-- place, greets wide stores or ordinary ones from then on; something happens to it, as a call or a
-- reply; it takes up a hint, whatever it is, or drops its own; a run ends, by itself or by a crash;
-- other files stand in the folder, as a run keeps a hint there, or as the folder is copied from
-- elsewhere, restored or damaged.
pub data StepOfRun : Type 0 where
  Begins : (draw : List ℕ) → StepOfRun
  Speaks : (run : ℕ) (wide : Bool) → StepOfRun
  Happens : (run : ℕ) (happening : Happening) → StepOfRun
  TakesUp : (run : ℕ) (hint : Option Hint) → StepOfRun
  Ends : (run : ℕ) → StepOfRun
  Replaces : (folder : List (List ℕ)) → StepOfRun

-- a run that goes on, after what happens to its client
abbrev pub run_after : Happening → RunOfClient → RunOfClient
run_after happening run = if run.ended then run else record run { client = after run.client happening }

-- a run whose client holds this hint
abbrev pub run_holding : Option Hint → RunOfClient → RunOfClient
run_holding hint run = record run { client = record run.client { hint = hint } }

-- a run whose client greets wide stores, or ordinary ones
abbrev pub run_speaking : Bool → RunOfClient → RunOfClient
run_speaking wide run = record run { client = record run.client { profile = client_profile wide } }

-- a run that has ended
abbrev pub run_ended : RunOfClient → RunOfClient
run_ended run = record run { ended = true }

-- runs, of which the one at this place is changed
unfoldable pub with_changed : List RunOfClient → ℕ → (RunOfClient → RunOfClient) → List RunOfClient
with_changed [] i change = []
with_changed (run ∷ runs) zero change = change run ∷ runs
with_changed (run ∷ runs) (suc i) change = run ∷ with_changed runs i change

-- the runs after a step. None of them depends on the folder
abbrev pub runs_after : List RunOfClient → StepOfRun → List RunOfClient
runs_after runs (Begins draw) = runs ++ (run_of draw ∷ [])
runs_after runs (Speaks i wide) = with_changed runs i (run_speaking wide)
runs_after runs (Happens i happening) = with_changed runs i (run_after happening)
runs_after runs (TakesUp i hint) = with_changed runs i (run_holding hint)
runs_after runs (Ends i) = with_changed runs i run_ended
runs_after runs (Replaces folder) = runs

-- the folder after a step
abbrev pub folder_after : List (List ℕ) → StepOfRun → List (List ℕ)
folder_after folder (Replaces other) = other
folder_after folder _ = folder

-- the folder and the runs after a step
abbrev pub runs_over_folder_after : RunsOverFolder → StepOfRun → RunsOverFolder
runs_over_folder_after w step = record { folder = folder_after w.folder step; runs = runs_after w.runs step }

-- ---- retrievals

-- a retrieval: its run, by its place, and the seed and the number of its query
pub record RunRetrieval : Type 0 where
  pub run : ℕ
  pub seed : List ℕ
  pub number : ℕ

-- what a run asks for by a happening, the run being at this place
abbrev pub asked_by : ℕ → Happening → Option RunOfClient → List RunRetrieval
asked_by i happening None = []
asked_by i happening (Some run) =
    if run.ended then [] else map (λ n. record { run = i; seed = run.client.seed; number = n }) (numbers_at run.client happening)

-- what is asked for by a step
abbrev pub asked_at : RunsOverFolder → StepOfRun → List RunRetrieval
asked_at w (Happens i happening) = asked_by i happening (slice_get w.runs i)
asked_at w _ = []

-- the retrievals of steps, in order
unfoldable pub retrievals : RunsOverFolder → List StepOfRun → List RunRetrieval
retrievals w [] = []
retrievals w (step ∷ steps) = asked_at w step ++ retrievals (runs_over_folder_after w step) steps

-- the bytes that a step draws
abbrev pub drawn_at : StepOfRun → List (List ℕ)
drawn_at (Begins draw) = draw ∷ []
drawn_at _ = []

-- the draws of steps, in order: the one at a place is that of the run at this place
unfoldable pub draws : List StepOfRun → List (List ℕ)
draws [] = []
draws (step ∷ steps) = drawn_at step ++ draws steps

-- two retrievals are of two runs, and the random source gave both of them these bytes
pub record HaveOneSeed (all : List (List ℕ)) (seed : List ℕ) (one other : RunRetrieval) : Type 0 where
  pub runs : one.run ≢ other.run
  pub first : slice_get all one.run ≡ Some seed
  pub second : slice_get all other.run ≡ Some seed

-- each retrieval, beside each later one: they have the same seed and the same number only when the
-- random source gave two runs the same bytes
unfoldable pub MeetByDraws : List (List ℕ) → List RunRetrieval → Type 0
MeetByDraws all [] = Unit {0}
MeetByDraws all (one ∷ later) =
    AllByRecursion (λ other. one.seed ≡ other.seed → one.number ≡ other.number → HaveOneSeed all one.seed one other) later × MeetByDraws all later

-- so it is whatever stands in the folder, and whatever steps there are
abbrev pub OnlyEqualDrawsMeet : Type 0
OnlyEqualDrawsMeet = (folder : List (List ℕ)) (steps : List StepOfRun) → MeetByDraws (draws steps) (retrievals (runs_over_folder folder) steps)

-- a step that changes the folder alone
abbrev pub is_replacement : StepOfRun → Bool
is_replacement (Replaces folder) = true
is_replacement _ = false

-- steps without those that change the folder alone
unfoldable pub without_replacements : List StepOfRun → List StepOfRun
without_replacements [] = []
without_replacements (step ∷ steps) = if is_replacement step then without_replacements steps else step ∷ without_replacements steps

-- what stands in the folder, and what becomes of it, changes no retrieval's seed and no number
abbrev pub FoldersChangeNothing : Type 0
FoldersChangeNothing = (folder other : List (List ℕ)) (steps : List StepOfRun) →
    retrievals (runs_over_folder folder) steps ≡ retrievals (runs_over_folder other) (without_replacements steps)
