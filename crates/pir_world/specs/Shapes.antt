-- What may be seen of a client, read off the log: the shapes of the frames that it sends and of the
-- replies to them, and why its calls are refused.
use Rattle.std.specs.Prelude.{◌≡◌, ◌≢◌, ◌==◌, ℕ, List, [], ◌∷◌, Option, Some, false, cond, slice_get}
use Rattle.std.specs.List.{flat_map, AllByRecursion, AllZip}
use Rattle.frame_codec.specs.declared.refusal.Refusal.TheVariants.{Memory}
use Rattle.frame_codec.specs.Refusals.{refused}
use Rattle.snapshot_file.specs.declared.snapshot.Header.{Header}
use Rattle.server_core.specs.Serving.{Setting}
use Rattle.client_core.specs.declared.state.CallFault.{CallFault}
use Rattle.client_core.specs.declared.state.CallFault.TheVariants.{BadIndex}
use Rattle.client_core.specs.Calls.{call_refusal}
use Rattle.client_core.specs.Calls.{Ask as ask_call}
use Rattle.client_core.specs.Shapes.{FrameShape, shape_of_frame}
use Rattle.pir_world.specs.declared.steps.Step.{Step}
use Rattle.pir_world.specs.declared.steps.Step.TheVariants.{Ask}
use Rattle.pir_world.specs.Runs.{State, ClientLink, LogEntry, Called, Sent, Served, RunsTo, state_after, opening, setting_in}
use Rattle.pir_world.specs.Headlines.{IsOpening}

-- ---- shapes

-- what may be seen of a client: the shape of a frame that it sends; the shape of a reply to it, at
-- the time at which the server makes that; and whether a call of it is refused, and why
pub data Sight : Type 0 where
  FrameSent : (shape : FrameShape) → Sight
  ReplyMade : (shape : FrameShape) → Sight
  CallMade : (refusal : Option CallFault) → Sight

-- what an entry shows of client k: of a frame or a reply its kind and length alone, of a call
-- whether it is refused, and why, and nothing of an event
abbrev pub sights : ℕ → LogEntry → List Sight
sights k (Sent j f) = cond (j == k) (FrameSent (shape_of_frame f) ∷ []) []
sights k (Served j f now (Some reply)) = cond (j == k) (ReplyMade (shape_of_frame reply) ∷ []) []
sights k (Called j want why) = cond (j == k) (CallMade why ∷ []) []
sights k _ = []

-- two logs show the same of each client, in the same order; how what they show of one client lies
-- between what they show of another is not compared
abbrev pub HaveEqualSights : List LogEntry → List LogEntry → Type 0
HaveEqualSights log other = (k : ℕ) → flat_map (sights k) log ≡ flat_map (sights k) other

-- ---- steps that differ in indices alone

-- two steps that are the same, or are asks of one client
abbrev pub IsStepLike : Step → Step → Type 0
IsStepLike (Ask k i) other = (j : ℕ) × (other ≡ Ask k j)
IsStepLike step other = other ≡ step

-- ---- runs without refusals for memory or for an index that differs

-- an entry is no frame served with a refusal for lack of memory
abbrev pub HadMemory : LogEntry → Type 0
HadMemory (Served k f now reply) = reply ≢ Some (refused Memory)
HadMemory _ = Unit {0}

-- an ask is not refused for its index, if the other step is one of another index
abbrev pub AskIsWithin : State → Step → Step → Type 0
AskIsWithin s (Ask k i) other = other ≢ Ask k i → (l : ClientLink) → slice_get s.links k ≡ Some l → call_refusal (ask_call i) l.client ≢ Some BadIndex
AskIsWithin s _ other = Unit {0}

-- From a state on, with a server that has memory, no step of the first list is an ask that is
-- refused for its index, unless the other list has the same ask in its place: that may be any, even
-- one of no record.
abbrev pub AsksAreWithin : Setting → State → List Step → List Step → Type 0
AsksAreWithin x s (step ∷ steps) (other ∷ others) = AskIsWithin s step other × AsksAreWithin x (state_after x false s step) steps others
AsksAreWithin x s _ _ = Unit {0}

-- a run without refusals for memory, in which no ask is refused for its index whose index differs
-- from that in the other steps
pub record IsPlainRun (x : Setting) (s : State) (steps others : List Step) (t : State) : Type 0 where
  pub run : RunsTo x s steps t
  pub memory : AllByRecursion HadMemory t.log
  pub within : AsksAreWithin x s steps others

-- ---- the law

-- In two runs from one opening, whose steps differ in the indices of asks alone, as many frames go
-- each way over each link, in the same order, of the same kinds and lengths, and of each client's
-- calls the same are refused, for the same causes. In both no reply is refused for lack of memory,
-- and none of the asks whose indices differ is refused for its index.
abbrev pub IndicesChangeNoShape : Type 0
IndicesChangeNoShape = (h : Header) (records : List ℕ) (seeds : List (List ℕ)) (steps others : List Step) (last last2 : State) →
    IsOpening h records → AllZip IsStepLike steps others →
    IsPlainRun (setting_in h) (opening h records seeds) steps others last → IsPlainRun (setting_in h) (opening h records seeds) others steps last2 →
    HaveEqualSights last.log last2.log

-- Take any run from `start` whose steps differ from these in the indices of asks alone, beside the
-- run of these that led to `s`. Let no reply be refused for lack of memory in either run, and no
-- ask whose index differs be refused for its index. Then each client has frames and replies of the
-- same kinds and lengths in both, in the same order, and the same calls of it are refused, for the
-- same causes. What the words of a query give away of its index is not said.
abbrev pub HidesIndices : Setting → State → List Step → State → Type 0
HidesIndices x start steps s = (others : List Step) (last : State) → AllZip IsStepLike steps others →
    IsPlainRun x start steps others s → IsPlainRun x start others steps last → HaveEqualSights s.log last.log
