-- A client that goes on with what was saved of another.
use Rattle.std.specs.Prelude.{◌≡◌, ◌≢◌, ◌≤◌, ◌<◌, ◌+◌, ℕ, List, [], true, false, Bool, Option, Some, None, Result, Ok, Err}
use Rattle.matrix_u32.specs.Matrix.{row}
use Rattle.digit_pack.specs.Layout.{digits_per_record, first_row}
use Rattle.frame_codec.specs.declared.frame.Frame.{Frame}
use Rattle.pir_schemes.specs.declared.scheme.Scheme.TheVariants.{Simple}
use Rattle.pir_schemes.specs.Retrievals.{hint_rows}
use Rattle.client_core.specs.declared.state.ClientState.{ClientState}
use Rattle.client_core.specs.declared.state.ServerInfo.{ServerInfo}
use Rattle.client_core.specs.declared.state.Hint.{Hint}
use Rattle.client_core.specs.declared.state.CallFault.{CallFault}
use Rattle.client_core.specs.declared.state.Call.TheVariants as call
use Rattle.client_core.specs.declared.resuming.SavedClient.{SavedClient}
use Rattle.client_core.specs.States.{IsState, shape_known, fresh_in, is_ready}
use Rattle.client_core.specs.Calls.{Ask, call_refusal, change_refusal, state_after_call, call_frame, Hello}
use Rattle.client_core.specs.Replies.{is_accepted_welcome}
use Rattle.client_core.specs.Kinds.{takes_welcome}
use Rattle.client_core.specs.Feeding.{Course, takes_all}

-- what is saved of a client: all that lasts but for its seed
abbrev pub saved_of : ClientState → SavedClient
saved_of c = record { number = c.number; known = c.known; hint = c.hint }

-- What was known of a server can have become what is known now: the plan is equal, the version no
-- earlier, and the records are no fewer, as many if the version is the same.
pub record HasBecome (then now : ServerInfo) : Type 0 where
  pub plan : then.plan ≡ now.plan
  pub version : then.version ≤ now.version
  pub count : then.count ≤ now.count
  pub same : then.version ≡ now.version → then.count ≡ now.count

-- a hint of no later version than the last one known, with the rows and columns that its scheme
-- wants
pub record IsHintFor (now : ServerInfo) (h : Hint) : Type 0 where
  pub version : h.version ≤ now.version
  pub rows : h.matrix.rows ≡ hint_rows h.scheme (shape_known now) now.plan.dimension
  pub cols : h.matrix.cols ≡ now.plan.dimension

-- a client that knows this now may go on with the hint saved
abbrev pub MayResumeWith : ServerInfo → Option ServerInfo → Option Hint → Type 0
MayResumeWith now None hint = ⊥
MayResumeWith now (Some then) None = ⊥
MayResumeWith now (Some then) (Some h) = HasBecome then now × IsHintFor now h

-- a client let in goes on with the hint saved, and nothing else of it changes
pub record GoesOnWithHint (old : ClientState) (saved : SavedClient) (new : ClientState) : Type 0 where
  pub now : ServerInfo
  pub known : old.known ≡ Some now
  pub may : MayResumeWith now saved.known saved.hint
  pub state : new ≡ record old { hint = saved.hint }

-- the hint saved is dropped, being none that the client may go on with, and nothing changes
pub record Drops (old : ClientState) (saved : SavedClient) (new : ClientState) : Type 0 where
  pub now : ServerInfo
  pub known : old.known ≡ Some now
  pub may_not : ¬ MayResumeWith now saved.known saved.hint
  pub state : new ≡ old

-- what came of a client's resumption: it holds the hint saved, or that was dropped; refused as a
-- sync is, it is as it was
abbrev pub IsResumed : ClientState → SavedClient → Result Bool CallFault → ClientState → Type 0
IsResumed old saved (Ok true) new = (change_refusal old ≡ None) × GoesOnWithHint old saved new
IsResumed old saved (Ok false) new = (change_refusal old ≡ None) × Drops old saved new
IsResumed old saved (Err fault) new = (change_refusal old ≡ Some fault) × (new ≡ old)

-- a new client of a seed and a number, let in by a server of this plan with this version
abbrev pub let_in : ℕ → List ℕ → ℕ → List ℕ → ServerInfo → ClientState
let_in profile seed number key now = (takes_welcome call.Hello (state_after_call (Hello key) (fresh_in profile seed number)) now.plan now.count now.version).state

-- A new client of the same seed and number, let in by what the server has become, goes on as the
-- client that was saved, with all that this one knew and held but for what the server reports now;
-- and asks at once if the hint is of this version.
pub record IsTheSaved (c : ClientState) (now : ServerInfo) (hint : Hint) (result : Result Bool CallFault) (new : ClientState) : Type 0 where
  pub taken_up : result ≡ Ok true
  pub state : new ≡ record c { known = Some now; parts = []; call = call.Idle; failed = false }
  pub ready : hint.version ≡ now.version → is_ready new.known new.hint ≡ true

-- so it is with every client that held a hint when it was saved
abbrev pub ResumedIsTheSaved : Type 0
ResumedIsTheSaved = (c new : ClientState) (key : List ℕ) (then now : ServerInfo) (h : Hint) (result : Result Bool CallFault) →
    IsState c → c.known ≡ Some then → c.hint ≡ Some h → HasBecome then now → h.version ≤ now.version →
    is_accepted_welcome c.profile now.plan now.count now.version ≡ true →
    IsResumed (let_in c.profile c.seed c.number key now) (saved_of c) result new → IsTheSaved c now h result new

-- a hint of another plan is dropped: the client let in is as it was, and holds none
abbrev pub AnotherPlanDropsTheHint : Type 0
AnotherPlanDropsTheHint = (saved : SavedClient) (new : ClientState) (profile : ℕ) (seed key : List ℕ) (number : ℕ) (then now : ServerInfo) (result : Result Bool CallFault) →
    saved.known ≡ Some then → then.plan ≢ now.plan → is_accepted_welcome profile now.plan now.count now.version ≡ true →
    IsResumed (let_in profile seed number key now) saved result new →
    (result ≡ Ok false) × (new ≡ let_in profile seed number key now) × (new.hint ≡ None)

-- what came of dropping a client's hint: it holds none; refused as a sync is, it is as it was
abbrev pub IsDropped : ClientState → Result (Unit {0}) CallFault → ClientState → Type 0
IsDropped old (Ok done) new = (change_refusal old ≡ None) × (new ≡ record old { hint = None })
IsDropped old (Err fault) new = (change_refusal old ≡ Some fault) × (new ≡ old)

-- ---- a client that holds the rows of one record alone

-- the hint is of SimplePIR, and so is another, of one version and width with it, that has its rows
-- of record i
pub record HasRowsOf (k : ServerInfo) (h : Hint) (i : ℕ) (part : Hint) : Type 0 where
  pub simple : h.scheme ≡ Simple
  pub scheme : part.scheme ≡ Simple
  pub version : part.version ≡ h.version
  pub cols : part.matrix.cols ≡ h.matrix.cols
  pub each : (d : ℕ) → d < digits_per_record (shape_known k) →
      row part.matrix (first_row (shape_known k) i + d) ≡ row h.matrix (first_row (shape_known k) i + d)

-- a client with this hint in place of its own
abbrev pub holding : ClientState → Hint → ClientState
holding c h = record c { hint = Some h }

-- where replies have led a client, with this hint in place of its own
abbrev pub course_holding : Course → Hint → Course
course_holding k h = record k { state = holding k.state h }

-- With the one hint as with the other a client that asks for record i is refused alike and sends
-- the same frame; and whatever replies come then lead to the same events, frames, fault and state
-- but for the hint.
pub record AsksAlike (c : ClientState) (i : ℕ) (part : Hint) : Type 0 where
  pub refusal : call_refusal (Ask i) (holding c part) ≡ call_refusal (Ask i) c
  pub frame : call_frame (Ask i) (holding c part) ≡ call_frame (Ask i) c
  pub replies : (replies : List Frame) → takes_all (state_after_call (Ask i) (holding c part)) replies
      ≡ course_holding (takes_all (state_after_call (Ask i) c) replies) part

-- so it is with every client that holds a hint: the rows of the record suffice
abbrev pub RowsOfTheRecordSuffice : Type 0
RowsOfTheRecordSuffice = (c : ClientState) (k : ServerInfo) (h part : Hint) (i : ℕ) → c.known ≡ Some k → c.hint ≡ Some h → HasRowsOf k h i part →
    AsksAlike c i part
