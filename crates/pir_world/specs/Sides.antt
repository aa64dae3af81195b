-- A client's end of a link, and what it has to do with the link of a run.
use Rattle.std.specs.Prelude.{◌≡◌, ◌++◌, ℕ, List, [], length, min, take, drop, Option, Some, None, Ok, Bool, true, nat_lt, slice_get}
use Rattle.std.specs.List.{flat_map, AllByRecursion}
use Rattle.frame_codec.specs.Frames.{encoding}
use Rattle.frame_codec.specs.Streams.{IsFrameOf}
use Rattle.version_store.specs.Histories.{StoreState, History, StandsFor}
use Rattle.server_core.specs.Serving.{Setting, is_wide_setting, setting_of}
use Rattle.server_core.specs.Sessions.{Session, FeedsStore}
use Rattle.server_core.specs.Cores.{Core, session_of}
use Rattle.pir_schemes.specs.Plans.{client_profile}
use Rattle.client_core.specs.declared.state.CallFault.{CallFault}
use Rattle.client_core.specs.declared.state.ClientFault.{ClientFault}
use Rattle.client_core.specs.declared.state.Event.{Event}
use Rattle.client_core.specs.States.{fresh_in}
use Rattle.client_core.specs.Calls.{ClientCall, Accepts, call_refusal}
use Rattle.client_core.specs.Calls.{Hello as hello_call, Sync as sync_call, Ask as ask_call}
use Rattle.client_core.specs.Feeding.{Client, FeedsClient}
use Rattle.pir_world.specs.declared.steps.Step.{Step}
use Rattle.pir_world.specs.declared.steps.Step.TheVariants as step
use Rattle.pir_world.specs.declared.steps.Outcome.{Outcome}
use Rattle.pir_world.specs.declared.client_endpoint.Request.{Request}
use Rattle.pir_world.specs.declared.client_endpoint.Request.TheVariants.{Hello, Sync, Ask}
use Rattle.pir_world.specs.Runs.{Wire, ClientLink, State, outcomes_of, reader_key}

-- a client, and the bytes that wait in each direction
pub record Side : Type 0 where
  pub client : Client
  pub up : List ℕ
  pub down : List ℕ

-- a client of a seed, of wide stores or of ordinary ones, that has sent nothing
abbrev pub fresh_side : Bool → List ℕ → Side
fresh_side wide seed = record { client = record { state = fresh_in (client_profile wide) seed 0; reader = Some [] }; up = []; down = [] }

-- the call that is asked for
abbrev pub call_of : Request → ClientCall
call_of Hello = hello_call reader_key
call_of (Sync scheme) = sync_call scheme
call_of (Ask i) = ask_call i

-- the client that a step names is there
abbrev pub has_client : Step → ℕ → Bool
has_client (step.Edit i bytes) n = true
has_client (step.Append bytes) n = true
has_client step.Publish n = true
has_client (step.Hello k) n = nat_lt k n
has_client (step.Sync k scheme) n = nat_lt k n
has_client (step.Ask k i) n = nat_lt k n
has_client (step.ToServer k most) n = nat_lt k n
has_client (step.ToClient k most) n = nat_lt k n

-- the bytes that a delivery of at most some hands over
abbrev pub prefix : ℕ → List ℕ → List ℕ
prefix most bytes = take (min most (length bytes)) bytes

-- the bytes that a delivery leaves
abbrev pub rest : ℕ → List ℕ → List ℕ
rest most bytes = drop (min most (length bytes)) bytes

-- a delivery to the client: what it sends waits after the other bytes
pub record TakesDelivery (most : ℕ) (old : Side) (out : List ℕ) (events : List Event) (fault : Option ClientFault) (new : Side) : Type 0 where
  pub fed : FeedsClient old.client (prefix most old.down) out events fault new.client
  pub up : new.up ≡ old.up ++ out
  pub down : new.down ≡ rest most old.down

-- a delivery to the server: its replies wait after the other bytes
pub record ServesDelivery (most : ℕ) (h : History) (before : StoreState) (old : Side) (session : Session) (after : StoreState) (new : Side)
    (then_ : Session) : Type 0 where
  pub replies : List ℕ
  pub fed : FeedsStore (setting_of before) h session (prefix most old.up) (Ok tt) after then_ [] replies
  pub client : new.client ≡ old.client
  pub up : new.up ≡ rest most old.up
  pub down : new.down ≡ old.down ++ replies

-- a call: its frame waits after the other bytes, or it is refused and nothing changes
abbrev pub MakesCall : ClientCall → Side → Option CallFault → Side → Type 0
MakesCall want old None new =
    (bytes : List ℕ) × Accepts old.client.state want new.client.state bytes × (new.client.reader ≡ old.client.reader) × (new.up ≡ old.up ++ bytes)
    × (new.down ≡ old.down)
MakesCall want old (Some fault) new = (call_refusal want old.client.state ≡ Some fault) × (new ≡ old)

-- a wire of a store, wide or not, by its bytes: what the reader has of the next frame, and then
-- what waits, encode the frames on their way
pub record Carries (wide : Bool) (reader : Option (List ℕ)) (waiting : List ℕ) (w : Wire) : Type 0 where
  pub unfinished : List ℕ
  pub reader_is : reader ≡ Some unfinished
  pub bytes : unfinished ++ waiting ≡ flat_map encoding w.frames
  pub got : w.got ≡ length unfinished
  pub each : AllByRecursion (IsFrameOf wide) w.frames

-- a client's end and its session are those of a link
pub record EndIs (wide : Bool) (e : Side) (session : Session) (l : ClientLink) : Type 0 where
  pub client_is : e.client.state ≡ l.client
  pub standing_is : session.standing ≡ l.standing
  pub up : Carries wide session.unfinished e.up l.up
  pub down : Carries wide e.client.reader e.down l.down

-- an end, its session and its link; or none of them
abbrev pub Matched : Bool → Option Side → Option Session → Option ClientLink → Type 0
Matched wide (Some e) (Some session) (Some l) = EndIs wide e session l
Matched wide (Some e) (Some session) None = ⊥
Matched wide (Some e) None l = ⊥
Matched wide None session None = Unit {0}
Matched wide None session (Some l) = ⊥

-- the parts of a world are those of a state
pub record Implements (x : Setting) (core : Core) (ends : List Side) (outcomes : List Outcome) (s : State) : Type 0 where
  pub setting_is : setting_of core.store ≡ x
  pub store_is : StandsFor core.store s.history
  pub ends_are : (k : ℕ) → Matched (is_wide_setting x) (slice_get ends k) (session_of core.sessions k) (slice_get s.links k)
  pub outcomes_are : outcomes ≡ outcomes_of s.log
