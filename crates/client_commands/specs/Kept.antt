-- What a client does that keeps its hint from one run to the next.
use Rattle.std.specs.Prelude.{◌≡◌, ◌≢◌, ◌⊎◌, ℕ, List, ◌++◌, Bool, true, false, Option, Some, None, Result, Ok, Err, replicate}
use Rattle.pir_schemes.specs.Plans.{client_profile}
use Rattle.client_core.specs.declared.state.ClientState.{ClientState}
use Rattle.client_core.specs.declared.state.CallFault.{CallFault}
use Rattle.client_core.specs.declared.state.Event.{Event}
use Rattle.client_core.specs.declared.resuming.SavedClient.{SavedClient}
use Rattle.client_core.specs.Calls.{Hello, Ask, change_refusal}
use Rattle.client_core.specs.Resuming.{IsResumed, IsDropped}
use Rattle.client_core.specs.Feeding.{Client}
use Rattle.client_commands.specs.declared.fault.CommandError.{CommandError}
use Rattle.client_commands.specs.declared.fault.CommandError.TheVariants.{Call, Refused}
use Rattle.client_commands.specs.Runs.{number_after_ask}
use Rattle.client_commands.specs.Transcripts.{ComesTo, IsStill}

-- A hint was taken up, a record asked for, and the hint dropped, unless the client refuses that as
-- it refuses a sync.
pub record AsksOver (old : Client) (saved : SavedClient) (index : ℕ) (result : Result Event CommandError) (read out : List ℕ)
    (left : Option (List ℕ)) (new : Client) : Type 0 where
  pub holding : Client
  pub asked : Client
  pub answer : Result (Unit {0}) CallFault
  pub resumed : IsResumed old.state saved (Ok true) holding.state
  pub reader : holding.reader ≡ old.reader
  pub asks : ComesTo holding (Ask index) result read out left asked
  pub number : asked.state.number ≡ number_after_ask index holding.state
  pub dropped : IsDropped asked.state answer new.state
  pub kept : new.reader ≡ asked.reader

-- What came of it: without a hint that the client may go on with, and when it refuses to take one
-- up, nothing is asked for.
abbrev pub AsksWithRows : Client → SavedClient → ℕ → Result (Option Event) CommandError → List ℕ → List ℕ → Option (List ℕ) → Client → Type 0
AsksWithRows old saved index (Ok None) read out left new = IsResumed old.state saved (Ok false) new.state × IsStill old read out new
AsksWithRows old saved index (Ok (Some event)) read out left new = AsksOver old saved index (Ok event) read out left new
AsksWithRows old saved index (Err fault) read out left new =
    ((refusal : CallFault) × (fault ≡ Call refusal) × (change_refusal old.state ≡ Some refusal) × IsStill old read out new)
    ⊎ AsksOver old saved index (Err fault) read out left new

-- no sync is made over the rows: the client holds none, or refuses every sync
abbrev pub MakesNoSync : ClientState → Type 0
MakesNoSync c = (c.hint ≡ None) ⊎ ((fault : CallFault) × (change_refusal c ≡ Some fault))

-- ---- greeting a store of either kind

-- a client that greets wide stores, or ordinary ones
abbrev pub speaking : Bool → Client → Client
speaking wide c = record c { state = record c.state { profile = client_profile wide } }

-- the server refused the profile of ordinary stores, and was greeted again as a wide one
pub record GreetsAgain (old : Client) (result : Result Event CommandError) (read out : List ℕ) (left : Option (List ℕ)) (new : Client) : Type 0 where
  pub refused : Client
  pub read_before : List ℕ
  pub read_after : List ℕ
  pub out_before : List ℕ
  pub out_after : List ℕ
  pub between : Option (List ℕ)
  pub first : ComesTo (speaking false old) (Hello (replicate 32 0)) (Err (Refused 3)) read_before out_before between refused
  pub second : ComesTo (speaking true refused) (Hello (replicate 32 0)) result read_after out_after left new
  pub read_is : read ≡ read_before ++ read_after
  pub out_is : out ≡ out_before ++ out_after

-- as an ordinary store, and again exactly when that is refused for the profile
abbrev pub GreetsEither : Client → Result Event CommandError → List ℕ → List ℕ → Option (List ℕ) → Client → Type 0
GreetsEither old result read out left new =
    (ComesTo (speaking false old) (Hello (replicate 32 0)) result read out left new × (result ≢ Err (Refused 3)))
    ⊎ GreetsAgain old result read out left new
