-- What a push does with the bytes that a server sends.
use Rattle.std.specs.Prelude.{◌≡◌, ◌==◌, ◌<◌, ℕ, List, [], ◌∷◌, length, Option, Some, None, Result, Ok, Err, MatchBool}
use Rattle.publication_log.specs.Publications.{Published}
use Rattle.client_core.specs.declared.state.CallFault.TheVariants.{NotReady}
use Rattle.client_core.specs.declared.state.ClientFault.{ClientFault}
use Rattle.client_core.specs.declared.state.Event.{Event}
use Rattle.client_core.specs.declared.state.Event.TheVariants.{Welcomed, Done, Refused}
use Rattle.client_core.specs.declared.state.ServerInfo.{ServerInfo}
use Rattle.client_core.specs.Calls.{ClientCall, Edit, Append, Publish, Accepts, Refuses}
use Rattle.client_core.specs.Feeding.{Client, FeedsClient}
use Rattle.publication_push.specs.declared.fault.PushFault.{PushFault}
use Rattle.publication_push.specs.declared.fault.PushFault.TheVariants as fault
use Rattle.publication_push.specs.declared.orders.Orders.{Orders}
use Rattle.publication_push.specs.declared.push.PushStep.{PushStep}
use Rattle.publication_push.specs.declared.push.PushStep.TheVariants.{Waits, Sends, Greeted, Pushed}
use Rattle.publication_push.specs.Orders.{Ordered, Edits, Appends, Publishes, done_version, orders_of, HasOrders}

-- a push as contracts see it: the client, the orders that are left, and the version that the next
-- Done is to name
pub record Pushing : Type 0 where
  pub client : Client
  pub orders : Orders
  pub awaited : ℕ

-- the call that asks a server for this
abbrev pub ordered_call : Ordered → ClientCall
ordered_call (Edits place bytes) = Edit place bytes
ordered_call (Appends bytes) = Append bytes
ordered_call (Publishes version) = Publish

-- the bytes of an order's record
abbrev pub order_bytes : Ordered → List ℕ
order_bytes (Edits place bytes) = bytes
order_bytes (Appends bytes) = bytes
order_bytes (Publishes version) = []

-- why an order was not sent: the client refused the call, or its record is not one of a log
abbrev pub IsUnsent : Client → Ordered → PushFault → Client → Type 0
IsUnsent client o (fault.Call why) new = Refuses client.state (ordered_call o) why new.state
IsUnsent client o fault.BadLog new = (new ≡ client) × (65535 < length (order_bytes o))
IsUnsent client o _ new = ⊥

-- what came of sending the next order: its bytes are given, and the version of its Done is awaited;
-- or the client refused the call
abbrev pub IsNextSent : Client → ℕ → Ordered → List Ordered → Result PushStep PushFault → Pushing → Type 0
IsNextSent client awaited o others (Ok (Sends bytes)) new =
    Accepts client.state (ordered_call o) new.client.state bytes.items × HasOrders new.orders others × (new.awaited ≡ done_version awaited o)
IsNextSent client awaited o others (Err (fault.Call why)) new = Refuses client.state (ordered_call o) why new.client.state
IsNextSent client awaited o others _ new = ⊥

-- the first of the orders that were left is sent by a client, after this version; or none was left,
-- and all is pushed
abbrev pub SendsNext : Client → ℕ → List Ordered → Result PushStep PushFault → Pushing → Type 0
SendsNext client awaited [] result new = (result ≡ Ok (Pushed awaited)) × (new.client ≡ client)
SendsNext client awaited (o ∷ others) result new = IsNextSent client awaited o others result new × (new.client.reader ≡ client.reader)

-- what begins a push of these publications: their first order, by the count and the version that
-- the server reported
abbrev pub BeginsPush : Client → Option ServerInfo → List Published → Result PushStep PushFault → Pushing → Type 0
BeginsPush client None ps result new = result ≡ Err (fault.Call NotReady)
BeginsPush client (Some known) ps result new = SendsNext client known.version (orders_of known.count ps) result new

-- what the server reported when it took the greeting
abbrev pub greeted : Option ServerInfo → Result PushStep PushFault
greeted None = Err fault.NotDone
greeted (Some known) = Ok (Greeted known)

-- an answer after which nothing else has changed
abbrev pub OnlyAnswers : Pushing → Result PushStep PushFault → Result PushStep PushFault → Pushing → Type 0
OnlyAnswers old answer result new = (result ≡ answer) × (new ≡ old)

-- what comes of a reply's event: the awaited Done is followed by what is next, and each other one
-- but the Welcome ends the push
abbrev pub Takes : Pushing → List Ordered → Event → Result PushStep PushFault → Pushing → Type 0
Takes old left (Welcomed version) result new = OnlyAnswers old (greeted old.client.state.known) result new
Takes old left (Done named) result new =
    MatchBool (named == old.awaited) (SendsNext old.client old.awaited left result new) (OnlyAnswers old (Err (fault.WrongVersion old.awaited named)) result new)
Takes old left (Refused code) result new = OnlyAnswers old (Err (fault.Refused code)) result new
Takes old left _ result new = OnlyAnswers old (Err fault.NotDone) result new

-- what comes of the first event
abbrev pub TakesFirst : Pushing → List Ordered → List Event → Result PushStep PushFault → Pushing → Type 0
TakesFirst old left [] result new = OnlyAnswers old (Ok Waits) result new
TakesFirst old left (event ∷ later) result new = Takes old left event result new

-- what comes of the client's fault, or of the first event if there is no fault
abbrev pub ComesOf : Pushing → List Ordered → List Event → Option ClientFault → Result PushStep PushFault → Pushing → Type 0
ComesOf old left events (Some why) result new = OnlyAnswers old (Err (fault.Client why)) result new
ComesOf old left events None result new = TakesFirst old left events result new

-- a piece of the server's stream, fed to a push of which these orders are left
pub record IsFed (old : Pushing) (left : List Ordered) (piece : List ℕ) (result : Result PushStep PushFault) (new : Pushing) : Type 0 where
  pub out : List ℕ
  pub events : List Event
  pub why : Option ClientFault
  pub client : Client
  pub fed : FeedsClient old.client piece out events why client
  pub comes : ComesOf (record old { client = client }) left events why result new
