-- What a client hears, piece by piece.
use Rattle.std.proofs.Common.{◌≡◌, ℕ, List, [], ◌∷◌, ◌++◌, Option, Some, None, Ok, Err, subst, inl, inr}
use Rattle.client_core.specs.declared.state.ClientFault.{ClientFault}
use Rattle.client_core.specs.declared.state.Event.{Event}
use Rattle.client_core.specs.Feeding.{Client, FeedsClient}
use Rattle.blocking_io.specs.declared.conversing.ConverseFault.{ConverseFault}
use Rattle.blocking_io.specs.declared.conversing.ConverseFault.TheVariants as fault
use Rattle.blocking_io.specs.Conversing.{ReceivesPiece, WaitsForReply, Receives}
use Rattle.blocking_io.proofs.Streams.{cut_after}
use Rattle.blocking_io.proofs.Clients.{fed_both}

-- what was heard before a piece, and the piece
pub waits_feeds : (old : Client) (read out : List ℕ) (mid : Client) (piece more : List ℕ) (events : List Event) (f : Option ClientFault) (new : Client)
    → WaitsForReply old read out mid → FeedsClient mid piece more events f new → FeedsClient old (read ++ piece) (out ++ more) events f new
waits_feeds old read out mid piece more events f new (inl w) b = rw (w.0, w.1) (subst (λ (c : Client). FeedsClient c piece more events f new) w.2 b)
waits_feeds old read out mid piece more events f new (inr w) b = fed_both old read out mid piece more events f new w b

-- a piece of which nothing came
pub waits_on : (old : Client) (read out : List ℕ) (mid : Client) (piece more : List ℕ) (found : Option Event) (new : Client) → found ≡ None →
    WaitsForReply old read out mid → ReceivesPiece mid piece (Ok found) new more → WaitsForReply old (read ++ piece) (out ++ more) new
waits_on old read out mid piece more found new e w h =
    let none : FeedsClient mid piece more [] None new = subst (λ (o : Option Event). ReceivesPiece mid piece (Ok o) new more) e h in
    inr (waits_feeds old read out mid piece more [] None new w none)

-- one that brought an event
pub event_heard : (old : Client) (turns : ℕ) (read out : List ℕ) (mid : Client) (piece more : List ℕ) (found : Option Event) (event : Event)
    (left : Option (List ℕ)) (new : Client) → found ≡ Some event → WaitsForReply old read out mid → ReceivesPiece mid piece (Ok found) new more
    → Receives old turns (Ok event) (read ++ piece) (out ++ more) left new
event_heard old turns read out mid piece more found event left new e w h =
    let some : (later : List Event) × (fault : Option ClientFault) × FeedsClient mid piece more (event ∷ later) fault new =
    subst (λ (o : Option Event). ReceivesPiece mid piece (Ok o) new more) e h in
    (some.0, some.1, waits_feeds old read out mid piece more (event ∷ some.0) some.1 new w some.2)

-- one that ended it
pub fault_heard : (old : Client) (turns : ℕ) (read out : List ℕ) (mid : Client) (piece more : List ℕ) (e : ConverseFault) (left : Option (List ℕ))
    (new : Client) → WaitsForReply old read out mid → ReceivesPiece mid piece (Err e) new more
    → Receives old turns (Err e) (read ++ piece) (out ++ more) left new
fault_heard old turns read out mid piece more fault.Ended left new w h = absurd h
fault_heard old turns read out mid piece more fault.Read left new w h = absurd h
fault_heard old turns read out mid piece more fault.Write left new w h =
    (out ++ h.0, h.1, h.2, waits_feeds old read out mid piece h.0 h.1 h.2 new w h.3, cut_after out more h.0 h.4)
fault_heard old turns read out mid piece more fault.BadWelcome left new w h = waits_feeds old read out mid piece more [] (Some _) new w h
fault_heard old turns read out mid piece more fault.BadReply left new w h = waits_feeds old read out mid piece more [] (Some _) new w h
fault_heard old turns read out mid piece more fault.Memory left new w h = waits_feeds old read out mid piece more [] (Some _) new w h
fault_heard old turns read out mid piece more fault.TurnsUsedUp left new w h = absurd h
fault_heard old turns read out mid piece more fault.Failed left new w h = waits_feeds old read out mid piece more [] (Some _) new w h
