-- Turns of an engine.
use Rattle.std.proofs.Common.{◌≡◌, ◌<◌, ◌⊎◌, ℕ, true, List, [], ◌∷◌, ◌++◌, Option, Some, None, Ok, Err, sym, subst, inl, inr}
use Rattle.connection_io.specs.Calls.{IoCall, Sends}
use Rattle.client_core.specs.Feeding.{Client, FeedsClient}
use Rattle.client_core.specs.declared.state.ClientFault.{ClientFault}
use Rattle.client_core.specs.declared.state.ClientFault.TheVariants as client_fault
use Rattle.client_core.specs.declared.state.Event.{Event}
use Rattle.server_core.specs.Cores.{Core}
use Rattle.blocking_io.specs.declared.serving.ServeFault.{ServeFault}
use Rattle.blocking_io.specs.declared.serving.ServeFault.TheVariants as serve_fault
use Rattle.blocking_io.specs.declared.conversing.ConverseFault.{ConverseFault}
use Rattle.blocking_io.specs.declared.conversing.ConverseFault.TheVariants as converse_fault
use Rattle.connection_io.specs.Turns.{CallTurn}
use Rattle.blocking_io.specs.Conversing.{ReceivesPiece, converse_fault as fault_of}
use Rattle.std.proofs.lemmas.Fn.{FoldsTo-push}
use Rattle.blocking_io.specs.ServingTurns.{TakesPiece, LeavesSession, ServesTurn, KeepsServing, EndsTurns}
use Rattle.blocking_io.specs.ConversingTurns.{TakesReply, WritesSayings, ReceivesTurn, ConversingGoesOn as WaitsOn}

-- a piece at which something failed is a turn
pub faulty_turn : {C : Type 0} (does : C → IoCall → C → Type 0) (id : ℕ) (old : Core) (a : C) (e : ServeFault) (turn : CallTurn) (new : Core) (b : C) →
    (e ≡ serve_fault.Write) ⊎ (e ≡ serve_fault.Memory)
    → TakesPiece does id old a (Err e) turn new b → ServesTurn does id old a (Err e) new b
faulty_turn does id old a serve_fault.IdInUse turn new b (inl e) t = absurd (let no : serve_fault.IdInUse ≡ serve_fault.Write = e in cc)
faulty_turn does id old a serve_fault.IdInUse turn new b (inr e) t = absurd (let no : serve_fault.IdInUse ≡ serve_fault.Memory = e in cc)
faulty_turn does id old a serve_fault.Read turn new b (inl e) t = absurd (let no : serve_fault.Read ≡ serve_fault.Write = e in cc)
faulty_turn does id old a serve_fault.Read turn new b (inr e) t = absurd (let no : serve_fault.Read ≡ serve_fault.Memory = e in cc)
faulty_turn does id old a serve_fault.Write turn new b w t = (turn, t)
faulty_turn does id old a serve_fault.Memory turn new b w t = (turn, t)
faulty_turn does id old a serve_fault.TurnsUsedUp turn new b (inl e) t = absurd (let no : serve_fault.TurnsUsedUp ≡ serve_fault.Write = e in cc)
faulty_turn does id old a serve_fault.TurnsUsedUp turn new b (inr e) t = absurd (let no : serve_fault.TurnsUsedUp ≡ serve_fault.Memory = e in cc)

pub deaf_turn : {C : Type 0} (does : C → IoCall → C → Type 0) (old : Client) (a : C) (e : ConverseFault) (turn : CallTurn) (new : Client) (b : C)
    → TakesReply does old a (Err e) turn new b → ReceivesTurn does old a (Err e) new b
deaf_turn does old a converse_fault.Ended turn new b t = absurd t.heard
deaf_turn does old a converse_fault.Read turn new b t = absurd t.heard
deaf_turn does old a converse_fault.Write turn new b t = (turn, t)
deaf_turn does old a converse_fault.BadWelcome turn new b t = (turn, t)
deaf_turn does old a converse_fault.BadReply turn new b t = (turn, t)
deaf_turn does old a converse_fault.Memory turn new b t = (turn, t)
deaf_turn does old a converse_fault.TurnsUsedUp turn new b t = (turn, t)
deaf_turn does old a converse_fault.Failed turn new b t = (turn, t)

-- one more turn
pub goes_on_more : {C : Type 0} (does : C → IoCall → C → Type 0) (id : ℕ) (old : Core) (a : C) (turns : List CallTurn) (mid : Core) (b : C) (turn : CallTurn)
    (new : Core) (c : C)
    → KeepsServing does id old a turns mid b → LeavesSession does id true mid b turn new c → KeepsServing does id old a (turns ++ turn ∷ []) new c
goes_on_more {C = C} does id old a turns mid b turn new c go t =
    FoldsTo-push {P = Core × C} (λ p turn q. LeavesSession does id true p.0 p.1 turn q.0 q.1) (old, a) turns (mid, b) turn (new, c) go t

pub receives_more : {C : Type 0} (does : C → IoCall → C → Type 0) (old : Client) (a : C) (turns : List CallTurn) (mid : Client) (b : C) (turn : CallTurn)
    (new : Client) (c : C)
    → WaitsOn does old a turns mid b → TakesReply does mid b (Ok None) turn new c → WaitsOn does old a (turns ++ turn ∷ []) new c
receives_more {C = C} does old a turns mid b turn new c go t =
    FoldsTo-push {P = Client × C} (λ p turn q. TakesReply does p.0 p.1 (Ok None) turn q.0 q.1) (old, a) turns (mid, b) turn (new, c) go t

-- the last turn failed
pub stops_by : {C : Type 0} (does : C → IoCall → C → Type 0) (id turns count : ℕ) (old : Core) (a : C) (e : ServeFault) (new : Core) (b : C) → count < turns
    → ServesTurn does id old a (Err e) new b → EndsTurns does id turns count old a (Err e) new b
stops_by does id turns count old a serve_fault.IdInUse new b lt t = (lt, t)
stops_by does id turns count old a serve_fault.Read new b lt t = (lt, t)
stops_by does id turns count old a serve_fault.Write new b lt t = (lt, t)
stops_by does id turns count old a serve_fault.Memory new b lt t = (lt, t)
stops_by does id turns count old a serve_fault.TurnsUsedUp new b lt t = absurd t

-- what the client says to a piece went out, and then its fault is answered
pub fault_answered : {C : Type 0} (does : C → IoCall → C → Type 0) (old : Client) (a : C) (piece said bytes : List ℕ) (events : List Event)
    (found : Option ClientFault) (f : ClientFault) (e : ConverseFault) (new : Client) (b : C)
    → e ≡ fault_of f → said ≡ bytes → Sends does a said b → FeedsClient old piece bytes events found new → events ≡ [] → found ≡ Some f
    → (x : List ℕ) × WritesSayings does (Err e) a x b × ReceivesPiece old piece (Err e) new x
fault_answered does old a piece said bytes events found f e new b is same sends fed none some =
    let out : Sends does a bytes b = subst (λ (x : List ℕ). Sends does a x b) same sends in
    let silent : FeedsClient old piece bytes [] (Some f) new =
    subst (λ es. FeedsClient old piece bytes es (Some f) new) none (subst (λ o. FeedsClient old piece bytes events o new) some fed) in
    let both = subst (λ k. WritesSayings does (Err k) a bytes b × ReceivesPiece old piece (Err k) new bytes) (sym is) (by_fault f out silent) in
    (bytes, both.0, both.1)
  where
    by_fault : (f : ClientFault) → Sends does a bytes b → FeedsClient old piece bytes [] (Some f) new → WritesSayings does (Err (fault_of f)) a bytes b
        × ReceivesPiece old piece (Err (fault_of f)) new bytes
    by_fault client_fault.BadWelcome out fed = (out, fed)
    by_fault client_fault.BadReply out fed = (out, fed)
    by_fault client_fault.Memory out fed = (out, fed)
    by_fault client_fault.Failed out fed = (out, fed)
