-- What a conversation leaves, whatever the server says.
use Rattle.std.proofs.Common.{◌≡◌, ℕ, false, List, [], ◌∷◌, Option, Result, Ok, Err, inl, inr}
use Rattle.client_core.specs.declared.state.ClientFault.{ClientFault}
use Rattle.client_core.specs.declared.state.Event.{Event}
use Rattle.client_core.specs.Feeding.{Client, FeedsClient}
use Rattle.client_core.specs.Endings.{Ends, IsNoSync}
use Rattle.client_core.proofs.EndingLaws.{first_event_ends_the_call}
use Rattle.client_core.proofs.HintKeeping.{only_syncs_change_the_hint}
use Rattle.blocking_io.specs.declared.conversing.ConverseFault.{ConverseFault}
use Rattle.blocking_io.specs.declared.conversing.ConverseFault.TheVariants.{Ended, Read, Write, BadWelcome, BadReply, Memory, TurnsUsedUp, Failed}
use Rattle.blocking_io.specs.Conversing.{WaitsForReply, Receives, NeverReceives, Converses}

-- ---- what each feed keeps

-- what holds of a client and what it is fed to become, whatever the piece
abbrev pub HoldsOfFeeds : (Client → Client → Type 0) → Type 0
HoldsOfFeeds P = (old new : Client) (piece out : List ℕ) (events : List Event) (fault : Option ClientFault) → FeedsClient old piece out events fault new →
    P old new

-- what holds of a client and itself
abbrev pub HoldsOfItself : (Client → Client → Type 0) → Type 0
HoldsOfItself P = (old new : Client) → new ≡ old → P old new

waits : (P : Client → Client → Type 0) → HoldsOfItself P → HoldsOfFeeds P → (old : Client) (read out : List ℕ) (new : Client) →
    WaitsForReply old read out new → P old new
waits P still fed old read out new (inl none) = still old new none.2
waits P still fed old read out new (inr h) = fed old new read out [] _ h

receives_keep : (P : Client → Client → Type 0) → HoldsOfItself P → HoldsOfFeeds P → (old : Client) (turns : ℕ) (result : Result Event ConverseFault)
    (read out : List ℕ) (left : Option (List ℕ)) (new : Client)
    → Receives old turns result read out left new → P old new
receives_keep P still fed old turns (Ok event) read out left new h = fed old new read out _ _ h.2
receives_keep P still fed old turns (Err Ended) read out left new h = waits P still fed old read out new h.0
receives_keep P still fed old turns (Err Read) read out left new h = waits P still fed old read out new h
receives_keep P still fed old turns (Err Write) read out left new h = fed old new read _ _ _ h.3
receives_keep P still fed old turns (Err BadWelcome) read out left new h = fed old new read out _ _ h
receives_keep P still fed old turns (Err BadReply) read out left new h = fed old new read out _ _ h
receives_keep P still fed old turns (Err Memory) read out left new h = fed old new read out _ _ h
receives_keep P still fed old turns (Err TurnsUsedUp) read out left new h = waits P still fed old read out new h.0
receives_keep P still fed old turns (Err Failed) read out left new h = fed old new read out _ _ h

never_keeps : (P : Client → Client → Type 0) → HoldsOfItself P → (old : Client) (first : List ℕ) (result : Result Event ConverseFault) (read out : List ℕ)
    (new : Client)
    → NeverReceives old first result read out new → P old new
never_keeps P still old first (Err Write) read out new h = still old new h.2
never_keeps P still old first (Err Memory) read out new h = still old new h.2
never_keeps P still old first (Ok event) read out new h = absurd h
never_keeps P still old first (Err Ended) read out new h = absurd h
never_keeps P still old first (Err Read) read out new h = absurd h
never_keeps P still old first (Err BadWelcome) read out new h = absurd h
never_keeps P still old first (Err BadReply) read out new h = absurd h
never_keeps P still old first (Err TurnsUsedUp) read out new h = absurd h
never_keeps P still old first (Err Failed) read out new h = absurd h

-- what holds of a client and what it becomes by any feed holds of it and what it becomes by a
-- conversation
pub conversing_keeps : (P : Client → Client → Type 0) → HoldsOfItself P → HoldsOfFeeds P → (old : Client) (first : List ℕ) (turns : ℕ)
    (result : Result Event ConverseFault) (read out : List ℕ) (left : Option (List ℕ)) (new : Client)
    → Converses old first turns result read out left new → P old new
conversing_keeps P still fed old first turns result read out left new (inl h) = never_keeps P still old first result read out new h
conversing_keeps P still fed old first turns result read out left new (inr h) = receives_keep P still fed old turns result read h.0 left new h.2

-- ---- the hint, and the end

-- a conversation that came to an event leaves the hint as it is where no sync is outstanding,
-- unless the client fails
pub event_leaves_the_hint : (old : Client) (first : List ℕ) (turns : ℕ) (event : Event) (read out : List ℕ) (left : Option (List ℕ)) (new : Client)
    → Converses old first turns (Ok event) read out left new → IsNoSync old.state.call → new.state.failed ≡ false → new.state.hint ≡ old.state.hint
event_leaves_the_hint old first turns event read out left new (inl h) calm alive = absurd h
event_leaves_the_hint old first turns event read out left new (inr h) calm alive =
    let receives = h.2 in only_syncs_change_the_hint old new read h.0 (event ∷ receives.0) receives.1 receives.2 calm alive

-- the event of a conversation is one that its call can end with
pub event_ends_the_call : (old : Client) (first : List ℕ) (turns : ℕ) (event : Event) (read out : List ℕ) (left : Option (List ℕ)) (new : Client)
    → Converses old first turns (Ok event) read out left new → Ends old.state.call event
event_ends_the_call old first turns event read out left new (inl h) = absurd h
event_ends_the_call old first turns event read out left new (inr h) = let receives =
    h.2 in first_event_ends_the_call old new read h.0 event receives.0 receives.1 receives.2
