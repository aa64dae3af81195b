-- What a conversation over a reader and a writer leads to.
use Rattle.std.specs.Prelude.{◌≡◌, ◌≤◌, ◌⊎◌, ℕ, List, [], ◌∷◌, ◌++◌, length, Option, Some, None, Result, Ok, Err}
use Rattle.std.specs.Io.KnownBytes.{IsAtEnd}
use Rattle.client_core.specs.Feeding.{Client, FeedsClient}
use Rattle.client_core.specs.declared.state.Event.{Event}
use Rattle.client_core.specs.declared.state.ClientFault.{ClientFault}
use Rattle.client_core.specs.declared.state.ClientFault.TheVariants as client
use Rattle.blocking_io.specs.declared.conversing.ConverseFault.{ConverseFault}
use Rattle.blocking_io.specs.declared.conversing.ConverseFault.TheVariants.{Ended, Read, Write, BadWelcome, BadReply, Memory, TurnsUsedUp, Failed}
use Rattle.blocking_io.specs.Prefixes.{IsCutOff}

-- the fault of a client, as that of its conversation
abbrev pub converse_fault : ClientFault → ConverseFault
converse_fault client.BadWelcome = BadWelcome
converse_fault client.BadReply = BadReply
converse_fault client.Memory = Memory
converse_fault client.Failed = Failed

-- what was written and where the client stands then, by the answer to one piece
abbrev pub ReceivesPiece : Client → List ℕ → Result (Option Event) ConverseFault → Client → List ℕ → Type 0
ReceivesPiece old piece (Ok None) new bytes = FeedsClient old piece bytes [] None new
ReceivesPiece old piece (Ok (Some event)) new bytes = (later : List Event) × (fault : Option ClientFault)
    × FeedsClient old piece bytes (event ∷ later) fault new
ReceivesPiece old piece (Err Ended) new bytes = ⊥
ReceivesPiece old piece (Err Read) new bytes = ⊥
ReceivesPiece old piece (Err Write) new bytes =
    (sent : List ℕ) × (events : List Event) × (fault : Option ClientFault) × FeedsClient old piece sent events fault new × IsCutOff bytes sent
ReceivesPiece old piece (Err BadWelcome) new bytes = FeedsClient old piece bytes [] (Some client.BadWelcome) new
ReceivesPiece old piece (Err BadReply) new bytes = FeedsClient old piece bytes [] (Some client.BadReply) new
ReceivesPiece old piece (Err Memory) new bytes = FeedsClient old piece bytes [] (Some client.Memory) new
ReceivesPiece old piece (Err TurnsUsedUp) new bytes = ⊥
ReceivesPiece old piece (Err Failed) new bytes = FeedsClient old piece bytes [] (Some client.Failed) new

-- No event and no fault came of what was read, which the client was fed as one piece, or which is
-- nothing.
abbrev pub WaitsForReply : Client → List ℕ → List ℕ → Client → Type 0
WaitsForReply old read out new = ((read ≡ []) × (out ≡ []) × (new ≡ old)) ⊎ FeedsClient old read out [] None new

-- What was written, and where the client stands then, by the answer to all that was read: it was
-- fed as one piece.
abbrev pub Receives : Client → ℕ → Result Event ConverseFault → List ℕ → List ℕ → Option (List ℕ) → Client → Type 0
Receives old turns (Ok event) read out left new = (later : List Event) × (fault : Option ClientFault) × FeedsClient old read out (event ∷ later) fault new
Receives old turns (Err Ended) read out left new = WaitsForReply old read out new × IsAtEnd left
Receives old turns (Err Read) read out left new = WaitsForReply old read out new
Receives old turns (Err Write) read out left new =
    (sent : List ℕ) × (events : List Event) × (fault : Option ClientFault) × FeedsClient old read sent events fault new × IsCutOff out sent
Receives old turns (Err BadWelcome) read out left new = FeedsClient old read out [] (Some client.BadWelcome) new
Receives old turns (Err BadReply) read out left new = FeedsClient old read out [] (Some client.BadReply) new
Receives old turns (Err Memory) read out left new = FeedsClient old read out [] (Some client.Memory) new
Receives old turns (Err TurnsUsedUp) read out left new = WaitsForReply old read out new × (turns ≤ length read)
Receives old turns (Err Failed) read out left new = FeedsClient old read out [] (Some client.Failed) new

-- Nothing was read. Of the first bytes a part went out, or, if there was no memory, nothing was
-- written.
abbrev pub NeverReceives : Client → List ℕ → Result Event ConverseFault → List ℕ → List ℕ → Client → Type 0
NeverReceives old first (Err Write) read out new = (read ≡ []) × IsCutOff out first × (new ≡ old)
NeverReceives old first (Err Memory) read out new = (read ≡ []) × (out ≡ []) × (new ≡ old)
NeverReceives old first _ read out new = ⊥

-- a conversation: the first bytes go out ahead of all that is written
abbrev pub Converses : Client → List ℕ → ℕ → Result Event ConverseFault → List ℕ → List ℕ → Option (List ℕ) → Client → Type 0
Converses old first turns result read out left new = NeverReceives old first result read out new
    ⊎ ((said : List ℕ) × (out ≡ first ++ said) × Receives old turns result read said left new)
