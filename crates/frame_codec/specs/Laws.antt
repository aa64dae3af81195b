-- Laws of readers.
use Rattle.std.specs.Prelude.{◌≡◌, ◌≢◌, ◌⊎◌, ◌++◌, ℕ, List, Option, Result, Err, Bool}
use Rattle.frame_codec.specs.declared.frame.Frame.{Frame}
use Rattle.frame_codec.specs.declared.reader.ReadFault.{ReadFault}
use Rattle.frame_codec.specs.declared.reader.ReadFault.TheVariants.{Memory}
use Rattle.frame_codec.specs.Streams.{Feeds, HasFrame, HasFault}

-- a fault is only where no frame is
abbrev pub FaultsExcludeFrames : Type 0
FaultsExcludeFrames = (wide : Bool) (fault : ReadFault) (bytes : List ℕ) → HasFault wide fault bytes → HasFrame wide bytes → ⊥

-- no two faults are in one place
abbrev pub OneFault : Type 0
OneFault = (wide : Bool) (fault other : ReadFault) (bytes : List ℕ) → HasFault wide fault bytes → HasFault wide other bytes → fault ≡ other

-- The unfinished bytes and the piece decide the answer, the frames and the bytes that are
-- unfinished then, unless memory is refused.
abbrev pub FeedsDecide : Type 0
FeedsDecide = (wide : Bool) (old : Option (List ℕ)) (piece : List ℕ) (answer other : Result (Unit {0}) ReadFault) (frames others : List Frame) (new end : Option (List ℕ)) →
    Feeds wide old piece answer frames new → Feeds wide old piece other others end → answer ≢ Err Memory
    → other ≢ Err Memory → (answer ≡ other) × (frames ≡ others) × (new ≡ end)

-- of two feeds of the same bytes, if memory is not refused to the first, the frames of the second
-- are the first of its frames
abbrev pub FeedsBegin : Type 0
FeedsBegin = (wide : Bool) (old : Option (List ℕ)) (piece : List ℕ) (answer other : Result (Unit {0}) ReadFault) (frames others : List Frame) (new end : Option (List ℕ)) →
    Feeds wide old piece answer frames new → Feeds wide old piece other others end → answer ≢ Err Memory
    → (more : List Frame) × (frames ≡ others ++ more)

-- of two feeds of the same bytes the frames of one are the first of the other's, also if memory is
-- refused to both
abbrev pub FeedsAgree : Type 0
FeedsAgree = (wide : Bool) (old : Option (List ℕ)) (piece : List ℕ) (answer other : Result (Unit {0}) ReadFault) (frames others : List Frame) (new end : Option (List ℕ)) →
    Feeds wide old piece answer frames new → Feeds wide old piece other others end
    → ((more : List Frame) × (frames ≡ others ++ more)) ⊎ ((more : List Frame) × (others ≡ frames ++ more))
