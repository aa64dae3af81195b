-- What a stream of bytes says: its frames, and what comes after them. A stream of a wide store
-- has two more kinds of frames.
use Rattle.std.specs.Prelude.{◌≡◌, ◌<◌, ◌≤◌, ◌+◌, ◌==◌, ℕ, List, [], ◌∷◌, ◌++◌, length, slice_index, take, option_to_list, Option, Some, None, IfSome, IfNone, Result, Ok, Err, ◌||◌, ◌&&◌, Bool, true, false}
use Rattle.std.specs.List.{flat_map, AllByRecursion}
use Rattle.frame_codec.specs.declared.frame.Frame.{Frame}
use Rattle.frame_codec.specs.declared.frame.Frame.TheVariants.{Publish, Query}
use Rattle.frame_codec.specs.declared.ahead.QueryHead.{QueryHead}
use Rattle.frame_codec.specs.declared.reader.ReadFault.{ReadFault}
use Rattle.frame_codec.specs.declared.reader.FrameRead.{FrameRead}
use Rattle.frame_codec.specs.declared.reader.ReadFault.TheVariants.{TooLong, UnknownKind, BadPayload, Memory, Failed}
use Rattle.frame_codec.specs.Numbers.{number_in}
use Rattle.frame_codec.specs.Frames.{IsFrame, IsPayloadLength, encoding, kind_of, payload_limit}

-- whether a byte names a kind that every stream has
abbrev pub is_ordinary_kind : ℕ → Bool
is_ordinary_kind k =
    (k == 1) || (k == 2) || (k == 3) || (k == 4) || (k == 5) || (k == 6) || (k == 7) || (k == 8) || (k == 9)
    || (k == 130) || (k == 131) || (k == 132) || (k == 133) || (k == 134) || (k == 135) || (k == 136) || (k == 143)

-- whether a byte names a kind: those of a wide store have two more, for changed records
abbrev pub is_kind : Bool → ℕ → Bool
is_kind wide k = is_ordinary_kind k || (wide && ((k == 10) || (k == 138)))

-- a frame that may be in a stream, wide or not
pub record IsFrameOf (wide : Bool) (f : Frame) : Type 0 where
  pub frame : IsFrame f
  pub known : is_kind wide (kind_of f) ≡ true

-- the payload's length that the first four bytes say
abbrev pub length_at : List ℕ → ℕ
length_at bytes = number_in 4 bytes

-- the kind that the fifth byte says
abbrev pub kind_at : List ℕ → ℕ
kind_at bytes = slice_index bytes 4

-- a frame is whole at the beginning
abbrev pub HasFrame : Bool → List ℕ → Type 0
HasFrame wide bytes = (f : Frame) × (more : List ℕ) × IsFrameOf wide f × (bytes ≡ encoding f ++ more)

-- A fault is in the place of a frame: the bytes by which it is judged have come, no earlier fault
-- is there, and its cause holds.
abbrev pub HasFault : Bool → ReadFault → List ℕ → Type 0
HasFault wide TooLong bytes = (4 ≤ length bytes) × (payload_limit < length_at bytes)
HasFault wide UnknownKind bytes = (5 ≤ length bytes) × (length_at bytes ≤ payload_limit) × (is_kind wide (kind_at bytes) ≡ false)
HasFault wide BadPayload bytes =
    (5 + length_at bytes ≤ length bytes) × (length_at bytes ≤ payload_limit) × (is_kind wide (kind_at bytes) ≡ true) × (HasFrame wide bytes → ⊥)
HasFault wide Memory bytes = ⊥
HasFault wide Failed bytes = ⊥

-- All bytes that a sound length and a known kind announce have come, and no frame of this kind has
-- a payload so long, whatever its bytes.
abbrev pub HasBadLength : Bool → List ℕ → Type 0
HasBadLength wide bytes =
    (5 + length_at bytes ≤ length bytes) × (length_at bytes ≤ payload_limit) × (is_kind wide (kind_at bytes) ≡ true)
    × (IsPayloadLength (kind_at bytes) (length_at bytes) → ⊥)

-- What makes a reader stop with a fault: the fault is there. If memory was refused, none is there
-- that the length and the kind make.
abbrev pub StopsAt : Bool → ReadFault → List ℕ → Type 0
StopsAt wide TooLong bytes = HasFault wide TooLong bytes
StopsAt wide UnknownKind bytes = HasFault wide UnknownKind bytes
StopsAt wide BadPayload bytes = HasFault wide BadPayload bytes
StopsAt wide Memory bytes = (HasFault wide TooLong bytes → ⊥) × (HasFault wide UnknownKind bytes → ⊥) × (HasBadLength wide bytes → ⊥)
StopsAt wide Failed bytes = ⊥

-- less than a frame, and nothing yet that could be judged
pub record IsPartial (wide : Bool) (bytes : List ℕ) : Type 0 where
  pub no_frame : HasFrame wide bytes → ⊥
  pub no_fault : (fault : ReadFault) → HasFault wide fault bytes → ⊥

-- the stream is these frames, and then a rest
pub record Begins (wide : Bool) (stream : List ℕ) (frames : List Frame) (rest : List ℕ) : Type 0 where
  pub whole : stream ≡ flat_map encoding frames ++ rest
  pub each : AllByRecursion (IsFrameOf wide) frames

-- the stream is these frames, and then less than a frame
pub record Reads (wide : Bool) (stream : List ℕ) (frames : List Frame) (rest : List ℕ) : Type 0 where
  pub begins : Begins wide stream frames rest
  pub partial : IsPartial wide rest

-- A reader stops with this fault after these frames: whole frames of the stream, in order, at
-- refused memory too.
abbrev pub Stops : Bool → List ℕ → List Frame → ReadFault → Type 0
Stops wide stream frames fault = (rest : List ℕ) × Begins wide stream frames rest × StopsAt wide fault rest

-- What a piece does to a reader, which is None once it has stopped.
abbrev pub Feeds : Bool → Option (List ℕ) → List ℕ → Result (Unit {0}) ReadFault → List Frame → Option (List ℕ) → Type 0
Feeds wide None piece answer frames new = (answer ≡ Err Failed) × (frames ≡ []) × (new ≡ None)
Feeds wide (Some old) piece (Ok done) frames new = (rest : List ℕ) × Reads wide (old ++ piece) frames rest × (new ≡ Some rest)
Feeds wide (Some old) piece (Err fault) frames new = Stops wide (old ++ piece) frames fault × (new ≡ None)

-- The first frame that a piece completes: the bytes taken are fed, they are those up to that
-- frame's end, of which it needs one at least, or the whole piece if it completes none.
pub record TakesFrame (wide : Bool) (old : Option (List ℕ)) (piece : List ℕ) (taken : FrameRead) (new : Option (List ℕ)) : Type 0 where
  pub within : taken.count ≤ length piece
  pub fed : Feeds wide old (take taken.count piece) (Ok tt) (option_to_list taken.frame) new
  pub whole : IfNone taken.frame (taken.count ≡ length piece)
  pub ends : IfSome taken.frame (λ _. (0 < taken.count) × (new ≡ Some []))

-- What a piece does to a reader that stops at the end of the first frame. A fault comes in that
-- frame's place.
abbrev pub FeedsFrame : Bool → Option (List ℕ) → List ℕ → Result FrameRead ReadFault → Option (List ℕ) → Type 0
FeedsFrame wide old piece (Ok taken) new = TakesFrame wide old piece taken new
FeedsFrame wide old piece (Err fault) new = Feeds wide old piece (Err fault) [] new

-- how many bytes of an unfinished frame a reader keeps
abbrev pub unfinished_size : Option (List ℕ) → ℕ
unfinished_size None = 0
unfinished_size (Some bytes) = length bytes

-- What a reader keeps of an unfinished frame, and then a piece, begin with the frame Publish. A
-- reader that has stopped keeps nothing.
abbrev pub HasPublishNext : Option (List ℕ) → List ℕ → Type 0
HasPublishNext None piece = ⊥
HasPublishNext (Some kept) piece = (more : List ℕ) × (kept ++ piece ≡ encoding Publish ++ more)

-- A whole query is at the beginning, and this is its head.
abbrev pub HasQuery : List ℕ → QueryHead → Type 0
HasQuery bytes head =
    (words : List ℕ) × (more : List ℕ) × IsFrame (Query head.scheme head.version words)
    × (bytes ≡ encoding (Query head.scheme head.version words) ++ more) × (length words ≡ head.count)

-- What a reader keeps of an unfinished frame, and then a piece, begin with the query that has this
-- head. A reader that has stopped keeps nothing.
abbrev pub HasQueryNext : Option (List ℕ) → List ℕ → QueryHead → Type 0
HasQueryNext None piece head = ⊥
HasQueryNext (Some kept) piece head = HasQuery (kept ++ piece) head

-- What is seen of the first frame that a piece completes, with nothing fed: the frame, if it is
-- whole then, or the fault in its place.
abbrev pub SeesFrame : Bool → Option (List ℕ) → List ℕ → Result (Option Frame) ReadFault → Type 0
SeesFrame wide None piece answer = answer ≡ Err Failed
SeesFrame wide (Some kept) piece (Ok None) = IsPartial wide (kept ++ piece)
SeesFrame wide (Some kept) piece (Ok (Some f)) = IsFrameOf wide f × (more : List ℕ) × (kept ++ piece ≡ encoding f ++ more)
SeesFrame wide (Some kept) piece (Err fault) = StopsAt wide fault (kept ++ piece)

-- Pieces fed to a reader one after another, each without a fault: the frames that they gave, and
-- the rest that the reader keeps.
abbrev pub FeedsAll : Bool → List ℕ → List (List ℕ) → List Frame → List ℕ → Type 0
FeedsAll wide old [] frames rest = (frames ≡ []) × (rest ≡ old)
FeedsAll wide old (piece ∷ pieces) frames rest =
    (first : List Frame) × (between : List ℕ) × (later : List Frame) × (done : Unit {0})
    × Feeds wide (Some old) piece (Ok done) first (Some between) × FeedsAll wide between pieces later rest × (frames ≡ first ++ later)

-- the stream that pieces make
abbrev pub joined_pieces : List (List ℕ) → List ℕ
joined_pieces pieces = flat_map (λ piece. piece) pieces

-- What is left after a piece of frames that were sent, when later bytes are still on their way: the
-- rest and these are the other frames. Otherwise memory was refused.
abbrev pub Arrives : Result (Unit {0}) ReadFault → Option (List ℕ) → List ℕ → List Frame → Type 0
Arrives (Ok done) None later more = ⊥
Arrives (Ok done) (Some rest) later more = rest ++ later ≡ flat_map encoding more
Arrives (Err TooLong) new later more = ⊥
Arrives (Err UnknownKind) new later more = ⊥
Arrives (Err BadPayload) new later more = ⊥
Arrives (Err Memory) new later more = Unit {0}
Arrives (Err Failed) new later more = ⊥

-- The first five bytes are sound as far as they have come, and say the frame's whole length; that
-- it has five bytes is known before.
pub record IsReadable (wide : Bool) (bytes : List ℕ) (size : ℕ) : Type 0 where
  pub header : length bytes < 5 → size ≡ 5
  pub short : 4 ≤ length bytes → length_at bytes ≤ payload_limit
  pub known : 5 ≤ length bytes → (is_kind wide (kind_at bytes) ≡ true) × (size ≡ 5 + length_at bytes)
