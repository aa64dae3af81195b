-- What a stream is answered as a whole.
use Rattle.std.specs.Prelude.{◌≡◌, ◌≤◌, ◌⊎◌, ℕ, length, List, [], ◌∷◌, ◌++◌, Bool, true, false, Option, Some, Result, Ok, Err, cond, MatchBool}
use Rattle.std.specs.Io.KnownBytes.{IsAtEnd}
use Rattle.frame_codec.specs.declared.frame.Frame.{Frame}
use Rattle.frame_codec.specs.declared.frame.Frame.TheVariants.{Refused}
use Rattle.frame_codec.specs.declared.reader.ReadFault.{ReadFault}
use Rattle.frame_codec.specs.declared.reader.ReadFault.TheVariants.{TooLong, UnknownKind, BadPayload, Memory as no_memory, Failed}
use Rattle.frame_codec.specs.Frames.{encoding}
use Rattle.frame_codec.specs.Streams.{Begins, Reads, HasFrame, IsPartial, StopsAt}
use Rattle.once_session.specs.declared.stage.Stage.{Stage}
use Rattle.once_session.specs.declared.stage.Stage.TheVariants.{Fresh, Loaded, Done, Bad}
use Rattle.once_session.specs.declared.engine.OnceFault.{OnceFault}
use Rattle.once_session.specs.declared.engine.OnceFault.TheVariants.{BadInput, Read, Write, Memory, TurnsUsedUp}
use Rattle.once_session.specs.Courses.{replies_to, stage_after, encodings}

-- whether frames can follow
abbrev pub takes_frames : Stage → Bool
takes_frames Fresh = true
takes_frames (Loaded t) = true
takes_frames Done = false
takes_frames Bad = false

-- what bytes after the last frame are answered: a frame that is cut or can't be read is refused
abbrev pub rest_reply : List ℕ → List ℕ
rest_reply [] = []
rest_reply (b ∷ bs) = encoding (Refused 1)

-- the bytes that a stream is answered: the replies to its frames in order, and to the rest if no
-- frame ended it before
abbrev pub output_of : List Frame → List ℕ → List ℕ
output_of frames rest = encodings (replies_to Fresh frames) ++ cond (takes_frames (stage_after Fresh frames)) (rest_reply rest) []

-- whether a stream ends well: by a Bye, or between two frames
abbrev pub is_well : Stage → List ℕ → Bool
is_well Done rest = true
is_well Bad rest = false
is_well Fresh [] = true
is_well Fresh (b ∷ bs) = false
is_well (Loaded t) [] = true
is_well (Loaded t) (b ∷ bs) = false

-- Nothing more comes of what was read: if no frame ended it, no frame begins the rest, and a rest
-- that more bytes could make a frame is all that there is
pub record IsLast (st : Stage) (rest : List ℕ) (left : Option (List ℕ)) : Type 0 where
  pub no_frame : takes_frames st ≡ true → HasFrame false rest → ⊥
  pub no_more : takes_frames st ≡ true → IsPartial false rest → IsAtEnd left

-- the whole output for what was read, and whether it ended well
pub record IsOutput (read out : List ℕ) (left : Option (List ℕ)) (well : Bool) : Type 0 where
  pub frames : List Frame
  pub rest : List ℕ
  pub begins : Begins false read frames rest
  pub last : IsLast (stage_after Fresh frames) rest left
  pub out_is : out ≡ output_of frames rest
  pub well_is : well ≡ is_well (stage_after Fresh frames) rest

-- the replies to the whole frames read
pub record IsOnceReply (read out : List ℕ) : Type 0 where
  pub frames : List Frame
  pub rest : List ℕ
  pub reads : Reads false read frames rest
  pub open_still : takes_frames (stage_after Fresh frames) ≡ true
  pub out_is : out ≡ encodings (replies_to Fresh frames)

-- a prefix of some bytes
abbrev pub IsPrefixOf : List ℕ → List ℕ → Type 0
IsPrefixOf prefix all = (rest : List ℕ) × (all ≡ prefix ++ rest)

-- a prefix of what is owed for what was read: of the replies to its frames, or of all if nothing
-- more comes
pub record IsStreamCut (read out : List ℕ) (left : Option (List ℕ)) : Type 0 where
  pub frames : List Frame
  pub rest : List ℕ
  pub begins : Begins false read frames rest
  pub prefix : IsPrefixOf out (encodings (replies_to Fresh frames)) ⊎ (IsLast (stage_after Fresh frames) rest left × IsPrefixOf out (output_of frames rest))

-- Memory was refused to work that was open: the replies to whole frames went out, all of each, and
-- what follows these frames has no fault of a length or a kind.
pub record LacksMemoryAfter (old : Stage) (stream out : List ℕ) : Type 0 where
  pub frames : List Frame
  pub rest : List ℕ
  pub begins : Begins false stream frames rest
  pub out_is : out ≡ encodings (replies_to old frames)
  pub open_still : takes_frames (stage_after old frames) ≡ true
  pub unfaulted : StopsAt false no_memory rest

-- what was written for what was read in at most so many turns, by the answer
abbrev pub ServesOneStream : ℕ → Result (Unit {0}) OnceFault → List ℕ → List ℕ → Option (List ℕ) → Type 0
ServesOneStream turns (Ok done) read out left = IsOutput read out left true
ServesOneStream turns (Err BadInput) read out left = IsOutput read out left false
ServesOneStream turns (Err Read) read out left = IsOnceReply read out
ServesOneStream turns (Err TurnsUsedUp) read out left = IsOnceReply read out × (turns ≤ length read)
ServesOneStream turns (Err Write) read out left = IsStreamCut read out left
ServesOneStream turns (Err Memory) read out left = LacksMemoryAfter Fresh read out

-- a fault of one reply
abbrev pub IsServeFault : OnceFault → Type 0
IsServeFault e = (e ≡ Write) ⊎ (e ≡ Memory)

-- a fault of the stream itself
abbrev pub IsStreamFault : ReadFault → Type 0
IsStreamFault TooLong = Unit {0}
IsStreamFault UnknownKind = Unit {0}
IsStreamFault BadPayload = Unit {0}
IsStreamFault no_memory = ⊥
IsStreamFault Failed = ⊥

-- the reading stopped, and no fault was found: memory was refused to it
abbrev pub IsWithoutStreamFault : Result (Unit {0}) ReadFault → Type 0
IsWithoutStreamFault (Ok done) = ⊥
IsWithoutStreamFault (Err fault) = IsStreamFault fault → ⊥

-- whether the work is done well
abbrev pub is_finished : Stage → Bool
is_finished Fresh = false
is_finished (Loaded t) = false
is_finished Done = true
is_finished Bad = false

-- a stream that ends the work, by a frame or by what can't be read
pub record EndsWork (old : Stage) (stream : List ℕ) (new : Stage) (out : List ℕ) : Type 0 where
  pub frames : List Frame
  pub rest : List ℕ
  pub begins : Begins false stream frames rest
  pub no_frame : takes_frames (stage_after old frames) ≡ true → HasFrame false rest → ⊥
  pub no_part : takes_frames (stage_after old frames) ≡ true → IsPartial false rest → ⊥
  pub out_is : out ≡ encodings (replies_to old frames) ++ cond (takes_frames (stage_after old frames)) (rest_reply rest) []
  pub well_is : is_finished new ≡ is_well (stage_after old frames) rest

-- a stream after which the work goes on
pub record WaitsForMore (old : Stage) (stream : List ℕ) (new : Stage) (codec : Option (List ℕ)) (out : List ℕ) : Type 0 where
  pub frames : List Frame
  pub rest : List ℕ
  pub reads : Reads false stream frames rest
  pub codec_is : codec ≡ Some rest
  pub stage_is : new ≡ stage_after old frames
  pub out_is : out ≡ encodings (replies_to old frames)

-- a prefix of what is owed for a stream
pub record Breaks (old : Stage) (stream : List ℕ) (out : List ℕ) : Type 0 where
  pub frames : List Frame
  pub rest : List ℕ
  pub begins : Begins false stream frames rest
  pub prefix : IsPrefixOf out (encodings (replies_to old frames))
      ⊎ ((takes_frames (stage_after old frames) ≡ true → HasFrame false rest → ⊥) × (takes_frames (stage_after old frames) ≡ true → IsPartial false rest → ⊥)
      × IsPrefixOf out (encodings (replies_to old frames) ++ cond (takes_frames (stage_after old frames)) (rest_reply rest) []))

-- what a piece does at an open stage, where `stream` is the unfinished frame before it and the
-- piece
abbrev pub Turns : Result (Unit {0}) OnceFault → Stage → List ℕ → Stage → Option (List ℕ) → List ℕ → Type 0
Turns (Ok done) old stream new codec out = MatchBool (takes_frames new) (WaitsForMore old stream new codec out) (EndsWork old stream new out)
Turns (Err Memory) old stream new codec out = LacksMemoryAfter old stream out
Turns (Err e) old stream new codec out = Breaks old stream out

-- what the stream's end is answered after its whole frames, by the answer
abbrev pub Finishes : Result (Unit {0}) OnceFault → List ℕ → List ℕ → Type 0
Finishes (Ok done) rest out = (rest ≡ []) × (out ≡ [])
Finishes (Err BadInput) rest out = (rest ≡ [] → ⊥) × (out ≡ encoding (Refused 1))
Finishes (Err Read) rest out = ⊥
Finishes (Err TurnsUsedUp) rest out = ⊥
Finishes (Err Write) rest out = IsPrefixOf out (rest_reply rest)
Finishes (Err Memory) rest out = ⊥
