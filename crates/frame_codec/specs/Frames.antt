-- What a frame is on the wire: the length of its payload in four bytes, its kind in one byte, its
-- payload.
use Rattle.std.specs.Prelude.{◌≡◌, ◌<◌, ◌≤◌, ◌+◌, ◌*◌, ◌^◌, ℕ, List, [], ◌∷◌, ◌++◌, length, All, Option, None, Some}
use Rattle.frame_codec.specs.Numbers.{number_bytes, word_bytes}
use Rattle.frame_codec.specs.Rows.{HasWholeRows}
use Rattle.frame_codec.specs.declared.frame.Frame.{Frame}
use Rattle.frame_codec.specs.declared.frame.Frame.TheVariants.{Load, Hello, HintAsk, DeltaAsk, Query, Edit, Publish, Bye, Append, ChangesAsk, Welcome, HintPart, Delta, Answer, Stale, Done, NoDelta, Changes, Refused}

-- the byte that names a frame's kind: here in decimal, in the comments of `Frame` in hex
abbrev pub kind_of : Frame → ℕ
kind_of (Load record_len groups width records) = 1
kind_of (Hello profile key) = 2
kind_of (HintAsk scheme version part) = 3
kind_of (DeltaAsk since) = 4
kind_of (Query scheme version words) = 5
kind_of (Edit index bytes) = 6
kind_of Publish = 7
kind_of Bye = 8
kind_of (Append bytes) = 9
kind_of (ChangesAsk since) = 10
kind_of (Welcome profile width record_len groups count version dimension seed) = 130
kind_of (HintPart scheme version part words) = 131
kind_of (Delta since now count rows) = 132
kind_of (Answer scheme version words) = 133
kind_of (Stale version count) = 134
kind_of (Done version) = 135
kind_of (NoDelta version count) = 136
kind_of (Changes since now count entries) = 138
kind_of (Refused code) = 143

-- a frame's fields in their order, each number as its bytes
unfoldable pub payload_of : Frame → List ℕ
payload_of (Load record_len groups width records) = number_bytes 2 record_len ++ (number_bytes 2 groups ++ (width ∷ records))
payload_of (Hello profile key) = number_bytes 2 profile ++ key
payload_of (HintAsk scheme version part) = scheme ∷ (number_bytes 8 version ++ number_bytes 4 part)
payload_of (DeltaAsk since) = number_bytes 8 since
payload_of (Query scheme version words) = scheme ∷ (number_bytes 8 version ++ word_bytes words)
payload_of (Edit index bytes) = number_bytes 4 index ++ bytes
payload_of Publish = []
payload_of Bye = []
payload_of (Append bytes) = bytes
payload_of (ChangesAsk since) = number_bytes 8 since
payload_of (Welcome profile width record_len groups count version dimension seed) =
    number_bytes 2 profile ++
    (width ∷ (number_bytes 2 record_len
    ++ (number_bytes 2 groups ++ (number_bytes 4 count ++ (number_bytes 8 version ++ (number_bytes 2 dimension ++ seed))))))
payload_of (HintPart scheme version part words) = scheme ∷ (number_bytes 8 version ++ (number_bytes 4 part ++ word_bytes words))
payload_of (Delta since now count rows) =
    number_bytes 8 since ++ (number_bytes 8 now ++ (number_bytes 4 count ++ (number_bytes 2 rows.dimension ++ word_bytes rows.words)))
payload_of (Answer scheme version words) = scheme ∷ (number_bytes 8 version ++ word_bytes words)
payload_of (Stale version count) = number_bytes 8 version ++ number_bytes 4 count
payload_of (Done version) = number_bytes 8 version
payload_of (NoDelta version count) = number_bytes 8 version ++ number_bytes 4 count
payload_of (Changes since now count entries) = number_bytes 8 since ++ (number_bytes 8 now ++ (number_bytes 4 count ++ entries))
payload_of (Refused code) = code ∷ []

-- how many bytes a frame's payload has
abbrev pub payload_size : Frame → ℕ
payload_size (Load record_len groups width records) = 5 + length records
payload_size (Hello profile key) = 2 + length key
payload_size (HintAsk scheme version part) = 13
payload_size (DeltaAsk since) = 8
payload_size (Query scheme version words) = 9 + 4 * length words
payload_size (Edit index bytes) = 4 + length bytes
payload_size Publish = 0
payload_size Bye = 0
payload_size (Append bytes) = length bytes
payload_size (ChangesAsk since) = 8
payload_size (Welcome profile width record_len groups count version dimension seed) = 21 + length seed
payload_size (HintPart scheme version part words) = 13 + 4 * length words
payload_size (Delta since now count rows) = 22 + 4 * length rows.words
payload_size (Answer scheme version words) = 9 + 4 * length words
payload_size (Stale version count) = 12
payload_size (Done version) = 8
payload_size (NoDelta version count) = 12
payload_size (Changes since now count entries) = 20 + length entries
payload_size (Refused code) = 1

-- a frame's fields are numbers of their types, and its rows are whole
abbrev pub HasFields : Frame → Type 0
HasFields (Load record_len groups width records) = (record_len < 2 ^ 16) × (groups < 2 ^ 16) × (width < 2 ^ 8) × All (λ b. b < 2 ^ 8) records
HasFields (Hello profile key) = (profile < 2 ^ 16) × (length key ≡ 32) × All (λ b. b < 2 ^ 8) key
HasFields (HintAsk scheme version part) = (scheme < 2 ^ 8) × (version < 2 ^ 64) × (part < 2 ^ 32)
HasFields (DeltaAsk since) = since < 2 ^ 64
HasFields (Query scheme version words) = (scheme < 2 ^ 8) × (version < 2 ^ 64) × All (λ w. w < 2 ^ 32) words
HasFields (Edit index bytes) = (index < 2 ^ 32) × All (λ b. b < 2 ^ 8) bytes
HasFields Publish = Unit {0}
HasFields Bye = Unit {0}
HasFields (Append bytes) = All (λ b. b < 2 ^ 8) bytes
HasFields (ChangesAsk since) = since < 2 ^ 64
HasFields (Welcome profile width record_len groups count version dimension seed) =
    (profile < 2 ^ 16) × (width < 2 ^ 8) × (record_len < 2 ^ 16) × (groups < 2 ^ 16) × (count < 2 ^ 32) × (version < 2 ^ 64) × (dimension < 2 ^ 16)
    × (length seed ≡ 32) × All (λ b. b < 2 ^ 8) seed
HasFields (HintPart scheme version part words) = (scheme < 2 ^ 8) × (version < 2 ^ 64) × (part < 2 ^ 32) × All (λ w. w < 2 ^ 32) words
HasFields (Delta since now count rows) =
    (since < 2 ^ 64) × (now < 2 ^ 64) × (count < 2 ^ 32) × (rows.dimension < 2 ^ 16) × HasWholeRows rows × All (λ w. w < 2 ^ 32) rows.words
HasFields (Answer scheme version words) = (scheme < 2 ^ 8) × (version < 2 ^ 64) × All (λ w. w < 2 ^ 32) words
HasFields (Stale version count) = (version < 2 ^ 64) × (count < 2 ^ 32)
HasFields (Done version) = version < 2 ^ 64
HasFields (NoDelta version count) = (version < 2 ^ 64) × (count < 2 ^ 32)
HasFields (Changes since now count entries) = (since < 2 ^ 64) × (now < 2 ^ 64) × (count < 2 ^ 32) × All (λ b. b < 2 ^ 8) entries
HasFields (Refused code) = code < 2 ^ 8

-- the one encoding of a frame
unfoldable pub encoding : Frame → List ℕ
encoding f = number_bytes 4 (length (payload_of f)) ++ (kind_of f ∷ payload_of f)

-- the most bytes that a payload may have
abbrev pub payload_limit : ℕ
payload_limit = 16777216

-- a frame that may be in a stream
pub record IsFrame (f : Frame) : Type 0 where
  pub fields : HasFields f
  pub short : length (payload_of f) ≤ payload_limit

-- the frame has this kind and this payload
pub record Stands (k : ℕ) (bytes : List ℕ) (f : Frame) : Type 0 where
  pub kind : kind_of f ≡ k
  pub payload : payload_of f ≡ bytes
  pub fields : HasFields f

-- a frame of this kind has a payload of so many bytes
abbrev pub IsPayloadLength : ℕ → ℕ → Type 0
IsPayloadLength k n = (f : Frame) × (kind_of f ≡ k) × HasFields f × (length (payload_of f) ≡ n)

-- a frame of this kind has this payload
abbrev pub IsPayload : ℕ → List ℕ → Type 0
IsPayload k bytes = (f : Frame) × Stands k bytes f

-- what a kind and a payload are read as: the frame that has them, if there is one
abbrev pub ReadsAs : ℕ → List ℕ → Option Frame → Type 0
ReadsAs k bytes None = (f : Frame) → Stands k bytes f → ⊥
ReadsAs k bytes (Some f) = Stands k bytes f
