-- The bytes of the file of a hint.
use Rattle.std.specs.Prelude.{◌≡◌, ◌≤◌, ◌<◌, ◌+◌, ◌*◌, ◌/◌, ◌^◌, ℕ, zero, suc, List, [], ◌∷◌, ◌++◌, length, take, drop, codes}
use Rattle.sha2.specs.Sha256.{sha256}
use Rattle.matrix_u32.specs.Matrix.{IsWhole, most_words}
use Rattle.frame_codec.specs.Numbers.{number_bytes, word_bytes}
use Rattle.pir_schemes.specs.declared.plan.Plan.{Plan}
use Rattle.pir_schemes.specs.Schemes.{scheme_byte}
use Rattle.client_core.specs.declared.state.ServerInfo.{ServerInfo}
use Rattle.client_core.specs.declared.state.Hint.{Hint}
use Rattle.hint_file.specs.declared.heads.HintFields.{HintFields}

-- what the file of a hint begins with, in ASCII: its kind, and its layout's number
unfoldable pub hint_magic : List ℕ
hint_magic = codes "PIRHINT3"

-- what the file of a hint in the earlier format begins with; the name of a seed comes after it
unfoldable pub old_hint_magic : List ℕ
old_hint_magic = codes "PIRHINT2"

-- bytes, and their digest by SHA-256 (FIPS 180-4) after them
abbrev pub sealed : List ℕ → List ℕ
sealed bytes = bytes ++ sha256 bytes

-- what names a store: the fields of its plan, each number as its bytes, and its public seed; 41
-- bytes
unfoldable pub plan_bytes : Plan → List ℕ
plan_bytes p =
    number_bytes 2 p.form
    ++ (p.width ∷ [])
    ++ number_bytes 2 p.record_len
    ++ number_bytes 2 p.groups
    ++ number_bytes 2 p.dimension
    ++ p.seed

-- the fields of a hint's file, each number as its bytes: what the server reported last, and which
-- hint this is
unfoldable pub field_bytes : HintFields → List ℕ
field_bytes f =
    plan_bytes f.known.plan
    ++ number_bytes 4 f.known.count
    ++ number_bytes 8 f.known.version
    ++ (scheme_byte f.scheme ∷ [])
    ++ number_bytes 8 f.version
    ++ number_bytes 8 f.rows
    ++ number_bytes 8 f.cols

-- how many parts of at most 262,144 bytes so many bytes have
abbrev pub part_count : ℕ → ℕ
part_count len = (len + 262143) / 262144

-- the digests of the first parts, so many, one after another; each part has 262,144 bytes, as those
-- of the parts in which a hint is sent, and the last one may have fewer
unfoldable pub first_digests : ℕ → List ℕ → List ℕ
first_digests zero bytes = []
first_digests (suc n) bytes = sha256 (take 262144 bytes) ++ first_digests n (drop 262144 bytes)

-- the digests of all parts
abbrev pub part_digests : List ℕ → List ℕ
part_digests bytes = first_digests (part_count (length bytes)) bytes

-- a head with these bytes as its prefix, all that comes before the words: the fields after them,
-- the digests of the parts of the words, and the digest of all that
abbrev pub head_after : List ℕ → HintFields → List ℕ → List ℕ
head_after front f digests = sealed (front ++ (field_bytes f ++ digests))

-- the head of a hint's file
abbrev pub head_bytes : HintFields → List ℕ → List ℕ
head_bytes f digests = head_after hint_magic f digests

-- the fields of a hint, with what the server reported last
abbrev pub fields_of : ServerInfo → Hint → HintFields
fields_of known hint =
    record { known = known; scheme = hint.scheme; version = hint.version; rows = hint.matrix.rows; cols = hint.matrix.cols }

-- a file with these bytes as its prefix: the head, and the words of a hint row by row, four bytes
-- each
abbrev pub file_after : List ℕ → ServerInfo → Hint → List ℕ
file_after front known hint =
    head_after front (fields_of known hint) (part_digests (word_bytes hint.matrix.words)) ++ word_bytes hint.matrix.words

-- the file of a hint
abbrev pub hint_bytes : ServerInfo → Hint → List ℕ
hint_bytes known hint = file_after hint_magic known hint

-- the file of a hint in the earlier format: it has the name of a client's seed, 32 bytes
abbrev pub old_hint_bytes : List ℕ → ServerInfo → Hint → List ℕ
old_hint_bytes name known hint = file_after (old_hint_magic ++ name) known hint

-- fields of a hint that a file can have: a public seed of 32 bytes, and a matrix that can exist
pub record AreKeepable (f : HintFields) : Type 0 where
  pub seed : length f.known.plan.seed ≡ 32
  pub rows : f.rows < 2 ^ 64
  pub cols : f.cols < 2 ^ 64
  pub small : f.rows * f.cols ≤ most_words

-- a hint that a file can have
pub record IsKeepable (known : ServerInfo) (hint : Hint) : Type 0 where
  pub fields : AreKeepable (fields_of known hint)
  pub whole : IsWhole hint.matrix

-- as many bytes as the digests of all parts have, if the hint has these fields
abbrev pub HasDigests : HintFields → List ℕ → Type 0
HasDigests f digests = length digests ≡ 32 * part_count (4 * (f.rows * f.cols))

-- the file of this head is no newer than a hint of a version with what the server reported: neither
-- its hint nor what it says was reported is of a later one
pub record IsNoNewer (f : HintFields) (known : ServerInfo) (version : ℕ) : Type 0 where
  pub reported : f.known.version ≤ known.version
  pub version_kept : f.version ≤ version
