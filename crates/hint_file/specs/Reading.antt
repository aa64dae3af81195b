-- A hint as its file is read.
use Rattle.std.specs.Prelude.{◌≡◌, ◌≤◌, ◌<◌, ◌+◌, ◌-◌, ◌*◌, ◌/◌, ◌^◌, ◌++◌, ℕ, List, All, length, take, drop, replicate, min}
use Rattle.matrix_u32.specs.Matrix.{most_words}
use Rattle.digit_pack.specs.Layout.{IsLayout, digit_rows, digits_per_record, first_row}
use Rattle.frame_codec.specs.Numbers.{word_bytes}
use Rattle.pir_schemes.specs.declared.scheme.Scheme.TheVariants.{Simple}
use Rattle.client_core.specs.declared.state.ServerInfo.{ServerInfo}
use Rattle.client_core.specs.declared.state.Hint.{Hint}
use Rattle.client_core.specs.States.{shape_known}
use Rattle.hint_file.specs.declared.heads.HintFields.{HintFields}
use Rattle.hint_file.specs.declared.heads.KeptHead.{KeptHead}
use Rattle.hint_file.specs.declared.parts.PartSpan.{PartSpan}
use Rattle.hint_file.specs.Files.{part_count, part_digests, HasDigests}

-- the hint of these fields and words
abbrev pub with_words : HintFields → List ℕ → Hint
with_words f words = record {
  scheme = f.scheme;
  version = f.version;
  matrix = record { rows = f.rows; cols = f.cols; words = words };
}

-- how many words a hint of these fields has
abbrev pub words_of : HintFields → ℕ
words_of f = f.rows * f.cols

-- how many bytes the parts of a span have, of so many bytes in all
abbrev pub span_len : ℕ → PartSpan → ℕ
span_len total s = min (262144 * s.end) total - 262144 * s.first

-- the bytes of the parts of a span, of all bytes
abbrev pub bytes_at : List ℕ → PartSpan → List ℕ
bytes_at bytes s = take (span_len (length bytes) s) (drop (262144 * s.first) bytes)

-- a head's parts from one of a span on, up to its end, with a digest for each of them
pub record HasPartsFrom (head : KeptHead) (s : PartSpan) : Type 0 where
  pub small : words_of head.fields ≤ most_words
  pub digests : HasDigests head.fields head.digests.items
  pub order : s.first ≤ s.end
  pub start : 65536 * s.first ≤ words_of head.fields
  pub inside : s.end ≤ part_count (4 * words_of head.fields)

-- bytes of the parts of a span, by the head: as many as the parts have, with the digests that are
-- there
pub record AreParts (head : KeptHead) (s : PartSpan) (bytes : List ℕ) : Type 0 where
  pub parts : HasPartsFrom head s
  pub count : length bytes ≡ span_len (4 * words_of head.fields) s
  pub same : part_digests bytes ≡ take (32 * (s.end - s.first)) (drop (32 * s.first) head.digests.items)

-- so many zeros, with words written over them from a place on
abbrev pub among_zeros : ℕ → ℕ → List ℕ → List ℕ
among_zeros total start words =
    take start (replicate total 0) ++ (words ++ drop (start + length words) (replicate total 0))

-- the hint of a head of which the parts of a span were read, of these bytes: its other words are
-- zeros
pub record IsPartlyRead (head : KeptHead) (s : PartSpan) (bytes : List ℕ) (hint : Hint) : Type 0 where
  pub words : List ℕ
  pub each : All (λ w. w < 2 ^ 32) words
  pub read : word_bytes words ≡ bytes
  pub is : hint ≡ with_words head.fields (among_zeros (words_of head.fields) (65536 * s.first) words)

-- a hint of these fields serves a client that knows this: it is of SimplePIR, of the plan and the
-- version known, with the rows and columns of its layout
pub record ServesClient (f : HintFields) (now : ServerInfo) : Type 0 where
  pub scheme : f.scheme ≡ Simple
  pub version : f.version ≡ now.version
  pub plan : f.known.plan ≡ now.plan
  pub layout : IsLayout (shape_known now)
  pub rows : f.rows ≡ digit_rows (shape_known now)
  pub cols : f.cols ≡ now.plan.dimension

-- the hint serves, and the version has a record i: that it has the record's rows depends on the
-- record in no other way
pub record HasRowsFor (f : HintFields) (now : ServerInfo) (i : ℕ) : Type 0 where
  pub serves : ServesClient f now
  pub index : i < now.count

-- the parts that have the rows of record i
abbrev pub span_for : HintFields → ServerInfo → ℕ → PartSpan
span_for f now i = record {
  first = first_row (shape_known now) i * f.cols / 65536;
  end = ((first_row (shape_known now) i + digits_per_record (shape_known now)) * f.cols + 65535) / 65536;
}
