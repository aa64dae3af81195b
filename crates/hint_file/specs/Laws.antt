-- Laws of the file of a hint.
use Rattle.std.specs.Prelude.{◌≡◌, ◌<◌, ◌^◌, ◌↔◌, ℕ, List, All}
use Rattle.frame_codec.specs.Numbers.{word_bytes}
use Rattle.client_core.specs.declared.state.ServerInfo.{ServerInfo}
use Rattle.client_core.specs.declared.state.Hint.{Hint}
use Rattle.client_core.specs.Resuming.{HasRowsOf}
use Rattle.hint_file.specs.declared.heads.HintFields.{HintFields}
use Rattle.hint_file.specs.declared.heads.KeptHead.{KeptHead}
use Rattle.hint_file.specs.Files.{fields_of, part_digests, IsKeepable}
use Rattle.hint_file.specs.Reading.{bytes_at, span_for, AreParts, ServesClient, HasRowsFor, IsPartlyRead}

-- the head of a hint's file, of words below 2 ^ 32
pub record IsHeadOf (known : ServerInfo) (h : Hint) (head : KeptHead) : Type 0 where
  pub keepable : IsKeepable known h
  pub each : All (λ w. w < 2 ^ 32) h.matrix.words
  pub fields : head.fields ≡ fields_of known h
  pub digests : head.digests.items ≡ part_digests (word_bytes h.matrix.words)

-- The bytes that the file of a hint has at the place of a record's parts are these parts by its
-- head; and the hint that is read of them has the record's rows of that hint.
pub record ReadsTheRows (now : ServerInfo) (h : Hint) (head : KeptHead) (i : ℕ) (bytes : List ℕ) : Type 0 where
  pub parts : AreParts head (span_for head.fields now i) bytes
  pub rows : (part : Hint) → IsPartlyRead head (span_for head.fields now i) bytes part → HasRowsOf now h i part

-- so it is with every hint and record
abbrev pub RecordRowsAreRead : Type 0
RecordRowsAreRead = (known now : ServerInfo) (h : Hint) (head : KeptHead) (i : ℕ) (bytes : List ℕ) → IsHeadOf known h head → HasRowsFor head.fields now i →
    bytes ≡ bytes_at (word_bytes h.matrix.words) (span_for head.fields now i) → ReadsTheRows now h head i bytes

-- Whether a kept hint has the rows of an existing record depends on the hint and on what is known,
-- and is the same for each record.
abbrev pub EachRecordAlike : Type 0
EachRecordAlike = (f : HintFields) (now : ServerInfo) (i : ℕ) → i < now.count → HasRowsFor f now i ↔ ServesClient f now
