-- Changes as entries.
use Rattle.std.proofs.Common.{◌≡◌, ℕ, ◌+◌, ◌*◌, ◌/◌, ◌^◌, ◌<◌, ap, ◌∙◌, sym, refl, arith, All, List, [], ◌∷◌, ◌++◌, length, get_or, take, drop}
use Rattle.std.proofs.lemmas.List.{append_assoc, length-append, length-take-le, drop-drop, drop_at, drop_more, take_at, take-append-drop}
use Rattle.std.proofs.lemmas.List.Concat.{flat_map-append}
use Rattle.std.proofs.lemmas.List.Elements.{All-head, All-tail, All-take, All-get_or}
use Rattle.std.proofs.lemmas.List.FromFn.{fill_by_all}
use Rattle.std.proofs.lemmas.Nat.{div-mul-add}
use Rattle.byteorder.specs.Endian.{little_bytes, little_number}
use Rattle.byteorder.specs.Numbers.{length-bytes_low_first, little_number-reads_back}
use Rattle.matrix_u32.specs.Sum.{list_of}
use Rattle.hint_changes.specs.Changes.{ChangedRecord}
use Rattle.hint_changes.specs.Entries.{change_in, entry_len}
use Rattle.record_log.specs.OldRecords.{entries_bytes, entry_bytes}
use Rattle.record_log.specs.Laws.{EntriesSayTheChanges}

-- a change of a record of so many bytes, whose number fits four
abbrev pub IsChangeOf : ℕ → ChangedRecord → Type 0
IsChangeOf len c = (c.index < 2 ^ 32) × (length c.old ≡ len) × (length c.new ≡ len)

length-entry : (len : ℕ) (c : ChangedRecord) → length c.old ≡ len → length c.new ≡ len → length (entry_bytes c) ≡ entry_len len
length-entry len c old new =
    omega (arith, length-append (little_bytes 4 c.index) (c.old ++ c.new), length-append c.old c.new, length-bytes_low_first 0 4 c.index, old, new)

pub length-entries : (len : ℕ) (changes : List ChangedRecord) → All (IsChangeOf len) changes → length (entries_bytes changes) ≡ length changes * entry_len len
length-entries len [] each = omega arith
length-entries len (c ∷ more) each =
    let first = All-head (IsChangeOf len) c more each in
    omega (
      arith,
      length-append (entry_bytes c) (entries_bytes more),
      length-entry len c first.1 first.2,
      length-entries len more (All-tail (IsChangeOf len) c more each),
    )

-- the entries from place k on
from_place : (len : ℕ) (changes : List ChangedRecord) (k : ℕ) (d : ChangedRecord) → All (IsChangeOf len) changes → k < length changes →
    drop (k * entry_len len) (entries_bytes changes) ≡ entry_bytes (get_or changes k d) ++ entries_bytes (drop (k + 1) changes)
from_place len changes k d each h =
    let size : length (entries_bytes (take k changes)) ≡ length (take k changes) * entry_len len =
    length-entries len (take k changes) (All-take (IsChangeOf len) k changes each) in
    let many : length (take k changes) ≡ k = length-take-le k changes (omega (arith, h)) in
    ap (λ (all : List ChangedRecord). drop (k * entry_len len) (entries_bytes all)) (sym (take-append-drop k changes))
    ∙ ap (drop (k * entry_len len)) (flat_map-append entry_bytes (take k changes) (drop k changes))
    ∙ drop_at (entries_bytes (take k changes)) (entries_bytes (drop k changes)) (k * entry_len len) (size ∙ ap (λ n. n * entry_len len) many)
    ∙ ap entries_bytes (drop_more changes k d h)

-- a change by its parts
abbrev changed : ℕ → List ℕ → List ℕ → ChangedRecord
changed index old new = record { index = index; old = old; new = new }

-- the change in entry k, which is before some bytes
change_there : (len k : ℕ) (bytes rest : List ℕ) (c : ChangedRecord) → IsChangeOf len c → drop (k * entry_len len) bytes ≡ entry_bytes c ++ rest →
    change_in len bytes k ≡ c
change_there len k bytes rest c fits is =
    let at : ℕ = k * entry_len len in
    let number : List ℕ = little_bytes 4 c.index in
    let four : length number ≡ 4 = length-bytes_low_first 0 4 c.index in
    let parts : drop at bytes ≡ number ++ (c.old ++ (c.new ++ rest)) =
    is ∙ append_assoc number (c.old ++ c.new) rest ∙ ap (λ (b : List ℕ). number ++ b) (append_assoc c.old c.new rest) in
    let after : drop (at + 4) bytes ≡ c.old ++ (c.new ++ rest) =
    sym (drop-drop 4 at bytes) ∙ ap (drop 4) parts ∙ drop_at number (c.old ++ (c.new ++ rest)) 4 four in
    let place : at + 4 + len ≡ at + (4 + len) = omega arith in
    let last : drop (at + (4 + len)) bytes ≡ c.new ++ rest =
    ap (λ n. drop n bytes) (sym place) ∙ sym (drop-drop len (at + 4) bytes) ∙ ap (drop len) after ∙ drop_at c.old (c.new ++ rest) len fits.1 in
    let index : little_number 4 (drop at bytes) ≡ c.index =
    ap (little_number 4) parts ∙ little_number-reads_back 4 c.index (c.old ++ (c.new ++ rest)) fits.0 in
    let old : take len (drop (at + 4) bytes) ≡ c.old = ap (take len) after ∙ take_at c.old (c.new ++ rest) len fits.1 in
    let new : take len (drop (at + (4 + len)) bytes) ≡ c.new = ap (take len) last ∙ take_at c.new rest len fits.2 in
    ap (λ i. changed i (take len (drop (at + 4) bytes)) (take len (drop (at + (4 + len)) bytes))) index
    ∙ ap (λ (b : List ℕ). changed c.index b (take len (drop (at + (4 + len)) bytes))) old
    ∙ ap (changed c.index c.old) new

pub entries_say_the_changes : EntriesSayTheChanges
entries_say_the_changes len changes each =
    let bytes : List ℕ = entries_bytes changes in
    let none : ChangedRecord = changed 0 [] [] in
    let count : length bytes / entry_len len ≡ length changes =
    ap (λ n. n / entry_len len) (length-entries len changes each ∙ omega arith) ∙ div-mul-add (length changes) (entry_len len) 0 (omega arith) in
    ap (λ n. list_of n (change_in len bytes)) count
    ∙ sym (fill_by_all (change_in len bytes) changes (length changes) none refl (λ k h.
    sym (change_there len k bytes (entries_bytes (drop (k + 1) changes)) (get_or changes k none)
    (All-get_or (IsChangeOf len) changes k none h each) (from_place len changes k none each h))))
