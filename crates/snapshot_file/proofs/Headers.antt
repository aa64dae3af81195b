-- A header's bytes: their length, and the header whose bytes they are.
use Rattle.std.proofs.Common.{◌≡◌, ◌==◌, Bool, true, false, cond, codes, ℕ, ◌+◌, ◌<◌, ◌≤◌, List, [], ◌∷◌, ◌++◌, length, slice_index, take, drop, refl, ap, ◌∙◌, append_assoc, arith}
use Rattle.std.proofs.lemmas.List.{length-append, take_all}
use Rattle.byteorder.specs.Endian.{little_number}
use Rattle.snapshot_file.specs.declared.snapshot.Header.{Header}
use Rattle.snapshot_file.specs.Snapshots.{magic, form_bytes, fields_len, snapshot_number, header_bytes, IsHeader}
use Rattle.snapshot_file.proofs.NumberBytes.{IsBytes, length-number, number_after, bytes_after}

pub length-magic : (form : ℕ) → length (magic form) ≡ 8
unfolding magic
length-magic form = one_len (form == 1) (form == 2)
  where
    one_len : (b d : Bool) → length (cond b (codes "PIRSNAP1") (cond d (codes "PIRSNAP2") (codes "PIRWIDE1"))) ≡ 8
    one_len true d = refl
    one_len false true = refl
    one_len false false = refl

-- the first byte is the first of the fields
first_field : (w : ℕ) (before fields : List ℕ) → 0 < length fields → w ≡ slice_index fields 0 → before ++ (w ∷ []) ≡ before ++ take 1 fields
first_field w before [] h e = absurd (omega arith)
first_field w before (b ∷ fields) h e = ap (λ (x : ℕ). before ++ (x ∷ [])) e

-- a header that was read of its fields encodes them
pub header_read : (h : Header) (fields : List ℕ) → IsBytes fields → length fields ≡ 83
    → h.width ≡ slice_index fields 0 → h.record_len ≡ little_number 2 (drop 1 fields) → h.groups ≡ little_number 2 (drop 3 fields)
    → h.count ≡ little_number 4 (drop 5 fields) → h.dimension ≡ little_number 2 (drop 9 fields) → h.version ≡ little_number 8 (drop 11 fields)
    → h.seed ≡ take 32 (drop 19 fields) → h.publisher ≡ take 32 (drop 51 fields)
    → header_bytes h ≡ magic h.form ++ form_bytes h.form ++ fields
unfolding header_bytes
header_read h fields fits len w r g c n v s p =
    let at1 = first_field h.width (magic h.form ++ form_bytes h.form) fields (omega arith) w in
    let at3 = ap (λ (x : List ℕ). x ++ snapshot_number 2 h.record_len) at1 ∙ number_after 2 h.record_len (magic h.form ++ form_bytes h.form) fields 1 fits (omega arith) r in
    let at5 = ap (λ (x : List ℕ). x ++ snapshot_number 2 h.groups) at3 ∙ number_after 2 h.groups (magic h.form ++ form_bytes h.form) fields 3 fits (omega arith) g in
    let at9 = ap (λ (x : List ℕ). x ++ snapshot_number 4 h.count) at5 ∙ number_after 4 h.count (magic h.form ++ form_bytes h.form) fields 5 fits (omega arith) c in
    let at11 = ap (λ (x : List ℕ). x ++ snapshot_number 2 h.dimension) at9 ∙ number_after 2 h.dimension (magic h.form ++ form_bytes h.form) fields 9 fits (omega arith) n in
    let at19 = ap (λ (x : List ℕ). x ++ snapshot_number 8 h.version) at11 ∙ number_after 8 h.version (magic h.form ++ form_bytes h.form) fields 11 fits (omega arith) v in
    let at51 = ap (λ (x : List ℕ). x ++ h.seed) at19 ∙ bytes_after 32 h.seed (magic h.form ++ form_bytes h.form) fields 19 s in
    let at83 = ap (λ (x : List ℕ). x ++ h.publisher) at51 ∙ bytes_after 32 h.publisher (magic h.form ++ form_bytes h.form) fields 51 p in
    let all : take 83 fields ≡ fields = take_all 83 fields (omega arith) in
    at83 ∙ ap (λ (x : List ℕ). (magic h.form ++ form_bytes h.form) ++ x) all

-- a header has bytes
pub header_some : (h : Header) → 8 ≤ length (header_bytes h)
unfolding header_bytes
header_some h = simp length-append (omega (arith, length-magic h.form))

-- 91 of them, or 92
pub length-header : (h : Header) → IsHeader h → length (header_bytes h) ≡ 8 + fields_len h.form
unfolding header_bytes
length-header h is = simp (length-append, length-number, length-magic h.form, is.seed, is.publisher) (omega arith)

-- the fields come after magic and form
pub header_parts : (h : Header) → IsHeader h → (fields : List ℕ) × (header_bytes h ≡ magic h.form ++ (form_bytes h.form ++ fields))
unfolding header_bytes
header_parts h is = (
  (h.width ∷ []) ++ (snapshot_number 2 h.record_len
      ++ (snapshot_number 2 h.groups ++ (snapshot_number 4 h.count ++ (snapshot_number 2 h.dimension ++ (snapshot_number 8 h.version ++ (h.seed ++ h.publisher)))))),
  simp append_assoc refl,
)

-- what comes after the magic
pub header_fields : (h : Header) → IsHeader h → (fields : List ℕ) × (header_bytes h ≡ magic h.form ++ fields)
header_fields h is = let p = header_parts h is in (form_bytes h.form ++ p.0, p.1)
