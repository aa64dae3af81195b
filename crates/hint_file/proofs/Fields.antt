-- The fields of a hint's file.
use Rattle.std.proofs.Common.{◌≡◌, ℕ, zero, suc, ◌+◌, ◌<◌, ◌≤◌, List, [], ◌∷◌, ◌++◌, length, Some, slice_index, take, drop, sym, ap, ◌∙◌, arith}
use Rattle.std.proofs.Math.Seq.{take-add}
use Rattle.std.proofs.lemmas.List.{length-drop, take_all}
use Rattle.byteorder.specs.Endian.{little_number, little_bytes}
use Rattle.frame_codec.specs.Numbers.{number_bytes}
use Rattle.frame_codec.proofs.NumberBytes.{IsBytes, IsBytes-drop, only_bytes}
use Rattle.pir_schemes.specs.declared.scheme.Scheme.{Scheme}
use Rattle.pir_schemes.specs.declared.scheme.Scheme.TheVariants.{Simple, Double}
use Rattle.pir_schemes.specs.Schemes.{scheme_byte, scheme_of_byte}
use Rattle.hint_file.specs.declared.heads.HintFields.{HintFields}
use Rattle.hint_file.specs.Files.{plan_bytes, field_bytes}

-- a number after the bytes before it
number_after : (n x : ℕ) (fields : List ℕ) (k : ℕ) → IsBytes fields → k + n ≤ length fields → x ≡ little_number n (drop k fields)
    → take k fields ++ number_bytes n x ≡ take (k + n) fields
unfolding number_bytes
number_after n x fields k fits le e =
    let room : n ≤ length (drop k fields) = omega (arith, length-drop k fields) in
    let encoded : little_bytes n x ≡ take n (drop k fields) = ap (little_bytes n) e ∙ only_bytes n (drop k fields) (IsBytes-drop k fields fits) room in
    ap (λ (y : List ℕ). take k fields ++ y) encoded ∙ sym (take-add k n fields)

-- bytes after the bytes before them
bytes_after : (n : ℕ) (xs fields : List ℕ) (k : ℕ) → xs ≡ take n (drop k fields) → take k fields ++ xs ≡ take (k + n) fields
bytes_after n xs fields k e = ap (λ (y : List ℕ). take k fields ++ y) e ∙ sym (take-add k n fields)

-- one byte after the bytes before it
byte_after : (b : ℕ) (fields : List ℕ) (k : ℕ) → k < length fields → b ≡ slice_index fields k → take k fields ++ (b ∷ []) ≡ take (suc k) fields
byte_after b [] k lt e = absurd (omega arith)
byte_after b (x ∷ xs) zero lt e = ap (λ (y : ℕ). y ∷ []) e
byte_after b (x ∷ xs) (suc k) lt e = let lt2 : k < length xs = omega arith in ap (λ (y : List ℕ). x ∷ y) (byte_after b xs k lt2 e)

-- fields that were read encode the bytes
pub fields_read : (f : HintFields) (fields : List ℕ) → IsBytes fields → length fields ≡ 78
    → f.known.plan.form ≡ little_number 2 fields → f.known.plan.width ≡ slice_index fields 2 → f.known.plan.record_len ≡ little_number 2 (drop 3 fields)
    → f.known.plan.groups ≡ little_number 2 (drop 5 fields) → f.known.plan.dimension ≡ little_number 2 (drop 7 fields)
    → f.known.plan.seed ≡ take 32 (drop 9 fields) → f.known.count ≡ little_number 4 (drop 41 fields) → f.known.version ≡ little_number 8 (drop 45 fields)
    → scheme_byte f.scheme ≡ slice_index fields 53 → f.version ≡ little_number 8 (drop 54 fields)
    → f.rows ≡ little_number 8 (drop 62 fields) → f.cols ≡ little_number 8 (drop 70 fields)
    → field_bytes f ≡ fields
unfolding field_bytes plan_bytes
fields_read f fields fits len form width record_len groups dimension seed count version scheme of rows cols =
    let at2 : number_bytes 2 f.known.plan.form ≡ take 2 fields = number_after 2 f.known.plan.form fields 0 fits (omega arith) form in
    let at3 = ap (λ (x : List ℕ). x ++ (f.known.plan.width ∷ [])) at2 ∙ byte_after f.known.plan.width fields 2 (omega arith) width in
    let at5 = ap (λ (x : List ℕ). x ++ number_bytes 2 f.known.plan.record_len) at3 ∙ number_after 2 f.known.plan.record_len fields 3 fits (omega arith) record_len in
    let at7 = ap (λ (x : List ℕ). x ++ number_bytes 2 f.known.plan.groups) at5 ∙ number_after 2 f.known.plan.groups fields 5 fits (omega arith) groups in
    let at9 = ap (λ (x : List ℕ). x ++ number_bytes 2 f.known.plan.dimension) at7 ∙ number_after 2 f.known.plan.dimension fields 7 fits (omega arith) dimension in
    let at41 = ap (λ (x : List ℕ). x ++ f.known.plan.seed) at9 ∙ bytes_after 32 f.known.plan.seed fields 9 seed in
    let at45 = ap (λ (x : List ℕ). x ++ number_bytes 4 f.known.count) at41 ∙ number_after 4 f.known.count fields 41 fits (omega arith) count in
    let at53 = ap (λ (x : List ℕ). x ++ number_bytes 8 f.known.version) at45 ∙ number_after 8 f.known.version fields 45 fits (omega arith) version in
    let at54 = ap (λ (x : List ℕ). x ++ (scheme_byte f.scheme ∷ [])) at53 ∙ byte_after (scheme_byte f.scheme) fields 53 (omega arith) scheme in
    let at62 = ap (λ (x : List ℕ). x ++ number_bytes 8 f.version) at54 ∙ number_after 8 f.version fields 54 fits (omega arith) of in
    let at70 = ap (λ (x : List ℕ). x ++ number_bytes 8 f.rows) at62 ∙ number_after 8 f.rows fields 62 fits (omega arith) rows in
    let at78 = ap (λ (x : List ℕ). x ++ number_bytes 8 f.cols) at70 ∙ number_after 8 f.cols fields 70 fits (omega arith) cols in
    at78 ∙ take_all 78 fields (omega arith)

-- a byte that names a scheme is the scheme's
pub scheme_named : (s : Scheme) (b : ℕ) → scheme_of_byte b ≡ Some s → scheme_byte s ≡ b
scheme_named Simple b e = grind (arith, e)
scheme_named Double b e = grind (arith, e)
