-- Numbers, lowest byte first, and their only encoding.
use Rattle.std.proofs.Common.{◌≡◌, ℕ, zero, suc, ◌+◌, ◌*◌, ◌/◌, ◌%◌, ◌^◌, ◌<◌, ◌≤◌, List, [], ◌∷◌, ◌++◌, length, slice_index, take, drop, refl, sym, ap, ◌∙◌, append_assoc, arith}
use Rattle.std.proofs.Math.Nat.{div-div-eq-div-mul, pow-succ'}
use Rattle.std.proofs.Math.Seq.{take-add}
use Rattle.std.specs.Int.{byte_at, bytes_low_first}
use Rattle.std.proofs.lemmas.List.{get_or-drop, length-drop}
use Rattle.byteorder.specs.Endian.{little_from, little_number, little_bytes}
use Rattle.byteorder.specs.Numbers.{little_from-cons, little_number-reads_back, length-bytes_low_first}
use Rattle.snapshot_file.specs.Snapshots.{snapshot_number}

-- each is a byte
abbrev pub IsBytes : List ℕ → Type 0
IsBytes bytes = (i : ℕ) → slice_index bytes i < 256

pub IsBytes-rest : (b : ℕ) (bytes : List ℕ) → IsBytes (b ∷ bytes) → IsBytes bytes
IsBytes-rest b bytes h i = h (suc i)

pub IsBytes-drop : (n : ℕ) (bytes : List ℕ) → IsBytes bytes → IsBytes (drop n bytes)
IsBytes-drop n bytes h i = rw get_or-drop (h (n + i))

-- a byte of a number is one of what is left above the lowest byte
shifted_byte : (j x : ℕ) → byte_at (suc j) x ≡ byte_at j (x / 256)
shifted_byte zero x = refl
shifted_byte (suc j) x = ap (λ (y : ℕ). y % 256) (ap (λ (p : ℕ). x / p) (pow-succ' 256 (suc j)) ∙ sym (div-div-eq-div-mul x 256 (256 ^ suc j)))

shifted_bytes : (j n x : ℕ) → bytes_low_first (suc j) n x ≡ bytes_low_first j n (x / 256)
shifted_bytes j zero x = refl
shifted_bytes j (suc n) x = rw (shifted_byte j x, shifted_bytes (suc j) n x) refl

-- the bytes read are the number's only encoding
pub only_bytes : (n : ℕ) (bytes : List ℕ) → IsBytes bytes → n ≤ length bytes → little_bytes n (little_number n bytes) ≡ take n bytes
only_bytes zero bytes fits le = refl
only_bytes (suc n) [] fits le = absurd (omega arith)
only_bytes (suc n) (b ∷ bytes) fits le =
    let r : ℕ = little_from 0 n bytes in
    let small : b < 256 = fits 0 in
    let e : b + 256 * little_from 1 n (b ∷ bytes) ≡ b + 256 * r = ap (λ (y : ℕ). b + 256 * y) (little_from-cons 0 n b bytes) in
    let low : (b + 256 * r) % 256 ≡ b = omega arith in
    let high : (b + 256 * r) / 256 ≡ r = omega arith in
    let rest : bytes_low_first 1 n (b + 256 * r) ≡ take n bytes = shifted_bytes 0 n (b + 256 * r) ∙ ap (λ (y : ℕ). bytes_low_first 0 n y) high
    ∙ only_bytes n bytes (IsBytes-rest b bytes fits) (omega arith) in
    ap (λ (y : ℕ). bytes_low_first 0 (suc n) y) e ∙ ap (λ (y : ℕ). y ∷ bytes_low_first 1 n (b + 256 * r)) low ∙ ap (λ (ys : List ℕ). b ∷ ys) rest

pub length-number : (n x : ℕ) → length (snapshot_number n x) ≡ n
unfolding snapshot_number
length-number n x = length-bytes_low_first 0 n x

pub number_back : (n x : ℕ) (more : List ℕ) → x < 256 ^ n → little_number n (snapshot_number n x ++ more) ≡ x
unfolding snapshot_number
number_back n x more h = little_number-reads_back n x more h

-- a number after the bytes before it
pub number_after : (n x : ℕ) (before fields : List ℕ) (k : ℕ) → IsBytes fields → k + n ≤ length fields → x ≡ little_number n (drop k fields)
    → before ++ take k fields ++ snapshot_number n x ≡ before ++ take (k + n) fields
unfolding snapshot_number
number_after n x before fields k fits le e =
    let room : n ≤ length (drop k fields) = omega (arith, length-drop k fields) in
    let encoded : little_bytes n x ≡ take n (drop k fields) = ap (little_bytes n) e ∙ only_bytes n (drop k fields) (IsBytes-drop k fields fits) room in
    append_assoc before (take k fields) (little_bytes n x)
    ∙ ap (λ (y : List ℕ). before ++ (take k fields ++ y)) encoded
    ∙ ap (λ (y : List ℕ). before ++ y) (sym (take-add k n fields))

-- bytes after the bytes before them
pub bytes_after : (n : ℕ) (xs before fields : List ℕ) (k : ℕ) → xs ≡ take n (drop k fields)
    → before ++ take k fields ++ xs ≡ before ++ take (k + n) fields
bytes_after n xs before fields k e =
    append_assoc before (take k fields) xs
    ∙ ap (λ (y : List ℕ). before ++ (take k fields ++ y)) e
    ∙ ap (λ (y : List ℕ). before ++ y) (sym (take-add k n fields))
