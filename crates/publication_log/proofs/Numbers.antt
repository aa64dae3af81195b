-- Numbers, the lowest byte first, and their only encoding; lengths of digests.
use Rattle.std.proofs.Common.{◌≡◌, ℕ, zero, suc, ◌+◌, ◌-◌, ◌*◌, ◌/◌, ◌%◌, ◌^◌, ◌<◌, ◌≤◌, List, [], ◌∷◌, ◌++◌, length, slice_index, take, drop, refl, sym, ap, ◌∙◌, arith}
use Rattle.std.proofs.Math.Nat.{div-div-eq-div-mul, pow-succ'}
use Rattle.std.proofs.lemmas.List.{length-append, length-drop, get_or-drop, take_at, drop_at, take_all}
use Rattle.std.specs.Int.{byte_at, bytes_low_first, w32, to_be_bytes}
use Rattle.byteorder.specs.Endian.{little_from, little_number, little_bytes}
use Rattle.byteorder.specs.Numbers.{little_from-cons, little_number-reads_back, length-bytes_low_first}
use Rattle.sha2.specs.Sha256.{sha256, digest_bytes}
use Rattle.publication_log.specs.Publications.{log_number_bytes}

-- each is a byte
abbrev pub IsBytes : List ℕ → Type 0
IsBytes bytes = (i : ℕ) → slice_index bytes i < 256

pub IsBytes-rest : (b : ℕ) (bytes : List ℕ) → IsBytes (b ∷ bytes) → IsBytes bytes
IsBytes-rest b bytes h i = h (suc i)

pub IsBytes-drop : (n : ℕ) (bytes : List ℕ) → IsBytes bytes → IsBytes (drop n bytes)
IsBytes-drop n bytes h i = rw get_or-drop (h (n + i))

-- a byte of a number is one of what is left above the lowest byte
shifted_byte : (j x : ℕ) → byte_at (suc j) x ≡ byte_at j (x / 256)
shifted_byte zero x = refl
shifted_byte (suc j) x = ap (λ (y : ℕ). y % 256) (ap (λ (p : ℕ). x / p) (pow-succ' 256 (suc j)) ∙ sym (div-div-eq-div-mul x 256 (256 ^ suc j)))

shifted_bytes : (j n x : ℕ) → bytes_low_first (suc j) n x ≡ bytes_low_first j n (x / 256)
shifted_bytes j zero x = refl
shifted_bytes j (suc n) x = rw (shifted_byte j x, shifted_bytes (suc j) n x) refl

-- the bytes read are the number's only encoding
only_bytes : (n : ℕ) (bytes : List ℕ) → IsBytes bytes → n ≤ length bytes → little_bytes n (little_number n bytes) ≡ take n bytes
only_bytes zero bytes fits le = refl
only_bytes (suc n) [] fits le = absurd (omega arith)
only_bytes (suc n) (b ∷ bytes) fits le =
    let r : ℕ = little_from 0 n bytes in
    let small : b < 256 = fits 0 in
    let e : b + 256 * little_from 1 n (b ∷ bytes) ≡ b + 256 * r = ap (λ (y : ℕ). b + 256 * y) (little_from-cons 0 n b bytes) in
    let low : (b + 256 * r) % 256 ≡ b = omega arith in
    let high : (b + 256 * r) / 256 ≡ r = omega arith in
    let rest : bytes_low_first 1 n (b + 256 * r) ≡ take n bytes = shifted_bytes 0 n (b + 256 * r) ∙ ap (λ (y : ℕ). bytes_low_first 0 n y) high
    ∙ only_bytes n bytes (IsBytes-rest b bytes fits) (omega arith) in
    ap (λ (y : ℕ). bytes_low_first 0 (suc n) y) e ∙ ap (λ (y : ℕ). y ∷ bytes_low_first 1 n (b + 256 * r)) low ∙ ap (λ (ys : List ℕ). b ∷ ys) rest

-- a number that was read has the bytes that were read
pub number_read : (n x : ℕ) (bytes : List ℕ) → IsBytes bytes → n ≤ length bytes → x ≡ little_number n bytes → log_number_bytes n x ≡ take n bytes
unfolding log_number_bytes
number_read n x bytes fits le e = ap (little_bytes n) e ∙ only_bytes n bytes fits le

pub length-number : (n x : ℕ) → length (log_number_bytes n x) ≡ n
unfolding log_number_bytes
length-number n x = length-bytes_low_first 0 n x

pub number_back : (n x : ℕ) (more : List ℕ) → x < 256 ^ n → little_number n (log_number_bytes n x ++ more) ≡ x
unfolding log_number_bytes
number_back n x more h = little_number-reads_back n x more h

-- what is from a place on
pub tail_is : (n : ℕ) (bytes : List ℕ) → take (length bytes - n) (drop n bytes) ≡ drop n bytes
tail_is n bytes = take_all (length bytes - n) (drop n bytes) (omega (arith, length-drop n bytes))

-- two lists are cut at one place
pub cut_prefix : (a b x y : List ℕ) → length a ≡ length b → a ++ x ≡ b ++ y → (a ≡ b) × (x ≡ y)
cut_prefix a b x y len e = (
  sym (take_at a x (length b) len) ∙ ap (take (length b)) e ∙ take_at b y (length b) refl,
  sym (drop_at a x (length b) len) ∙ ap (drop (length b)) e ∙ drop_at b y (length b) refl,
)

-- no two numbers have the same bytes
pub one_number : (n x y : ℕ) → x < 256 ^ n → y < 256 ^ n → log_number_bytes n x ≡ log_number_bytes n y → x ≡ y
one_number n x y hx hy e = sym (number_back n x [] hx) ∙ ap (λ (bytes : List ℕ). little_number n (bytes ++ [])) e ∙ number_back n y [] hy

length-digest_bytes : (h : List ℕ) (n : ℕ) → length (digest_bytes h n) ≡ 4 * n
unfolding digest_bytes
length-digest_bytes h zero = refl
length-digest_bytes h (suc n) =
    let four : length (to_be_bytes w32 (slice_index h n)) ≡ 4 = refl in
    let ih = length-digest_bytes h n in
    omega (arith, length-append (digest_bytes h n) (to_be_bytes w32 (slice_index h n)))

pub length-sha256 : (m : List ℕ) → length (sha256 m) ≡ 32
unfolding sha256
length-sha256 m = length-digest_bytes _ 8
