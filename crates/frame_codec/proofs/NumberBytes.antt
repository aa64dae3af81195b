-- Numbers and words, lowest byte first.
use Rattle.std.proofs.Common.{◌≡◌, ℕ, zero, suc, ◌+◌, ◌-◌, ◌*◌, ◌/◌, ◌%◌, ◌^◌, ◌<◌, ◌≤◌, List, [], ◌∷◌, ◌++◌, length, get_or, slice_index, take, drop, All, refl, sym, ap, subst, ◌∙◌, append_assoc, arith}
use Rattle.std.proofs.Math.Nat.{div-div-eq-div-mul, pow-succ'}
use Rattle.std.specs.Int.{byte_at, bytes_low_first}
use Rattle.std.specs.List.{flat_map, AllByRecursion}
use Rattle.std.proofs.lemmas.List.{length-append, append-nil, nil_from_length, take_more, take-append-drop, drop_at, drop-drop, get_or-drop, length-drop}
use Rattle.std.proofs.lemmas.List.Concat.{flat_map-append}
use Rattle.byteorder.specs.Endian.{little_from, little_number, little_bytes, IsRead}
use Rattle.byteorder.specs.Numbers.{little_from-cons, little_from-append, little_number-reads_back, length-bytes_low_first}
use Rattle.frame_codec.specs.Numbers.{number_bytes, number_in, word_bytes}

-- each is a byte
abbrev pub IsBytes : List ℕ → Type 0
IsBytes bytes = (i : ℕ) → slice_index bytes i < 256

pub IsBytes-rest : (b : ℕ) (bytes : List ℕ) → IsBytes (b ∷ bytes) → IsBytes bytes
IsBytes-rest b bytes h i = h (suc i)

pub IsBytes-drop : (n : ℕ) (bytes : List ℕ) → IsBytes bytes → IsBytes (drop n bytes)
IsBytes-drop n bytes h i = rw get_or-drop (h (n + i))

-- ---- one number

-- a byte of a number is one of what is left above the lowest byte
shifted_byte : (j x : ℕ) → byte_at (suc j) x ≡ byte_at j (x / 256)
shifted_byte zero x = refl
shifted_byte (suc j) x = ap (λ (y : ℕ). y % 256) (ap (λ (p : ℕ). x / p) (pow-succ' 256 (suc j)) ∙ sym (div-div-eq-div-mul x 256 (256 ^ suc j)))

shifted_bytes : (j n x : ℕ) → bytes_low_first (suc j) n x ≡ bytes_low_first j n (x / 256)
shifted_bytes j zero x = refl
shifted_bytes j (suc n) x = rw (shifted_byte j x, shifted_bytes (suc j) n x) refl

-- the bytes read are the number's only encoding
pub only_bytes : (n : ℕ) (bytes : List ℕ) → IsBytes bytes → n ≤ length bytes → little_bytes n (little_number n bytes) ≡ take n bytes
only_bytes zero bytes fits le = refl
only_bytes (suc n) [] fits le = absurd (omega arith)
only_bytes (suc n) (b ∷ bytes) fits le =
    let r : ℕ = little_from 0 n bytes in
    let small : b < 256 = fits 0 in
    let e : b + 256 * little_from 1 n (b ∷ bytes) ≡ b + 256 * r = ap (λ (y : ℕ). b + 256 * y) (little_from-cons 0 n b bytes) in
    let low : (b + 256 * r) % 256 ≡ b = omega arith in
    let high : (b + 256 * r) / 256 ≡ r = omega arith in
    let rest : bytes_low_first 1 n (b + 256 * r) ≡ take n bytes = shifted_bytes 0 n (b + 256 * r) ∙ ap (λ (y : ℕ). bytes_low_first 0 n y) high
    ∙ only_bytes n bytes (IsBytes-rest b bytes fits) (omega arith) in
    ap (λ (y : ℕ). bytes_low_first 0 (suc n) y) e ∙ ap (λ (y : ℕ). y ∷ bytes_low_first 1 n (b + 256 * r)) low ∙ ap (λ (ys : List ℕ). b ∷ ys) rest

-- n bytes are below 256 ^ n
little_number-lt : (n : ℕ) (bytes : List ℕ) → IsBytes bytes → n ≤ length bytes → little_number n bytes < 256 ^ n
little_number-lt zero bytes fits le = omega arith
little_number-lt (suc n) [] fits le = absurd (omega arith)
little_number-lt (suc n) (b ∷ bytes) fits le =
    let small : b < 256 = fits 0 in
    let e : little_from 1 n (b ∷ bytes) ≡ little_from 0 n bytes = little_from-cons 0 n b bytes in
    omega (arith, e, small, pow-succ' 256 n, little_number-lt n bytes (IsBytes-rest b bytes fits) (omega arith))

pub number_in-lt : (n : ℕ) (bytes : List ℕ) → IsBytes bytes → n ≤ length bytes → number_in n bytes < 256 ^ n
unfolding number_in
number_in-lt n bytes fits le = little_number-lt n bytes fits le

-- a number's bytes read as the number
pub reads_back : (n x : ℕ) (more : List ℕ) → x < 256 ^ n → little_number n (little_bytes n x ++ more) ≡ x
reads_back n x more h = little_number-reads_back n x more h

pub length-number : (n x : ℕ) → length (number_bytes n x) ≡ n
unfolding number_bytes
length-number n x = length-bytes_low_first 0 n x

-- the number at the beginning, and then the other bytes
pub prefix : (n : ℕ) (bytes : List ℕ) → IsBytes bytes → n ≤ length bytes → number_bytes n (number_in n bytes) ++ drop n bytes ≡ bytes
unfolding number_bytes number_in
prefix n bytes fits le = ap (λ (x : List ℕ). x ++ drop n bytes) (only_bytes n bytes fits le) ∙ take-append-drop n bytes

pub number_back : (n x : ℕ) (more : List ℕ) → x < 256 ^ n → number_in n (number_bytes n x ++ more) ≡ x
unfolding number_bytes number_in
number_back n x more h = little_number-reads_back n x more h

pub number_ahead : (n : ℕ) (bytes more : List ℕ) → n ≤ length bytes → number_in n (bytes ++ more) ≡ number_in n bytes
unfolding number_in
number_ahead n bytes more le = little_from-append n bytes more le

pub drop_number : (n x : ℕ) (more : List ℕ) → drop n (number_bytes n x ++ more) ≡ more
drop_number n x more = drop_at (number_bytes n x) more n (length-number n x)

-- ---- words

pub words_none : (a : List ℕ) → a ++ word_bytes [] ≡ a
unfolding word_bytes
words_none a = append-nil a

-- no words, before what is left
pub no_words : (rest : List ℕ) → word_bytes [] ++ rest ≡ rest
unfolding word_bytes
no_words rest = refl

-- the bytes of words as they are written in one call
pub words_written : (ws : List ℕ) → word_bytes ws ≡ flat_map (little_bytes 4) ws
unfolding word_bytes number_bytes
words_written ws = refl

-- the words of a block and then the others
pub words_split : (xs ys : List ℕ) → word_bytes (xs ++ ys) ≡ word_bytes xs ++ word_bytes ys
unfolding word_bytes
words_split xs ys = flat_map-append (number_bytes 4) xs ys

-- what a block adds, before the words that are left
pub words_on : (out block beyond : List ℕ) → (out ++ word_bytes block) ++ word_bytes beyond ≡ out ++ word_bytes (block ++ beyond)
words_on out block beyond = append_assoc out (word_bytes block) (word_bytes beyond) ∙ ap (λ (x : List ℕ). out ++ x) (sym (words_split block beyond))

pub word_bytes-cons : (w : ℕ) (ws : List ℕ) → word_bytes (w ∷ ws) ≡ number_bytes 4 w ++ word_bytes ws
unfolding word_bytes
word_bytes-cons w ws = refl

pub length-words : (ws : List ℕ) → length (word_bytes ws) ≡ 4 * length ws
unfolding word_bytes
length-words [] = refl
length-words (w ∷ ws) = let ih : length (word_bytes ws) ≡ 4 * length ws =
    length-words ws in omega (arith, length-append (number_bytes 4 w) (word_bytes ws), length-number 4 w, ih)

-- the words that were read encode the bytes
pub words_read : (ws bytes : List ℕ) → IsBytes bytes → length bytes ≡ 4 * length ws → IsRead little_number 4 bytes ws → word_bytes ws ≡ bytes
unfolding word_bytes number_in
words_read [] [] fits len read = refl
words_read [] (b ∷ bytes) fits len read = absurd (omega arith)
words_read (w ∷ ws) bytes fits len read =
    let first : w ≡ number_in 4 bytes = read 0 (omega arith) in
    let shorter : length (drop 4 bytes) ≡ 4 * length ws = omega (arith, length-drop 4 bytes) in
    let rest : word_bytes ws ≡ drop 4 bytes = words_read ws (drop 4 bytes) (IsBytes-drop 4 bytes fits) shorter (λ k lt. next k lt) in
    ap (λ (x : List ℕ). number_bytes 4 w ++ x) rest ∙ ap (λ (y : ℕ). number_bytes 4 y ++ drop 4 bytes) first ∙ prefix 4 bytes fits (omega arith)
  where
    next : (k : ℕ) → k < length ws → slice_index ws k ≡ little_number 4 (drop (4 * k) (drop 4 bytes))
    next k lt =
        let place : 4 * suc k ≡ 4 + 4 * k = omega arith in
        read (suc k) (omega arith) ∙ ap (λ (n : ℕ). little_number 4 (drop n bytes)) place ∙ ap (little_number 4) (sym (drop-drop (4 * k) 4 bytes))

-- so many words from the beginning
pub words_in : ℕ → List ℕ → List ℕ
words_in zero bytes = []
words_in (suc n) bytes = number_in 4 bytes ∷ words_in n (drop 4 bytes)

-- the words of as many bytes encode them
pub words_encode : (n : ℕ) (bytes : List ℕ) → IsBytes bytes → length bytes ≡ 4 * n → word_bytes (words_in n bytes) ≡ bytes
unfolding word_bytes words_in
words_encode zero bytes fits len = sym (nil_from_length bytes len)
words_encode (suc n) bytes fits len =
    ap (λ (x : List ℕ). number_bytes 4 (number_in 4 bytes) ++ x)
    (words_encode n (drop 4 bytes) (IsBytes-drop 4 bytes fits) (omega (arith, length-drop 4 bytes)))
    ∙ prefix 4 bytes fits (omega arith)

pub words_small : (n : ℕ) (bytes : List ℕ) → IsBytes bytes → length bytes ≡ 4 * n → All (λ w. w < 2 ^ 32) (words_in n bytes)
unfolding words_in
words_small zero bytes fits len = λ i d lt. absurd (omega arith)
words_small (suc n) bytes fits len =
    λ i d lt. elim i as (λ i. i < suc (length (words_in n (drop 4 bytes))) → get_or (number_in 4 bytes ∷ words_in n (drop 4 bytes)) i d < 2 ^ 32) [
      | zero ↦ λ _. number_in-lt 4 bytes fits (omega arith)
      | suc i ↦ λ lt. words_small n (drop 4 bytes) (IsBytes-drop 4 bytes fits) (omega (arith, length-drop 4 bytes)) i d (omega arith)
    ] lt

pub length-words_in : (n : ℕ) (bytes : List ℕ) → length (words_in n bytes) ≡ n
unfolding words_in
length-words_in zero bytes = refl
length-words_in (suc n) bytes = ap suc (length-words_in n (drop 4 bytes))

pub words_back : (ws : List ℕ) → AllByRecursion (λ w. w < 2 ^ 32) ws → words_in (length ws) (word_bytes ws) ≡ ws
unfolding word_bytes words_in
words_back [] all = refl
words_back (w ∷ ws) all =
    let small : w < 256 ^ 4 = all.0 in
    ap (λ (n : ℕ). n ∷ words_in (length ws) (drop 4 (number_bytes 4 w ++ word_bytes ws))) (number_back 4 w (word_bytes ws) small)
    ∙ ap (λ (x : List ℕ). w ∷ words_in (length ws) x) (drop_number 4 w (word_bytes ws))
    ∙ ap (λ (x : List ℕ). w ∷ x) (words_back ws all.1)

pub ruleset lengths = (length-number, length-words, length-append)
