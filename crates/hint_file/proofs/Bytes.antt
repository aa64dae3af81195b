-- Bytes cut in two, and digests.
use Rattle.std.proofs.Common.{◌≡◌, ℕ, zero, suc, ◌+◌, ◌*◌, List, ◌++◌, length, slice_index, take, drop, refl, sym, ap, ◌∙◌, arith}
use Rattle.std.proofs.lemmas.List.{length-append, take_at, drop_at}
use Rattle.std.specs.Int.{w32, to_be_bytes}
use Rattle.sha2.specs.Sha256.{sha256, digest_bytes}
use Rattle.hint_file.specs.Files.{sealed}

-- two lists are cut at the same place
pub cut_prefix : (a b x y : List ℕ) → length a ≡ length b → a ++ x ≡ b ++ y → (a ≡ b) × (x ≡ y)
cut_prefix a b x y len e = (
  sym (take_at a x (length b) len) ∙ ap (take (length b)) e ∙ take_at b y (length b) refl,
  sym (drop_at a x (length b) len) ∙ ap (drop (length b)) e ∙ drop_at b y (length b) refl,
)

-- two lists are cut at the same place from their ends
pub cut_back : (n : ℕ) (a b x y : List ℕ) → length x ≡ n → length y ≡ n → a ++ x ≡ b ++ y → (a ≡ b) × (x ≡ y)
cut_back n a b x y lx ly e =
    let len : length a ≡ length b = omega (arith, length-append a x, length-append b y, ap length e) in
    cut_prefix a b x y len e

length-digest_bytes : (h : List ℕ) (n : ℕ) → length (digest_bytes h n) ≡ 4 * n
unfolding digest_bytes
length-digest_bytes h zero = refl
length-digest_bytes h (suc n) =
    let four : length (to_be_bytes w32 (slice_index h n)) ≡ 4 = refl in
    let ih = length-digest_bytes h n in
    omega (arith, length-append (digest_bytes h n) (to_be_bytes w32 (slice_index h n)))

pub length-sha256 : (m : List ℕ) → length (sha256 m) ≡ 32
unfolding sha256
length-sha256 m = length-digest_bytes _ 8

-- sealed bytes have their digest last
pub length-sealed : (body : List ℕ) → length (sealed body) ≡ length body + 32
length-sealed body = omega (arith, length-append body (sha256 body), length-sha256 body)

-- bytes that end in so many others are sealed only by them
pub sealed_parts : (body a x : List ℕ) → length x ≡ 32 → a ++ x ≡ sealed body → (a ≡ body) × (x ≡ sha256 a)
sealed_parts body a x len e =
    let cut = cut_back 32 a body x (sha256 body) len (length-sha256 body) e in
    (cut.0, cut.1 ∙ ap sha256 (sym cut.0))

-- what is sealed is known from the whole
pub sealed_one : (a b : List ℕ) → sealed a ≡ sealed b → a ≡ b
sealed_one a b e = (cut_back 32 a b (sha256 a) (sha256 b) (length-sha256 a) (length-sha256 b) e).0

-- what comes after the same bytes is the same
pub rest_one : (front a b : List ℕ) → front ++ a ≡ front ++ b → a ≡ b
rest_one front a b e = (cut_prefix front front a b refl e).1
