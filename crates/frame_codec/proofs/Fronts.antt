-- Bytes copied from the beginning of two lists, one after the other.
use Rattle.std.proofs.Common.{◌≡◌, ℕ, zero, suc, ◌+◌, ◌-◌, ◌<◌, ◌≤◌, List, [], ◌∷◌, ◌++◌, length, get_or, take, refl, sym, ap, ◌∙◌, arith}
use Rattle.std.specs.Prelude.{slice_index, slice_set}
use Rattle.std.proofs.lemmas.List.{get_or_append_left, get_or-append_right, length-set, length-take, take_all, take_more, take_more_set}
use Rattle.frame_codec.proofs.NumberBytes.{IsBytes, IsBytes-rest}

-- a byte of the first list
pub byte_front : (first rest : List ℕ) (i x : ℕ) → i < length first → x ≡ slice_index first i → get_or (first ++ rest) i 0 ≡ x
byte_front first rest i x lt is = get_or_append_left first rest 0 i lt ∙ sym is

-- a byte of the second
pub byte_back : (first rest : List ℕ) (i x : ℕ) → length first ≤ i → x ≡ slice_index rest (i - length first) → get_or (first ++ rest) i 0 ≡ x
byte_back first rest i x le is = get_or-append_right first rest (length first) i 0 refl le ∙ sym is

-- one more byte was copied
pub copies_on : (space both : List ℕ) (i x : ℕ) → i < length space → i < length both → take i space ≡ take i both → get_or both i 0 ≡ x →
    (length (slice_set space i x) ≡ length space) × (take (i + 1) (slice_set space i x) ≡ take (i + 1) both)
copies_on space both i x within inside same byte = (
  length-set space i x,
  take_more_set space i x within ∙ ap (λ (t : List ℕ). t ++ x ∷ []) same ∙ ap (λ b. take i both ++ b ∷ []) (sym byte) ∙ sym (take_more both i 0 inside),
)

-- if there are as many bytes as there is space for, all the space was filled
pub copied_all : (n : ℕ) (space both : List ℕ) (k : ℕ) → length space ≡ n → take k space ≡ take n both → n ≤ length both → space ≡ take n both
copied_all n space both k len e le =
    let all : n ≤ k = omega (arith, ap length e, length-take k space, length-take n both, len, le) in
    sym (take_all k space (omega (arith, len, all))) ∙ e

-- numbers of both lists are bytes
pub IsBytes-append : (first rest : List ℕ) → IsBytes first → IsBytes rest → IsBytes (first ++ rest)
IsBytes-append [] rest f g i = g i
IsBytes-append (b ∷ first) rest f g zero = f 0
IsBytes-append (b ∷ first) rest f g (suc i) = IsBytes-append first rest (IsBytes-rest b first f) g i

-- bytes that were taken are bytes
pub IsBytes-take : (n : ℕ) (bytes : List ℕ) → IsBytes bytes → IsBytes (take n bytes)
IsBytes-take zero bytes h i = omega arith
IsBytes-take (suc n) [] h i = omega arith
IsBytes-take (suc n) (b ∷ bytes) h zero = h 0
IsBytes-take (suc n) (b ∷ bytes) h (suc i) = IsBytes-take n bytes (IsBytes-rest b bytes h) i
