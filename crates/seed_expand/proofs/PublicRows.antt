-- Rows of public matrices, and those after them.
use Rattle.std.proofs.Common.{◌≡◌, ℕ, ◌+◌, ◌-◌, ◌*◌, ◌/◌, ◌<◌, ◌≤◌, inl, inr, arith, mul-le-mul_right, ap, ◌∙◌, sym, refl, List, length}
use Rattle.std.proofs.Math.Nat.{mul-div_cancel}
use Rattle.std.proofs.lemmas.Nat.{mul-add-lt}
use Rattle.std.proofs.lemmas.Bool.{cases_lt}
use Rattle.std.proofs.lemmas.List.{length-append, length-take-le, get_or_append_left, get_or-append_right}
use Rattle.std.specs.Prelude.{slice_index}
use Rattle.matrix_u32.specs.Matrix.{WordMatrix, matrix_of, with_rows, first_rows}
use Rattle.matrix_u32.proofs.Products.{length-list_of, entry-matrix_of}
use Rattle.matrix_u32.proofs.Changes.{matrix_by_entries}
use Rattle.matrix_u32.proofs.Growth.{entry-first_rows}
use Rattle.seed_expand.specs.Words.{word, public_rows}

-- the rows of a matrix up to row m, and below them those from row m on, are the matrix
further_of : (m k n : ℕ) (f g : ℕ → ℕ → ℕ) → 0 < n → ((i j : ℕ) → i < k → j < n → g i j ≡ f (m + i) j) →
    matrix_of (m + k) n f ≡ with_rows (matrix_of m n f) (matrix_of k n g).words
further_of m k n f g wide same =
    let a : WordMatrix = matrix_of m n f in
    let b : WordMatrix = matrix_of k n g in
    let high : length a.words ≡ m * n = length-list_of (m * n) _ in
    let more : length b.words ≡ k * n = length-list_of (k * n) _ in
    let count : length b.words / n ≡ k = ap (λ l. l / n) more ∙ mul-div_cancel k wide in
    sym (matrix_by_entries (with_rows a b.words) (m + k) n f (ap (λ c. m + c) count) refl
    (length-append a.words b.words ∙ ap (λ l. l + length b.words) high ∙ ap (λ l. m * n + l) more ∙ omega (arith, ap (λ c. (m + c) * n) count))
    (λ i j p q. elim (cases_lt i m) [
      | inl l ↦
          get_or_append_left a.words b.words 0 (i * n + j) (omega (arith, high, mul-add-lt i n j m l q)) ∙ entry-matrix_of m n f i j l q
      | inr ge ↦
          let back : m + (i - m) ≡ i = omega (arith, ge) in
          let place : i * n + j ≡ m * n + ((i - m) * n + j) = omega (arith, ap (λ x. x * n) back) in
          get_or-append_right a.words b.words (m * n) (i * n + j) 0 high (omega (arith, place))
          ∙ ap (λ x. slice_index b.words x) (omega (arith, place))
          ∙ entry-matrix_of k n g (i - m) j (omega (arith, p, ge)) q ∙ same (i - m) j (omega (arith, p, ge)) q ∙ ap (λ x. f x j) back
    ]))

pub rows-in_turn : (seed : List ℕ) (stream first m k n : ℕ) → 0 < n →
    public_rows seed stream first (m + k) n ≡ with_rows (public_rows seed stream first m n) (public_rows seed stream (first + m) k n).words
rows-in_turn seed stream first m k n wide =
    further_of m k n (λ i j. word seed stream ((first + i) * n + j)) (λ i j. word seed stream ((first + m + i) * n + j)) wide
    (λ i j p q. ap (word seed stream) (omega arith))

pub rows-alone : (seed : List ℕ) (stream first m k n : ℕ) → k ≤ m → first_rows (public_rows seed stream first m n) k ≡ public_rows seed stream first k n
rows-alone seed stream first m k n le =
    let f : ℕ → ℕ → ℕ = λ i j. word seed stream ((first + i) * n + j) in
    let a : WordMatrix = matrix_of m n f in
    let high : length a.words ≡ m * n = length-list_of (m * n) _ in
    matrix_by_entries (first_rows a k) k n f refl refl (length-take-le (k * n) a.words (omega (arith, high, mul-le-mul_right n le)))
    (λ i j p q. entry-first_rows a k i j p q ∙ entry-matrix_of m n f i j (omega arith) q)
