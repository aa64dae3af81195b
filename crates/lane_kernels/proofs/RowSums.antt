-- Rows that are added four at once, and those that are left.
use Rattle.std.proofs.Common.{◌≡◌, ℕ, ◌+◌, ◌-◌, ◌*◌, ◌%◌, ◌^◌, ◌<◌, ◌≤◌, List, length, take, drop, length-drop, slice_index, refl, ap, ◌∙◌, arith}
use Rattle.std.proofs.lemmas.List.{get_or-drop, get_or-take, length-take}
use Rattle.std.proofs.lemmas.List.FromFn.{length-map-range_with_len, get_or-map-range_with_len}
use Rattle.matrix_u32.specs.Sum.{sum_below}
use Rattle.matrix_u32.specs.Matrix.{WordMatrix, entry, row}
use Rattle.matrix_u32.proofs.Sums.{sum_below_more, sum_below-add, sum_same}
use Rattle.matrix_u32.proofs.Products.{words_are}
use Rattle.matrix_u32.specs.Blocks.{plus_rows}
use Rattle.matrix_u32.proofs.Rows.{plus_rows-index, plus_rows-length, row_index}
use Rattle.lane_kernels.specs.Rows.{plus_four}

pub plus_rows-four : (out : List ℕ) (n : ℕ) (f : ℕ → ℕ) (b : WordMatrix) (start : ℕ) → length out ≡ b.cols
    → plus_four (plus_rows out n f b start) (row b (start + n)) (row b (start + n + 1)) (row b (start + n + 2)) (row b (start + n + 3)) (f n) (f (n + 1))
    (f (n + 2)) (f (n + 3))
    ≡ plus_rows out (n + 4) f b start
plus_rows-four out n f b start wide =
    let before = plus_rows out n f b start in
    let long : length before ≡ length out = plus_rows-length out n f b start in
    let place = start + n in
    words_are (plus_four before (row b place) (row b (place + 1)) (row b (place + 2)) (row b (place + 3)) (f n) (f (n + 1)) (f (n + 2)) (f (n + 3)))
    (length out) _
    (length-map-range_with_len _ 0 (length before) ∙ long) (λ q h.
    let col : q < b.cols = omega arith in
    let g : ℕ → ℕ = λ k. f k * entry b (start + k) q in
    let now = get_or-map-range_with_len (λ j. (slice_index before j + f n * slice_index (row b place) j + f (n + 1) * slice_index (row b (place + 1)) j
    + f (n + 2) * slice_index (row b (place + 2)) j + f (n + 3) * slice_index (row b (place + 3)) j) % 2 ^ 32) 0 (length before) q q 0 (omega (arith, long))
    (omega arith) in
    let was = plus_rows-index out n f b start q h in
    let w0 = row_index b place q col in
    let w1 = row_index b (place + 1) q col in
    let w2 = row_index b (place + 2) q col in
    let w3 = row_index b (place + 3) q col in
    let e1 : start + (n + 1) ≡ place + 1 = omega arith in
    let e2 : start + (n + 2) ≡ place + 2 = omega arith in
    let e3 : start + (n + 3) ≡ place + 3 = omega arith in
    let n2 : n + 1 + 1 ≡ n + 2 = omega arith in
    let n3 : n + 2 + 1 ≡ n + 3 = omega arith in
    let n4 : n + 3 + 1 ≡ n + 4 = omega arith in
    let s1 : sum_below (n + 1) g ≡ sum_below n g + f n * entry b place q = sum_below_more n g in
    let s2 : sum_below (n + 2) g ≡ sum_below (n + 1) g + f (n + 1) * entry b (place + 1) q = rw (n2, e1) at (sum_below_more (n + 1) g) in
    let s3 : sum_below (n + 3) g ≡ sum_below (n + 2) g + f (n + 2) * entry b (place + 2) q = rw (n3, e2) at (sum_below_more (n + 2) g) in
    let s4 : sum_below (n + 4) g ≡ sum_below (n + 3) g + f (n + 3) * entry b (place + 3) q = rw (n4, e3) at (sum_below_more (n + 3) g) in
    now ∙ rw (w0, w1, w2, w3) (omega (arith, was, s1, s2, s3, s4)))

-- more rows after some
pub plus_rows-add : (out : List ℕ) (n m : ℕ) (f g : ℕ → ℕ) (b : WordMatrix) (start : ℕ) → ((k : ℕ) → k < m → g k ≡ f (n + k))
    → plus_rows (plus_rows out n f b start) m g b (start + n) ≡ plus_rows out (n + m) f b start
plus_rows-add out n m f g b start same =
    let before = plus_rows out n f b start in
    let long : length before ≡ length out = plus_rows-length out n f b start in
    words_are (plus_rows before m g b (start + n)) (length out) _ (plus_rows-length before m g b (start + n) ∙ long) (λ q h.
    let h' : q < length before = omega (arith, long) in
    let now = plus_rows-index before m g b (start + n) q h' in
    let was = plus_rows-index out n f b start q h in
    let more = sum_below-add n m (λ k. f k * entry b (start + k) q) in
    let each : sum_below m (λ k. g k * entry b (start + n + k) q) ≡ sum_below m (λ k. f (n + k) * entry b (start + (n + k)) q) =
    sum_same m _ _ (λ k p. let e : start + n + k ≡ start + (n + k) = omega arith in rw (same k p, e) refl) in
    now ∙ omega (arith, was, more, each))

-- the rows whose factors are past the first n
pub plus_rows-rest : (old out factors : List ℕ) (n : ℕ) (b : WordMatrix) (start : ℕ) → n ≤ length factors
    → out ≡ plus_rows old n (λ k. slice_index factors k) b start
    → let tail = take (length factors - n) (drop n factors) in
    plus_rows out (length tail) (λ k. slice_index tail k) b (start + n) ≡ plus_rows old (length factors) (λ k. slice_index factors k) b start
plus_rows-rest old out factors n b start le before =
    let tail = take (length factors - n) (drop n factors) in
    let f : ℕ → ℕ = λ k. slice_index factors k in
    let long : length tail ≡ length factors - n = length-take (length factors - n) (drop n factors) ∙ omega (arith, length-drop n factors) in
    let size : n + length tail ≡ length factors = omega (arith, long) in
    ap (λ out. plus_rows out (length tail) (λ k. slice_index tail k) b (start + n)) before
    ∙ plus_rows-add old n (length tail) f (λ k. slice_index tail k) b start
    (λ k h. get_or-take (length factors - n) (drop n factors) k 0 (omega (arith, long)) ∙ get_or-drop n factors k 0)
    ∙ ap (λ k. plus_rows old k f b start) size
