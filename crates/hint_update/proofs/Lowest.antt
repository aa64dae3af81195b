-- What the changes of a word's lowest digit add, from those of its other digits.
use Rattle.std.proofs.Common.{◌≡◌, ℕ, ◌+◌, ◌-◌, ◌*◌, ◌/◌, ◌%◌, ◌^◌, ◌<◌, ◌≤◌, ◌⊎◌, arith, ap, ◌∙◌, sym, inl, inr, List, length}
use Rattle.std.proofs.lemmas.Bool.{cases_lt}
use Rattle.std.proofs.lemmas.Nat.{mul-mod_first, mul-mod_second, mul-add-lt, div-mul-add, div-add-mod', div_below, le-div, mod_below}
use Rattle.std.specs.Prelude.{slice_index}
use Rattle.matrix_u32.specs.Sum.{sum_below}
use Rattle.matrix_u32.proofs.Sums.{sum_below-add, sum_below_more, sum_below_none, sum_same, sum_add, sum_scale, sum_scale_right, sum_swap, sum_zero, sum_congruent, sum_prefix}
use Rattle.matrix_u32.specs.Matrix.{WordMatrix, entry, row, plus_scaled, written_row}
use Rattle.matrix_u32.specs.Blocks.{plus_rows}
use Rattle.matrix_u32.proofs.Products.{at-list_of, length-list_of}
use Rattle.matrix_u32.proofs.Rows.{row_index, length-row, plus_rows-index, plus_rows-length}
use Rattle.lane_kernels.specs.Digit.{split_count}
use Rattle.hint_update.specs.Updates.{AddsRows}
use Rattle.hint_update.proofs.Blocks.{row_added}
use Rattle.hint_update.specs.Words.{IsMultiple, IsRowAdded, higher_row}

-- the sum of the products of one row of e with a list
abbrev pub total : ℕ → (ℕ → ℕ → ℕ) → (ℕ → ℕ) → ℕ → ℕ
total n e a t = sum_below n (λ k. e t k * a k)

-- rows times their weights, and a list times a factor, that give 0 at each place where the other
-- list is not 0, give 0 with the other list
all_give_none : (n m : ℕ) (e : ℕ → ℕ → ℕ) (g a f : ℕ → ℕ) (u : ℕ) →
    ((k : ℕ) → k < n → ((sum_below m (λ t. g t * e t k) + u * f k) % 2 ^ 32 ≡ 0) ⊎ (a k ≡ 0)) →
    (sum_below m (λ t. g t * total n e a t) + u * sum_below n (λ k. f k * a k)) % 2 ^ 32 ≡ 0
all_give_none n m e g a f u none =
    let column : ℕ → ℕ = λ k. sum_below m (λ t. g t * e t k) in
    let first : sum_below m (λ t. g t * total n e a t) ≡ sum_below n (λ k. column k * a k) =
    sum_same m (λ t. g t * total n e a t) (λ t. sum_below n (λ k. g t * (e t k * a k))) (λ t l. sym (sum_scale n (g t) (λ k. e t k * a k)))
    ∙ sum_swap m n (λ t k. g t * (e t k * a k))
    ∙ sum_same n (λ k. sum_below m (λ t. g t * (e t k * a k))) (λ k. column k * a k) (λ k l.
    sum_same m (λ t. g t * (e t k * a k)) (λ t. g t * e t k * a k) (λ t p. grind arith) ∙ sum_scale_right m (a k) (λ t. g t * e t k)) in
    let second : u * sum_below n (λ k. f k * a k) ≡ sum_below n (λ k. u * f k * a k) =
    sym (sum_scale n u (λ k. f k * a k)) ∙ sum_same n (λ k. u * (f k * a k)) (λ k. u * f k * a k) (λ k l. grind arith) in
    let both : sum_below m (λ t. g t * total n e a t) + u * sum_below n (λ k. f k * a k) ≡ sum_below n (λ k. column k * a k + u * f k * a k) =
    ap (λ x. x + u * sum_below n (λ k. f k * a k)) first ∙ ap (λ x. sum_below n (λ k. column k * a k) + x) second
    ∙ sym (sum_add n (λ k. column k * a k) (λ k. u * f k * a k)) in
    let zero : sum_below n (λ k. column k * a k + u * f k * a k) % 2 ^ 32 ≡ sum_below n (λ _. 0) % 2 ^ 32 =
    sum_congruent n (λ k. column k * a k + u * f k * a k) (λ _. 0) (λ k l. elim (none k l) [
      | inl is ↦
          let parts : column k * a k + u * f k * a k ≡ (column k + u * f k) * a k = grind arith in
          let nothing : 0 * a k ≡ 0 = omega arith in
          ap (λ x. x % 2 ^ 32) parts ∙ sym (mul-mod_first (column k + u * f k) (a k) (2 ^ 32)) ∙ ap (λ x. x * a k % 2 ^ 32) is ∙ ap (λ x. x % 2 ^ 32) nothing
      | inr is ↦
          let nothing : column k * 0 + u * f k * 0 ≡ 0 = omega arith in
          ap (λ x. (column k * x + u * f k * x) % 2 ^ 32) is ∙ ap (λ x. x % 2 ^ 32) nothing
    ]) in
    ap (λ x. x % 2 ^ 32) both ∙ zero ∙ ap (λ x. x % 2 ^ 32) (sum_zero n)

-- what row 0 gives with a list, if its weight is that of -1
pub lowest_follows : (n m : ℕ) (e : ℕ → ℕ → ℕ) (g a f : ℕ → ℕ) (u : ℕ) → g 0 ≡ 2 ^ 32 - 1 →
    ((k : ℕ) → k < n → ((sum_below (1 + m) (λ t. g t * e t k) + u * f k) % 2 ^ 32 ≡ 0) ⊎ (a k ≡ 0)) →
    (sum_below m (λ s. g (1 + s) * total n e a (1 + s)) + u * sum_below n (λ k. f k * a k)) % 2 ^ 32 ≡ total n e a 0 % 2 ^ 32
lowest_follows n m e g a f u is none =
    let zero : (sum_below (1 + m) (λ t. g t * total n e a t) + u * sum_below n (λ k. f k * a k)) % 2 ^ 32 ≡ 0 = all_give_none n (1 + m) e g a f u none in
    let parts : sum_below (1 + m) (λ t. g t * total n e a t) ≡ sum_below 1 (λ t. g t * total n e a t) + sum_below m (λ s. g (1 + s) * total n e a (1 + s)) =
    sum_below-add 1 m (λ t. g t * total n e a t) in
    let one : sum_below 1 (λ t. g t * total n e a t) ≡ (2 ^ 32 - 1) * total n e a 0 =
    sum_below_more 0 (λ t. g t * total n e a t) ∙ ap (λ x. x + g 0 * total n e a 0) (sum_below_none (λ t. g t * total n e a t))
    ∙ ap (λ x. 0 + x * total n e a 0) is ∙ omega arith in
    omega (arith, zero, parts, one)

-- what the test of a word finds: rows that were added to zeros, each times its weight, and a list
-- times a factor, are 0 at n places
pub sums_are_none : (zeros weights common : List ℕ) (changes : WordMatrix) (i n factor : ℕ) → n ≤ length zeros →
    ((k : ℕ) → k < length zeros → slice_index zeros k ≡ 0) →
    ((k : ℕ) → k < n → slice_index (plus_scaled (plus_rows zeros (length weights) (λ t. slice_index weights t) changes i) common factor) k ≡ 0) →
    IsMultiple weights changes i n common factor
sums_are_none zeros weights common changes i n factor few clear none = λ k l.
    let sum : ℕ = sum_below (length weights) (λ t. slice_index weights t * entry changes (i + t) k) in
    let rows : List ℕ = plus_rows zeros (length weights) (λ t. slice_index weights t) changes i in
    let inside : k < length zeros = omega (arith, l, few) in
    let long : length rows ≡ length zeros = plus_rows-length zeros (length weights) (λ t. slice_index weights t) changes i in
    let first : slice_index rows k ≡ (slice_index zeros k + sum) % 2 ^ 32 =
    plus_rows-index zeros (length weights) (λ t. slice_index weights t) changes i k inside in
    let second : slice_index (plus_scaled rows common factor) k ≡ (slice_index rows k + factor * slice_index common k) % 2 ^ 32 =
    at-list_of (length rows) (λ j. (slice_index rows j + factor * slice_index common j) % 2 ^ 32) k (omega (arith, inside, long)) in
    let zero : slice_index zeros k ≡ 0 = clear k inside in
    let last = none k l in
    omega (arith, first, second, zero, last)

-- rows that are added to zeros, each times its number in a list
pub combined_is : (zeros common : List ℕ) (public : WordMatrix) → length zeros ≡ public.cols → length common ≡ public.rows →
    ((q : ℕ) → q < length zeros → slice_index zeros q ≡ 0) → (q : ℕ) → q < public.cols →
    slice_index (plus_rows zeros (length common) (λ k. slice_index common k) public 0) q
    ≡ sum_below public.rows (λ k. slice_index common k * entry public k q) % 2 ^ 32
combined_is zeros common public wide long clear q l =
    let f : ℕ → ℕ = λ k. slice_index common k * entry public (0 + k) q in
    let same : sum_below (length common) f ≡ sum_below public.rows (λ k. slice_index common k * entry public k q) =
    ap (λ n. sum_below n f) long
    ∙ sum_same public.rows f (λ k. slice_index common k * entry public k q) (λ k p. ap (λ x. slice_index common k * entry public x q) (omega arith)) in
    let zero : slice_index zeros q ≡ 0 = clear q (omega (arith, l, wide)) in
    let new = plus_rows-index zeros (length common) (λ k. slice_index common k) public 0 q (omega (arith, l, wide)) in
    omega (arith, same, zero, new)

-- ---- where the digits of words are
-- a word has some digits
pub digits_some : (w : ℕ) → 6 ≤ w → w ≤ 10 → 1 < split_count w
unfolding split_count
digits_some w low high = le-div 2 (31 + w) w (omega (arith, low)) (omega (arith, high))

pub digits_few : (w : ℕ) → 6 ≤ w → split_count w ≤ 6
unfolding split_count
digits_few w low =
    let below : (31 + w) / w < 7 = div_below (31 + w) w 7 (omega (arith, low)) (omega (arith, low)) in
    omega (arith, below)

-- a row and those after it, in words of `step` digits
times_step : (a step : ℕ) → 1 < step → a * step ≡ a * (step - 1) + a
times_step a step some =
    let m : ℕ = step - 1 in
    let is : step ≡ m + 1 = omega (arith, some) in
    let split : a * (m + 1) ≡ a * m + a = grind arith in
    ap (λ x. a * x) is ∙ split

-- the row of a higher digit
pub higher_source : (step a s : ℕ) → s + 1 < step → higher_row step (a * (step - 1) + s) ≡ a * step + (1 + s)
higher_source step a s l =
    let part : (a * (step - 1) + s) / (step - 1) ≡ a = div-mul-add a (step - 1) s (omega (arith, l)) in
    let times : a * step ≡ a * (step - 1) + a = times_step a step (omega (arith, l)) in
    omega (arith, part, times)

-- the rows of a word that begins at row i, and its higher digits among all of them
pub record IsWordAt (i step count rows : ℕ) : Type 0 where
  pub within : i + step ≤ count
  pub index : i - i / step ≡ i / step * (step - 1)
  pub fit : i - i / step + (step - 1) ≤ rows
  pub start : i ≡ i / step * step

pub word_at : (i step count rows : ℕ) → 1 < step → i < count → count % step ≡ 0 → count / step * (step - 1) ≤ rows → i % step ≡ 0 →
    IsWordAt i step count rows
word_at i step count rows some l whole fit lowest =
    let a : ℕ = i / step in
    let n : ℕ = count / step in
    let i_is : a * step + i % step ≡ i = div-add-mod' i step in
    let count_is : n * step + count % step ≡ count = div-add-mod' count step in
    let below : a < n = div_below i step n (omega (arith, some)) (omega (arith, l, count_is, whole)) in
    let last : a * step + (step - 1) < step * n = mul-add-lt a step (step - 1) n below (omega (arith, some)) in
    let turn : step * n ≡ n * step = grind arith in
    let last_higher : a * (step - 1) + (step - 1 - 1) < (step - 1) * n = mul-add-lt a (step - 1) (step - 1 - 1) n below (omega (arith, some)) in
    let turn_higher : (step - 1) * n ≡ n * (step - 1) = grind arith in
    let times : a * step ≡ a * (step - 1) + a = times_step a step some in
    let index : i - a ≡ a * (step - 1) = omega (arith, i_is, lowest, times) in
    record {
      within = omega (arith, i_is, lowest, last, turn, count_is, whole, some);
      index = index;
      fit = omega (arith, index, last_higher, turn_higher, fit, some);
      start = omega (arith, i_is, lowest);
    }

-- a row of a higher digit, and its place among all of them
pub record IsHigherAt (i step count rows : ℕ) : Type 0 where
  pub below : i - i / step - 1 < rows
  pub source : higher_row step (i - i / step - 1) ≡ i

pub higher_at : (i step count rows : ℕ) → 1 < step → i < count → count % step ≡ 0 → count / step * (step - 1) ≤ rows → 0 < i % step →
    IsHigherAt i step count rows
higher_at i step count rows some l whole fit higher =
    let a : ℕ = i / step in
    let n : ℕ = count / step in
    let s : ℕ = i % step - 1 in
    let i_is : a * step + i % step ≡ i = div-add-mod' i step in
    let count_is : n * step + count % step ≡ count = div-add-mod' count step in
    let few : i % step < step = mod_below i step (omega (arith, some)) in
    let below : a < n = div_below i step n (omega (arith, some)) (omega (arith, l, count_is, whole)) in
    let times : a * step ≡ a * (step - 1) + a = times_step a step some in
    let index : i - a - 1 ≡ a * (step - 1) + s = omega (arith, i_is, times, higher) in
    let inside : a * (step - 1) + s < (step - 1) * n = mul-add-lt a (step - 1) s n below (omega (arith, few, higher)) in
    let turn : (step - 1) * n ≡ n * (step - 1) = grind arith in
    record {
      below = omega (arith, index, inside, turn, fit);
      source = ap (higher_row step) index ∙ higher_source step a s (omega (arith, few, higher)) ∙ omega (arith, i_is, higher);
    }

-- ---- rows of the client's hint
-- a row to which the product of a higher digit is added
pub higher_row_added : (out words : List ℕ) (changes public : WordMatrix) (i : ℕ) → length out ≡ public.cols → length words ≡ public.cols →
    ((q : ℕ) → q < public.cols → slice_index words q ≡ sum_below public.rows (λ k. entry changes i k * entry public k q) % 2 ^ 32) →
    IsRowAdded out (plus_scaled out words 1) changes public i
higher_row_added out words changes public i wide long is = record {
  count = length-list_of (length out) _;
  added = λ q l.
      let sum : ℕ = sum_below public.rows (λ k. entry changes i k * entry public k q) in
      let word : slice_index words q ≡ sum % 2 ^ 32 = is q (omega (arith, l, wide)) in
      let new : slice_index (plus_scaled out words 1) q ≡ (slice_index out q + 1 * slice_index words q) % 2 ^ 32 =
      at-list_of (length out) (λ j. (slice_index out j + 1 * slice_index words j) % 2 ^ 32) q l in
      omega (arith, word, new);
}

-- a row to which all public rows are added, each times its change
pub whole_row_added : (out : List ℕ) (changes public : WordMatrix) (i : ℕ) → changes.cols ≡ public.rows →
    IsRowAdded out (plus_rows out (length (row changes i)) (λ k. slice_index (row changes i) k) public 0) changes public i
whole_row_added out changes public i wide =
    let n : ℕ = length (row changes i) in
    let long : n ≡ public.rows = length-row changes i ∙ wide in
    record {
      count = plus_rows-length out n (λ k. slice_index (row changes i) k) public 0;
      added = λ q l.
          let f : ℕ → ℕ = λ k. slice_index (row changes i) k * entry public (0 + k) q in
          let same : sum_below n f ≡ sum_below public.rows (λ k. entry changes i k * entry public k q) =
          ap (λ m. sum_below m f) long
          ∙ sum_same public.rows f (λ k. entry changes i k * entry public k q) (λ k p.
          let zero : 0 + k ≡ k = omega arith in
          ap (λ x. x * entry public (0 + k) q) (row_index changes i k (omega (arith, p, wide))) ∙ ap (λ x. entry changes i k * entry public x q) zero) in
          plus_rows-index out n (λ k. slice_index (row changes i) k) public 0 q l ∙ ap (λ x. (slice_index out q + x) % 2 ^ 32) same;
    }

-- a row to which the products of a word's higher digits are added, each times its weight, and the
-- combined list times the word's factor
pub lowest_row_added : (out weights rest common combined : List ℕ) (products changes public : WordMatrix) (i h m n factor : ℕ) →
    length weights ≡ 1 + m → ((s : ℕ) → s < m → slice_index rest s ≡ slice_index weights (1 + s)) → slice_index weights 0 ≡ 2 ^ 32 - 1 →
    IsMultiple weights changes i n common factor →
    ((k q : ℕ) → n ≤ k → k < public.rows → q < public.cols → entry public k q ≡ 0) → length out ≡ public.cols →
    ((q : ℕ) → q < public.cols → slice_index combined q ≡ sum_below public.rows (λ k. slice_index common k * entry public k q) % 2 ^ 32) →
    ((s q : ℕ) → s < m → q < public.cols →
    entry products (h + s) q ≡ sum_below public.rows (λ k. entry changes (i + (1 + s)) k * entry public k q) % 2 ^ 32) →
    IsRowAdded out (plus_scaled (plus_rows out m (λ s. slice_index rest s) products h) combined factor) changes public i
lowest_row_added out weights rest common combined products changes public i h m n factor long are first multiple cleared wide sums made =
    let rows : List ℕ = plus_rows out m (λ s. slice_index rest s) products h in
    let rows_long : length rows ≡ length out = plus_rows-length out m (λ s. slice_index rest s) products h in
    record {
      count = length-list_of (length rows) _ ∙ rows_long;
      added = λ q l.
          let across : q < public.cols = omega (arith, l, wide) in
          let a : ℕ → ℕ = λ k. entry public k q in
          let e : ℕ → ℕ → ℕ = λ t k. entry changes (i + t) k in
          let g : ℕ → ℕ = λ t. slice_index weights t in
          let f : ℕ → ℕ = λ k. slice_index common k in
          let all : ℕ = sum_below public.rows (λ k. f k * a k) in
          let last : ℕ = sum_below public.rows (λ k. entry changes i k * a k) in
          let higher : ℕ = sum_below m (λ s. g (1 + s) * total public.rows e a (1 + s)) in
          let found : ℕ = sum_below m (λ s. slice_index rest s * entry products (h + s) q) in
          let none : (k : ℕ) → k < public.rows → ((sum_below (1 + m) (λ t. g t * e t k) + factor * f k) % 2 ^ 32 ≡ 0) ⊎ (a k ≡ 0) = λ k p.
          elim (cases_lt k n) [
            | inl low ↦ inl (ap (λ x. (sum_below x (λ t. g t * e t k) + factor * f k) % 2 ^ 32) (sym long) ∙ multiple k low)
            | inr past ↦ inr (cleared k q past p across)
          ] in
          let lowest : total public.rows e a 0 ≡ last =
          sum_same public.rows (λ k. e 0 k * a k) (λ k. entry changes i k * a k) (λ k p.
          let zero : i + 0 ≡ i = omega arith in
          ap (λ x. entry changes x k * a k) zero) in
          let follows : (higher + factor * all) % 2 ^ 32 ≡ last % 2 ^ 32 =
          lowest_follows public.rows m e g a f factor first none ∙ ap (λ x. x % 2 ^ 32) lowest in
          let same : found % 2 ^ 32 ≡ higher % 2 ^ 32 =
          sum_congruent m (λ s. slice_index rest s * entry products (h + s) q) (λ s. g (1 + s) * total public.rows e a (1 + s)) (λ s p.
          ap (λ x. x * entry products (h + s) q % 2 ^ 32) (are s p) ∙ ap (λ x. g (1 + s) * x % 2 ^ 32) (made s q p across)
          ∙ mul-mod_second (g (1 + s)) (total public.rows e a (1 + s)) (2 ^ 32)) in
          let times : factor * slice_index combined q % 2 ^ 32 ≡ factor * all % 2 ^ 32 =
          ap (λ x. factor * x % 2 ^ 32) (sums q across) ∙ mul-mod_second factor all (2 ^ 32) in
          let before : slice_index rows q ≡ (slice_index out q + found) % 2 ^ 32 = plus_rows-index out m (λ s. slice_index rest s) products h q l in
          let after : slice_index (plus_scaled rows combined factor) q ≡ (slice_index rows q + factor * slice_index combined q) % 2 ^ 32 =
          at-list_of (length rows) (λ j. (slice_index rows j + factor * slice_index combined j) % 2 ^ 32) q (omega (arith, l, rows_long)) in
          omega (arith, follows, same, times, before, after);
    }

-- ---- rows of a block
-- one row more
pub word_row_added : (c0 c changes public : WordMatrix) (first count : ℕ) (words : List ℕ) → AddsRows c0 c first count changes public 0 public.rows →
    first + count < c0.rows → IsRowAdded (row c (first + count)) words changes public count →
    AddsRows c0 (written_row c (first + count) words) first (count + 1) changes public 0 public.rows
word_row_added c0 c changes public first count words h fits is =
    let r : ℕ = first + count in
    row_added c0 c changes public first count 0 public.rows words h fits (is.count ∙ length-row c r) (λ q across.
    is.added q (omega (arith, across, length-row c r))
    ∙ ap (λ y. (y + sum_below public.rows (λ k. entry changes count k * entry public k q)) % 2 ^ 32) (row_index c r q across)
    ∙ ap (λ y. (entry c r q + y) % 2 ^ 32)
    (sum_same public.rows (λ k. entry changes count k * entry public k q) (λ k. entry changes count (0 + k) * entry public (0 + k) q)
    (λ k m. ap (λ x. entry changes count x * entry public x q) (omega arith))))

-- rows of zeros add nothing
pub zeros_left_out : (c0 c factors b : WordMatrix) (first count n : ℕ) → c0.cols ≡ b.cols → n ≤ b.rows →
    ((k q : ℕ) → n ≤ k → k < b.rows → q < b.cols → entry b k q ≡ 0) →
    AddsRows c0 c first count factors b 0 b.rows → AddsRows c0 c first count factors b 0 n
zeros_left_out c0 c factors b first count n wide few cleared h = record {
  rows = h.rows;
  cols = h.cols;
  whole = h.whole;
  added = λ i q l p.
      let f : ℕ → ℕ = λ k. entry factors i (0 + k) * entry b (0 + k) q in
      let none : (k : ℕ) → n ≤ k → k < b.rows → f k ≡ 0 = λ k low high.
      let zero : entry b (0 + k) q ≡ 0 = ap (λ x. entry b x q) (omega arith) ∙ cleared k q low high (omega (arith, p, wide)) in
      let nothing : entry factors i (0 + k) * 0 ≡ 0 = omega arith in
      ap (λ x. entry factors i (0 + k) * x) zero ∙ nothing in
      h.added i q l p ∙ ap (λ x. (entry c0 (first + i) q + x) % 2 ^ 32) (sum_prefix n b.rows f few none);
  elsewhere = h.elsewhere;
}
