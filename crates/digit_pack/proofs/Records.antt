-- Records, their digits and their places.
use Rattle.std.proofs.Common.{◌≡◌, ℕ, ◌+◌, ◌*◌, ◌/◌, ◌%◌, ◌^◌, ◌<◌, ◌≤◌, arith, ap, ◌∙◌, lit<, List, length}
use Rattle.std.proofs.lemmas.Nat.{div-mul-add, mod-mul-add, mul-add-lt, mod_below, div_below, div-add-mod', pow_pos}
use Rattle.std.proofs.lemmas.List.Elements.{All-from_get_or}
use Rattle.std.proofs.Math.Nat.{mul-div_cancel, mod-eq_of_lt, pow-le-pow_right}
use Rattle.std.specs.Prelude.{slice_index, All}
use Rattle.matrix_u32.specs.Matrix.{WordMatrix, entry}
use Rattle.matrix_u32.proofs.Products.{entry-matrix_of, list_of-at, same-list_of, length-list_of, each-list_of}
use Rattle.matrix_u32.proofs.Changes.{some_columns}
use Rattle.lane_kernels.specs.Digit.{digit, split_count}
use Rattle.digit_pack.specs.Digits.{digits_of, number_of, joined, decomposed, decomposed_at, recomposed, recomposed_at}
use Rattle.digit_pack.specs.Layout.{Shape, IsShape, IsRecord, record_digits, digit_matrix, digit_at, digit_rows, digit_cols, digits_per_record, first_row, column_of, record_at}
use Rattle.digit_pack.specs.Laws.{PacksAndUnpacks}
use Rattle.digit_pack.proofs.DigitSums.{number_of-digits_of, number_below, digit_of_sum, digit-lt, join_split, split_some}

-- the digits of the number that a list of digits writes are that list
pub digits_of-number_of : (w : ℕ) (ds : List ℕ) (n : ℕ) → length ds ≡ n → All (λ d. d < 2 ^ w) ds → digits_of w n (number_of w ds) ≡ ds
unfolding number_of
digits_of-number_of w ds n e h =
    let small : (t : ℕ) → t < n → slice_index ds t < 2 ^ w = λ t l. h t 0 (omega arith) in
    rw e
    (same-list_of n _ (λ t. slice_index ds t) (λ t l. digit_of_sum w n (λ t. slice_index ds t) small t l)
    ∙ list_of-at ds n e)

pub number_of-lt : (w : ℕ) (ds : List ℕ) → All (λ d. d < 2 ^ w) ds → number_of w ds < 2 ^ (w * length ds)
unfolding number_of
number_of-lt w ds h = number_below w (length ds) (λ t. slice_index ds t) (λ t l. h t 0 l)

digits_cover : (l : Shape) → 0 < l.width → 8 * l.record_len ≤ l.width * digits_per_record l
digits_cover l h = omega arith

pub unpack-pack : (l : Shape) (bytes : List ℕ) → 0 < l.width → IsRecord l bytes → PacksAndUnpacks l bytes
unpack-pack l bytes h r =
    let n : ℕ = digits_per_record l in
    let len : length bytes ≡ l.record_len = r.len in
    let low : number_of 8 bytes < 2 ^ (8 * l.record_len) = rw len at (number_of-lt 8 bytes r.each) in
    let room : 2 ^ (8 * l.record_len) ≤ 2 ^ (l.width * n) = pow-le-pow_right (lit< tt) (digits_cover l h) in
    let same : number_of l.width (record_digits l bytes) ≡ number_of 8 bytes = number_of-digits_of l.width n (number_of 8 bytes) ∙ mod-eq_of_lt (omega arith) in
    record {
      count = length-list_of n (λ t. digit l.width (number_of 8 bytes) t);
      small = All-from_get_or (λ d. d < 2 ^ l.width) (record_digits l bytes) 0 (λ k _.
          each-list_of (λ d. d < 2 ^ l.width) n (λ t. digit l.width (number_of 8 bytes) t) 0 (pow_pos l.width) (λ t. digit-lt l.width (number_of 8 bytes) t) k);
      accepted = omega (arith, same, low);
      same = ap (λ n. digits_of 8 l.record_len n) same ∙ digits_of-number_of 8 bytes l.record_len len r.each;
    }

-- a record's digits are inside the matrix
pub row_inside : (l : Shape) (i d : ℕ) → 0 < l.groups → d < digits_per_record l → first_row l i + d < digit_rows l
row_inside l i d g q =
    let inside : i % l.groups < l.groups = mod_below i l.groups g in
    omega (arith, mul-add-lt (i % l.groups) (digits_per_record l) d l.groups inside q)

pub column_inside : (l : Shape) (i : ℕ) → 0 < l.groups → i < l.count → column_of l i < digit_cols l
column_inside l i g p =
    let enough : i < digit_cols l * l.groups = omega arith in
    div_below i l.groups (digit_cols l) g enough

pub entry-record : (l : Shape) (records : List (List ℕ)) (i d : ℕ) → IsShape l → i < l.count → d < digits_per_record l →
    entry (digit_matrix l records) (first_row l i + d) (column_of l i) ≡ digit l.width (number_of 8 (record_at records i)) d
entry-record l records i d s p q =
    entry-matrix_of (digit_rows l) (digit_cols l) (digit_at l records) _ _ (row_inside l i d s.groups q) (column_inside l i s.groups p)
    ∙ ap (λ k. digit l.width (number_of 8 (record_at records (i / l.groups * l.groups + k))) ((i % l.groups * digits_per_record l + d) % digits_per_record l))
    (div-mul-add (i % l.groups) (digits_per_record l) d q)
    ∙ ap (λ k. digit l.width (number_of 8 (record_at records k)) ((i % l.groups * digits_per_record l + d) % digits_per_record l)) (div-add-mod' i l.groups)
    ∙ ap (λ k. digit l.width (number_of 8 (record_at records i)) k) (mod-mul-add (i % l.groups) (digits_per_record l) d q)

-- the digits of a word are below one another
pub entry-decomposed : (w : ℕ) (a : WordMatrix) (k t j : ℕ) → t < split_count w → k < a.rows → j < a.cols →
    entry (decomposed w a) (k * split_count w + t) j ≡ digit w (entry a k j) t
entry-decomposed w a k t j p q r =
    let row_in : k * split_count w + t < a.rows * split_count w = omega (arith, mul-add-lt k (split_count w) t a.rows q p) in
    entry-matrix_of (a.rows * split_count w) a.cols (decomposed_at w a) _ j row_in r
    ∙ ap (λ m. digit w (entry a m j) ((k * split_count w + t) % split_count w)) (div-mul-add k (split_count w) t p)
    ∙ ap (λ m. digit w (entry a k j) m) (mod-mul-add k (split_count w) t p)

recomposed_at-decomposed : (w : ℕ) (a : WordMatrix) (k j : ℕ) → 0 < w → k < a.rows → j < a.cols → entry a k j < 2 ^ 32 →
    recomposed_at w (decomposed w a) k j ≡ entry a k j
recomposed_at-decomposed w a k j h q r b =
    ap (joined w) (same-list_of (split_count w) _ (λ t. digit w (entry a k j) t) (λ t p. entry-decomposed w a k t j p q r))
    ∙ join_split w (entry a k j) h b

pub recompose_decompose : (w : ℕ) (a : WordMatrix) → 0 < w → length a.words ≡ a.rows * a.cols → All (λ word. word < 2 ^ 32) a.words →
    recomposed w (decomposed w a) ≡ a
recompose_decompose w a h e small =
    let some : 0 < split_count w = split_some w h in
    let rows : a.rows * split_count w / split_count w ≡ a.rows = mul-div_cancel a.rows some in
    let words : (recomposed w (decomposed w a)).words ≡ a.words =
    rw rows
    (same-list_of (a.rows * a.cols) _ (λ i. slice_index a.words i) (λ i l.
    let wide : 0 < a.cols = some_columns i a.rows a.cols l in
    let col : i % a.cols < a.cols = mod_below i a.cols wide in
    let row : i / a.cols < a.rows = div_below i a.cols a.rows wide l in
    let at : i / a.cols * a.cols + i % a.cols ≡ i = div-add-mod' i a.cols in
    recomposed_at-decomposed w a (i / a.cols) (i % a.cols) h row col (small _ 0 (omega arith)) ∙ ap (slice_index a.words) at)
    ∙ list_of-at a.words (a.rows * a.cols) e) in
    λ i. record { rows = rows i; cols = a.cols; words = words i }
