-- Answers that are made in steps.
use Rattle.std.proofs.Common.{◌≡◌, ℕ, ◌+◌, ◌-◌, ◌*◌, ◌/◌, ◌%◌, ◌<◌, ◌≤◌, arith, ap, sym, subst, refl, ◌∙◌, List, [], ◌++◌, length, take, drop, mul_comm, mul-le-mul_right, mul-le-mul_left, le_trans, max, min}
use Rattle.std.proofs.lemmas.List.{get_or-take, get_or-drop, length-drop, length-take-le, length-append, take_all, take_at}
use Rattle.std.proofs.Math.Nat.{div-mul-le_self, le-max_left, min-le_right}
use Rattle.std.proofs.Math.Seq.{take-add}
use Rattle.std.proofs.lemmas.Slice.{take-put_mid}
use borrow.Rule.Slice.PartMut.{put_mid}
use Rattle.std.specs.Prelude.{slice_index, flat_map}
use Rattle.std.specs.List.{range_with_len}
use Rattle.matrix_u32.specs.Sum.{dot, list_of}
use Rattle.matrix_u32.specs.Matrix.{WordMatrix, column, product, row, times_vector, transpose}
use Rattle.lane_kernels.specs.Digit.{split_count}
use Rattle.matrix_u32.proofs.Products.{words_are, at-list_of, length-list_of}
use Rattle.digit_pack.specs.Products.{rows_times_vector}
use Rattle.digit_pack.specs.Digits.{decomposed}
use Rattle.digit_pack.specs.Layout.{Shape, digit_cols, digit_rows, digits_per_record}
use Rattle.double_scheme.specs.Double.{one_column, first_answer_of, part_answer_of, part_answers_of, part_of_query, answer_part_count, double_answer}
use Rattle.double_scheme.specs.Steps.{HasFirst, HasColumn, HasParts, HasPartRows, HasStepsBuffers, IsMadeSoFar, IsMadeUntil, IsWholeAt, rows_made}
use Rattle.double_scheme.specs.declared.steps.AnswerStage.{AnswerStage}
use Rattle.double_scheme.specs.declared.steps.AnswerStage.TheVariants.{Column, Parts}
use Rattle.double_scheme.proofs.Lengths.{length-answer_of}
use Rattle.double_scheme.specs.declared.steps.AnswerSteps.{AnswerSteps}
use Rattle.double_scheme.proofs.Answering.{column_is_row}
use Rattle.double_scheme.proofs.Blocks.{block_after}

-- some rows of a product
pub rows_of_product : (a : WordMatrix) (x : List ℕ) (first n : ℕ) → first + n ≤ a.rows → rows_times_vector a x first n ≡ take n (drop first (times_vector a x))
rows_of_product a x first n h =
    let f : ℕ → ℕ = λ i. dot (row a i) x in
    let long : length (times_vector a x) ≡ a.rows = length-list_of a.rows f in
    sym (words_are (take n (drop first (times_vector a x))) n (λ i. f (first + i))
    (length-take-le n (drop first (times_vector a x)) (omega (arith, length-drop first (times_vector a x), long, h)))
    (λ k l. get_or-take n (drop first (times_vector a x)) k 0 l ∙ get_or-drop first (times_vector a x) k 0 ∙ at-list_of a.rows f (first + k) (omega (arith, h, l))))

-- a piece that is written after the first ones
pub first_more : (place n : ℕ) (whole list piece : List ℕ) (m : ℕ) → m ≡ place + n → length piece ≡ n → place ≤ length list → HasFirst place whole list →
    piece ≡ take n (drop place whole) → (k : ℕ) → HasFirst m whole (put_mid place k list piece)
first_more place n whole list piece m at long inside before is k =
    take-put_mid place k list piece m (omega (arith, at, long)) inside
    ∙ ap (λ l. l ++ piece) before
    ∙ ap (λ l. take place whole ++ l) is
    ∙ sym (take-add place n whole)
    ∙ ap (λ j. take j whole) (sym at)

-- rows that are written after the first ones
pub rows_more : (a : WordMatrix) (x : List ℕ) (first n : ℕ) (list piece : List ℕ) → first + n ≤ a.rows → a.rows ≤ length list →
    HasFirst first (times_vector a x) list → piece ≡ rows_times_vector a x first n → (k : ℕ) →
    HasFirst (first + n) (times_vector a x) (put_mid first k list piece)
rows_more a x first n list piece inside room before is k =
    first_more first n (times_vector a x) list piece (first + n) (omega arith) (ap length is ∙ length-list_of n (λ i. dot (row a (first + i)) x)) (omega (arith, inside, room)) before
    (is ∙ rows_of_product a x first n inside) k

pub length-part : (h first : WordMatrix) (part : List ℕ) → length (part_answer_of h first part) ≡ h.rows + first.rows
length-part h first part =
    length-append (times_vector h part) (times_vector first part)
    ∙ omega (arith, length-list_of h.rows (λ i. dot (row h i) part), length-list_of first.rows (λ i. dot (row first i) part))

-- a part among the parts of an answer
pub part_there : (l : Shape) (h first : WordMatrix) (query prefix : List ℕ) (n count d : ℕ) → length prefix ≡ n → count ≡ h.rows + first.rows → d < digits_per_record l →
    part_answer_of h first (part_of_query l query d) ≡ take count (drop (n + d * count) (prefix ++ part_answers_of l h first query))
part_there l h first query prefix n count d long e inside =
    sym (block_after prefix (λ k. part_answer_of h first (part_of_query l query k)) n count (digits_per_record l) d long
    (λ k. length-part h first (part_of_query l query k) ∙ sym e) inside)

-- how long a piece from one place to another is
pub piece_len : (list : List ℕ) (first n : ℕ) → first + n ≤ length list → length (take (first + n - first) (drop first list)) ≡ n
piece_len list first n h =
    length-take-le (first + n - first) (drop first list) (omega (arith, length-drop first list, h)) ∙ omega arith

-- the same memory, with other words in it
pub room_after : (l : Shape) (n : ℕ) (s t : AnswerSteps) → HasStepsBuffers l n s → t.layout ≡ s.layout → length t.column.items ≡ length s.column.items →
    t.first ≡ s.first → t.hint ≡ s.hint → length t.words.items ≡ length s.words.items → length t.x.items ≡ length s.x.items →
    length t.y.items ≡ length s.y.items → HasStepsBuffers l n t
room_after l n s t h layout column first hint words x y = record {
  layout = layout ∙ h.layout;
  is_layout = h.is_layout;
  dimension = h.dimension;
  column_len = column ∙ h.column_len;
  first_rows = ap (λ (m : WordMatrix). m.rows) first ∙ h.first_rows;
  first_cols = ap (λ (m : WordMatrix). m.cols) first ∙ h.first_cols;
  hint_rows = ap (λ (m : WordMatrix). m.rows) hint ∙ h.hint_rows;
  hint_cols = ap (λ (m : WordMatrix). m.cols) hint ∙ h.hint_cols;
  words_len = words ∙ h.words_len;
  x_len = x ∙ h.x_len;
  y_len = y ∙ h.y_len;
}

-- the digits of the whole column are the first layer's answer
pub first_of_column : (w : ℕ) (d : WordMatrix) (query column : List ℕ) → length query ≡ d.cols → length column ≡ d.rows → HasFirst d.rows (times_vector d query) column →
    decomposed w (transpose (one_column column)) ≡ first_answer_of w d query
first_of_column w d query column long all h =
    let whole : length (times_vector d query) ≡ d.rows = length-list_of d.rows (λ i. dot (row d i) query) in
    let is : column ≡ times_vector d query =
    sym (take_all d.rows column (omega (arith, all))) ∙ h ∙ take_all d.rows (times_vector d query) (omega (arith, whole)) in
    ap (λ (ws : List ℕ). decomposed w (transpose (one_column ws))) is
    ∙ ap (λ (n : ℕ). decomposed w (transpose (record { rows = n; cols = 1; words = times_vector d query }))) whole
    ∙ ap (decomposed w) (column_is_row d query long)

length-product : (a b : WordMatrix) → length (product a b).words ≡ a.rows * b.cols
length-product a b = length-list_of (a.rows * b.cols) (λ k. dot (row a (k / b.cols)) (column b (k % b.cols)))

-- before the parts the answer has its hint
pub parts_begun : (l : Shape) (d h a2 first : WordMatrix) (query words : List ℕ) (n : ℕ) → first.rows ≡ split_count l.width →
    first ≡ first_answer_of l.width d (take (digit_cols l) query) → HasFirst (length (product first a2).words) (product first a2).words words →
    n ≡ a2.cols * split_count l.width → HasFirst n (double_answer l d h a2 query) words
unfolding double_answer
parts_begun l d h a2 first query words n rows is before at =
    let rest : List ℕ = part_answers_of l h first query in
    let long : length (product first a2).words ≡ n =
    length-product first a2 ∙ ap (λ k. k * a2.cols) rows ∙ mul_comm (split_count l.width) a2.cols ∙ sym at in
    let hint : take n words ≡ (product first a2).words =
    ap (λ k. take k words) (sym long) ∙ before ∙ take_all (length (product first a2).words) (product first a2).words (omega arith) in
    hint
    ∙ sym (take_at (product first a2).words rest n long)
    ∙ ap (λ (m : WordMatrix). take n ((product m a2).words ++ part_answers_of l h m query)) is

-- of a part no row is there
pub no_part_rows : (l : Shape) (h : WordMatrix) (query : List ℕ) (s : AnswerSteps) (d : ℕ) → d ≤ digits_per_record l → HasPartRows l h query s d 0
no_part_rows l h query s d inside = record {
  within = inside;
  rows_within = omega arith;
  x_rows = refl;
  y_rows = λ _. refl;
}

-- the column is there, and with it the parts begin
pub column_begun : (l : Shape) (d h a2 : WordMatrix) (query column : List ℕ) (t : AnswerSteps) (made : ℕ) → length query ≡ digit_cols l + digits_per_record l * digit_rows l →
    d.cols ≡ digit_cols l → length column ≡ d.rows → HasFirst made (times_vector d (take d.cols query)) column → made ≡ d.rows → HasStepsBuffers l a2.cols t →
    t.first ≡ decomposed l.width (transpose (one_column column)) → HasFirst (length (product t.first a2).words) (product t.first a2).words t.words.items →
    HasParts l d h a2 query t 0 0
column_begun l d h a2 query column t made long cols room so_far all after first hint =
    let prefix : List ℕ = take (digit_cols l) query in
    let wide : length prefix ≡ d.cols = length-take-le (digit_cols l) query (omega (arith, long)) ∙ sym cols in
    let there : HasFirst d.rows (times_vector d prefix) column =
    subst (λ n. HasFirst d.rows (times_vector d (take n query)) column) cols (subst (λ n. HasFirst n (times_vector d (take d.cols query)) column) all so_far) in
    let is : t.first ≡ first_answer_of l.width d prefix = first ∙ first_of_column l.width d prefix column wide room there in
    record {
      rows = no_part_rows l h query t 0 (omega arith);
      first_is = is;
      so_far = parts_begun l d h a2 t.first query t.words.items (a2.cols * split_count l.width + 0 * answer_part_count l.width a2.cols) after.first_rows is hint (omega arith);
    }

-- the parts that are joined are the answer's
pub parts_joined : (l : Shape) (d h a2 first : WordMatrix) (query old new : List ℕ) (p next len : ℕ) → h.rows ≡ a2.cols * split_count l.width →
    first.rows ≡ split_count l.width → first ≡ first_answer_of l.width d (take (digit_cols l) query) → len ≡ answer_part_count l.width a2.cols →
    ((prefix : List ℕ) → length prefix ≡ h.rows → HasFirst (h.rows + p * len) (prefix ++ part_answers_of l h first query) old →
    HasFirst (h.rows + next * len) (prefix ++ part_answers_of l h first query) new) →
    HasFirst (a2.cols * split_count l.width + p * answer_part_count l.width a2.cols) (double_answer l d h a2 query) old →
    HasFirst (a2.cols * split_count l.width + next * answer_part_count l.width a2.cols) (double_answer l d h a2 query) new
unfolding double_answer
parts_joined l d h a2 first query old new p next len rows one is long joined before =
    let place : (k : ℕ) → h.rows + k * len ≡ a2.cols * split_count l.width + k * answer_part_count l.width a2.cols =
    λ k. ap (λ n. n + k * len) rows ∙ ap (λ n. a2.cols * split_count l.width + k * n) long in
    let hint : length (product first a2).words ≡ h.rows =
    length-product first a2 ∙ ap (λ k. k * a2.cols) one ∙ mul_comm (split_count l.width) a2.cols ∙ sym rows in
    subst (λ (m : WordMatrix). HasFirst (a2.cols * split_count l.width + next * answer_part_count l.width a2.cols) ((product m a2).words ++ part_answers_of l h m query) new) is
    (subst (λ n. HasFirst n ((product first a2).words ++ part_answers_of l h first query) new) (place next)
    (joined (product first a2).words hint
    (subst (λ n. HasFirst n ((product first a2).words ++ part_answers_of l h first query) old) (sym (place p))
    (subst (λ (m : WordMatrix). HasFirst (a2.cols * split_count l.width + p * answer_part_count l.width a2.cols) ((product m a2).words ++ part_answers_of l h m query) old) (sym is) before))))

whole_at : (l : Shape) (d h a2 : WordMatrix) (query : List ℕ) (s : AnswerSteps) (stage : AnswerStage) → HasStepsBuffers l a2.cols s → IsMadeUntil l d h a2 query s stage →
    h.rows ≡ a2.cols * split_count l.width → IsWholeAt l stage → s.words.items ≡ double_answer l d h a2 query
whole_at l d h a2 query s (Column n) room made rows whole = absurd whole
whole_at l d h a2 query s (Parts p r) room made rows whole =
    let k : ℕ = digits_per_record l in
    let each : ℕ = answer_part_count l.width a2.cols in
    let n : ℕ = a2.cols * split_count l.width + p * each in
    let all : p ≡ k = omega (arith, whole, made.rows.within) in
    let count : n ≡ a2.cols * split_count l.width + k * each = ap (λ q. a2.cols * split_count l.width + q * each) all in
    sym (take_all n s.words.items (omega (arith, count, room.words_len)))
    ∙ made.so_far
    ∙ take_all n (double_answer l d h a2 query) (omega (arith, count, length-answer_of l d h a2 query rows))

-- the words of an answer of which no step is left
pub whole_words : (l : Shape) (d h a2 : WordMatrix) (query : List ℕ) (s : AnswerSteps) → IsMadeSoFar l d h a2 query s → h.rows ≡ a2.cols * split_count l.width →
    IsWholeAt l s.stage → s.words.items ≡ double_answer l d h a2 query
whole_words l d h a2 query s made rows whole = whole_at l d h a2 query s s.stage made.room made.made rows whole

-- so many rows have no more digits than may be read
pub few_digits : (cols left m digits most result : ℕ) → m ≡ max cols 1 → most ≡ digits / m → result ≡ min left most → result * cols ≤ digits
few_digits cols left m digits most result widest div least =
    let few : result ≤ most = subst (λ n. n ≤ most) (sym least) (min-le_right left most) in
    let wide : cols ≤ m = subst (λ n. cols ≤ n) (sym widest) (le-max_left cols 1) in
    let in_step : most * m ≤ digits = subst (λ n. n * m ≤ digits) (sym div) (div-mul-le_self digits m) in
    let rows : result * cols ≤ most * cols = mul-le-mul_right cols few in
    let all : most * cols ≤ most * m = mul-le-mul_left most wide in
    le_trans rows (le_trans all in_step)

-- each row is a step forward, the end of the column is one, and the end of a part
pub column_further : (l : Shape) (h r q : ℕ) → r < q → rows_made l h (Column r) < rows_made l h (Column q)
column_further l h r q more = more

pub column_ends : (l : Shape) (h r : ℕ) → r ≤ digit_rows l → rows_made l h (Column r) < rows_made l h (Parts 0 0)
column_ends l h r within =
    let more : r < digit_rows l + 1 + 0 * (h + 1) + 0 = omega (arith, within) in
    more

pub row_further : (l : Shape) (h d r q : ℕ) → r < q → rows_made l h (Parts d r) < rows_made l h (Parts d q)
row_further l h d r q further =
    let more : digit_rows l + 1 + d * (h + 1) + r < digit_rows l + 1 + d * (h + 1) + q = omega (arith, further) in
    more

pub part_further : (l : Shape) (h d r e : ℕ) → r ≤ h → d < e → rows_made l h (Parts d r) < rows_made l h (Parts e 0)
part_further l h d r e within further =
    let next : d + 1 ≤ e = omega (arith, further) in
    let each : (d + 1) * (h + 1) ≤ e * (h + 1) = mul-le-mul_right (h + 1) next in
    let more : digit_rows l + 1 + d * (h + 1) + r < digit_rows l + 1 + e * (h + 1) + 0 = omega (arith, within, each) in
    more
