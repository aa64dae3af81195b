use Rattle.std.proofs.Common.{◌≡◌, ◌+◌, ◌-◌, ◌*◌, ◌<◌, ◌≤◌, ◌^◌, ℕ, List, arith, ap, ◌∙◌, length, take, drop}
use Rattle.std.proofs.lemmas.List.{length-take-le, length-drop}
use Rattle.std.proofs.lemmas.List.Elements.{All-take, All-drop}
use Rattle.matrix_u32.specs.Matrix.{times_vector}
use Rattle.lane_kernels.specs.Packed.{packed_cols, unpacked}
use Rattle.digit_pack.proofs.RowBlocks.{rows_end, product_of_rows}
use Rattle.digit_pack.proofs.Triples.{count_packed, words_small}
use Rattle.digit_pack.proofs.packed3.words_of_rows.Goals as goal

-- the rows end where the words do, or before
ends : (rows cols first count each n : ℕ) → first + count ≤ rows → each ≡ packed_cols cols → n ≡ rows * packed_cols cols → first * each + count * each ≤ n
ends rows cols first count each n h e w =
    let same : rows * each ≡ rows * packed_cols cols = ap (λ k. rows * k) e in
    omega (arith, rows_end rows first count each h, same, w)

pub overflow_mul-at : goal.overflow_mul-at
overflow_mul-at c =
    omega (
      arith,
      ends c.args.rows c.args.cols c.args.first c.args.count c.row_words-each.result (length c.args.words.now) c.requires.inside c.row_words-each.ensures
          (count_packed c.args.rows c.args.cols c.args.words.now c.requires.packed),
    )

pub overflow_mul-result : goal.overflow_mul-result
overflow_mul-result c =
    omega (
      arith,
      ends c.args.rows c.args.cols c.args.first c.args.count c.row_words-each.result (length c.args.words.now) c.requires.inside c.row_words-each.ensures
          (count_packed c.args.rows c.args.cols c.args.words.now c.requires.packed),
    )

pub overflow_add-result : goal.overflow_add-result
overflow_add-result c =
    omega (
      arith,
      ends c.args.rows c.args.cols c.args.first c.args.count c.row_words-each.result (length c.args.words.now) c.requires.inside c.row_words-each.ensures
          (count_packed c.args.rows c.args.cols c.args.words.now c.requires.packed),
    )

pub offset_bounds-words-at : goal.offset_bounds-words-at
offset_bounds-words-at c =
    omega (
      arith,
      ends c.args.rows c.args.cols c.args.first c.args.count c.row_words-each.result (length c.args.words.now) c.requires.inside c.row_words-each.ensures
          (count_packed c.args.rows c.args.cols c.args.words.now c.requires.packed),
    )

pub slice_bounds-result-end : goal.slice_bounds-result-end
slice_bounds-result-end c =
    omega (
      arith,
      ends c.args.rows c.args.cols c.args.first c.args.count c.row_words-each.result (length c.args.words.now) c.requires.inside c.row_words-each.ensures
          (count_packed c.args.rows c.args.cols c.args.words.now c.requires.packed),
    )

-- as a range of them is taken
taken : (words : List ℕ) (a n e : ℕ) → e ≡ n → take (a + n - a) (drop a words) ≡ take e (drop a words)
taken words a n e h = ap (λ k. take k (drop a words)) (omega (arith, h))

pub returns-clause-count : goal.returns-clause-count
returns-clause-count c =
    let a : ℕ = c.args.first * c.row_words-each.result in
    let n : ℕ = c.args.count * c.row_words-each.result in
    let bound : a + n ≤ length c.args.words.now =
    ends c.args.rows c.args.cols c.args.first c.args.count c.row_words-each.result (length c.args.words.now) c.requires.inside c.row_words-each.ensures
    (count_packed c.args.rows c.args.cols c.args.words.now c.requires.packed) in
    let is : n ≡ c.args.count * packed_cols c.args.cols = ap (λ k. c.args.count * k) c.row_words-each.ensures in
    length-take-le (a + n - a) (drop a c.args.words.now) (omega (arith, length-drop a c.args.words.now, bound)) ∙ omega (arith, is)

pub returns-clause-small : goal.returns-clause-small
returns-clause-small c =
    let a : ℕ = c.args.first * c.row_words-each.result in
    let n : ℕ = c.args.count * c.row_words-each.result in
    All-take (λ w. w < 2 ^ 30) (a + n - a) (drop a c.args.words.now)
    (All-drop (λ w. w < 2 ^ 30) a c.args.words.now (words_small c.args.rows c.args.cols c.args.words.now c.requires.packed))

pub returns-clause-products : goal.returns-clause-products
returns-clause-products c x =
    let each : ℕ = c.row_words-each.result in
    let words : List ℕ = c.args.words.now in
    ap (λ ws. times_vector (unpacked c.args.count c.args.cols ws) x)
    (taken words (c.args.first * each) (c.args.count * each) (c.args.count * each) (omega arith)
    ∙ ap (λ k. take (c.args.count * k) (drop (c.args.first * k) words)) c.row_words-each.ensures)
    ∙ product_of_rows c.args.rows c.args.cols c.args.first c.args.count words x c.requires.inside
