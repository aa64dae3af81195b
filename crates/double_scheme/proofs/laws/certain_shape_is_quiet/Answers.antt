use Rattle.std.proofs.Common.{ℕ, ◌+◌, ◌*◌, ◌<◌, ◌≤◌, ◌^◌, arith, List, ℤ, pos}
use Rattle.std.specs.Prelude.{unsigned_abs}
use Rattle.std.proofs.lemmas.Nat.{pow_pos}
use Rattle.matrix_u32.specs.Matrix.{WordMatrix, entry, row, product, transpose}
use Rattle.matrix_u32.proofs.Products.{length-list_of, each-list_of}
use Rattle.noise_table.specs.Noise.{noise}
use Rattle.noise_table.specs.Laws.{CertainIsQuiet, NoiseIsBounded}
use Rattle.noise_table.specs.Margin.{IsCertain, IsQuiet}
use Rattle.seed_expand.specs.Words.{word}
use Rattle.lane_kernels.specs.Digit.{split_count}
use Rattle.digit_pack.specs.Digits.{decomposed}
use Rattle.digit_pack.specs.Laws.{DigitsAreSmall}
use Rattle.digit_pack.specs.Layout.{digit_matrix}
use Rattle.double_scheme.specs.Double.{part_noise, one_row, first_query_of}
use Rattle.double_scheme.proofs.laws.certain_shape_is_quiet.Goals as goal

-- a row of a decomposed matrix
row_quiet : CertainIsQuiet → NoiseIsBounded → DigitsAreSmall → (w : ℕ) (a : WordMatrix) (seed : List ℕ) (number d r : ℕ) →
    IsCertain w a.cols → IsQuiet w (row (decomposed w a) r) (part_noise seed number a.cols d)
row_quiet quiet bounded small w a seed number d r certain =
    let below : ℕ → Type 0 = λ x. x < 2 ^ w in
    let within : ℤ → Type 0 = λ z. unsigned_abs z ≤ 27 in
    quiet w (row (decomposed w a) r) (part_noise seed number a.cols d)
    (rw (length-list_of a.cols (λ j. entry (decomposed w a) r j)) certain)
    (each-list_of below a.cols _ 0 (pow_pos w) (λ j. each-list_of below (a.rows * split_count w * a.cols) _ 0 (pow_pos w) (λ k. small w _ _) (r * a.cols + j)))
    (each-list_of within a.cols (λ k. noise (word seed (4 * number + 3) (d * a.cols + k))) (pos 0) (omega arith) (λ k. bounded _))

pub returns : goal.returns
returns c = λ l records a1 seed number i s one two. record {
  first = c.certain_shape_is_quiet.ensures l records seed number a1.rows i s one;
  hint = λ d r _ _. row_quiet c.certain_is_quiet.ensures c.noise_is_bounded.ensures c.digits_are_small.ensures l.width
      (product (transpose a1) (transpose (digit_matrix l records))) seed number d r two;
  answer = λ d r _ _. row_quiet c.certain_is_quiet.ensures c.noise_is_bounded.ensures c.digits_are_small.ensures l.width
      (product (one_row (first_query_of l a1 seed number i)) (transpose (digit_matrix l records))) seed number d r two;
}
