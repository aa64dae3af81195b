use Rattle.std.proofs.Common.{arith, sym, refl, ◌∙◌, ◌+◌, ◌<◌, ℕ, List, length}
use Rattle.std.specs.Prelude.{slice_index}
use Rattle.matrix_u32.specs.Matrix.{matrix_of}
use Rattle.matrix_u32.proofs.Products.{row-matrix_of}
use Rattle.lane_kernels.specs.Digit.{digit, split_count}
use Rattle.simple_scheme.proofs.Rows.{one_row, all_rows}
use Rattle.double_scheme.proofs.Answering.{digits_across}
use Rattle.double_scheme.proofs.Sizes.{few_in_word}
use Rattle.double_scheme.proofs.answers.put_digits.Goals as goal

pub overflow_cast-t : goal.overflow_cast-t
overflow_cast-t c =
    omega (arith, c.loop-t-test.true, c.split_count-t-end.ensures, few_in_word c.args.w c.requires.width.0)

pub loop-t-init : goal.loop-t-init
loop-t-init c = record {
  rows = c.requires.rows;
  cols = c.requires.cols;
  whole = c.rows.ensures.whole;
  same = λ p q hp hq. absurd (omega arith);
}

pub loop-t-preserved : goal.loop-t-preserved
loop-t-preserved c =
    let w : ℕ = c.args.w in
    let words : List ℕ = c.args.words.now in
    let f : ℕ → ℕ → ℕ = λ t j. digit w (slice_index words j) t in
    let inside : c.loop-t.t < split_count w = omega (arith, c.loop-t-test.true, c.split_count-t-end.ensures) in
    one_row (matrix_of (split_count w) (length words) f) c.loop-t.out c.loop-t.t (c.loop-t.t + 1) c.split_row.new.out refl inside
    (c.split_row.ensures ∙ sym (row-matrix_of (split_count w) (length words) f c.loop-t.t inside)) c.loop-t.invariant

pub returns : goal.returns
returns c =
    let w : ℕ = c.args.w in
    let words : List ℕ = c.args.words.now in
    all_rows (split_count w) (length words) c.loop-t.t (λ t j. digit w (slice_index words j) t) c.loop-t.out
    (omega (arith, c.loop-t-test.false, c.split_count-t-end.ensures)) c.loop-t.invariant
    ∙ digits_across w words
