use Rattle.std.proofs.Common.{◌≡◌, ◌∙◌, arith, length}
use Rattle.std.proofs.lemmas.Simd.{get_or-replicate}
use Rattle.matrix_u32.proofs.Sums.{sum_below_none}
use Rattle.matrix_u32.proofs.Products.{words_are}
use Rattle.lane_kernels.proofs.PackedSums.{row_product, parts_more}
use Rattle.lane_kernels.proofs.packed_two.packed_mul_two.Goals as goal

pub loop-start-init : goal.loop-start-init
loop-start-init c = record {
  within = omega arith;
  x = λ q h. rw sum_below_none (rw (c.fill.ensures.after (λ y h. h)) (get_or-replicate (length c.args.x_out.now) q 0 0 (omega arith)));
  y = λ q h. rw sum_below_none (rw (c.fill-2.ensures.after (λ y h. h)) (get_or-replicate (length c.args.y_out.now) q 0 0 (omega arith)));
}

pub loop-start-preserved : goal.loop-start-preserved
loop-start-preserved c = record {
  within = omega arith;
  x = parts_more _ _ c.loop-start.x_out _ _ c.loop-start.start _ c.add_part_two.ensures.x c.loop-start.invariant.x;
  y = parts_more _ _ c.loop-start.y_out _ _ c.loop-start.start _ c.add_part_two.ensures.y c.loop-start.invariant.y;
}

pub returns-clause-x : goal.returns-clause-x
returns-clause-x c =
    let all : c.loop-start.start ≡ c.row_words-words.result = omega arith in
    words_are _ _ _ (omega arith) (λ q h.
    rw (all, c.row_words-words.ensures) at (c.loop-start.invariant.x q (omega arith))
    ∙ row_product c.args.packed.now c.args.x.now (length c.args.x_out.now) c.args.cols q h c.requires.x_fits c.requires.three_digits)

pub returns-clause-y : goal.returns-clause-y
returns-clause-y c =
    let all : c.loop-start.start ≡ c.row_words-words.result = omega arith in
    words_are _ _ _ (omega arith) (λ q h.
    rw (all, c.row_words-words.ensures) at (c.loop-start.invariant.y q (omega arith))
    ∙ row_product c.args.packed.now c.args.y.now (length c.args.x_out.now) c.args.cols q h c.requires.y_fits c.requires.three_digits)
