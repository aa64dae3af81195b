use Rattle.std.proofs.Common.{arith, ap, ◌≡◌, ◌*◌, ◌%◌, ◌^◌, ◌<◌}
use Rattle.std.proofs.lemmas.Nat.{one_shl}
use Rattle.std.specs.Prelude.{slice_index}
use Rattle.matrix_u32.proofs.Sums.{sum_below_more}
use Rattle.digit_pack.proofs.DigitSums.{top_place, place_few}
use Rattle.digit_pack.proofs.packing.join_word.Goals as goal

pub overflow_cast-word : goal.overflow_cast-word
overflow_cast-word c = omega (arith, place_few c.args.w c.loop-t.t (omega arith) (omega (arith, c.requires.count, c.loop-t-test.true)))

pub loop-t-preserved : goal.loop-t-preserved
loop-t-preserved c =
    let inside : c.args.w * c.loop-t.t < 32 = top_place c.args.w c.loop-t.t (omega arith) (omega (arith, c.requires.count, c.loop-t-test.true)) in
    let size : 1 * 2 ^ (c.args.w * c.loop-t.t) % 2 ^ 32 ≡ 2 ^ (c.args.w * c.loop-t.t) = one_shl (c.args.w * c.loop-t.t) 32 inside in
    omega (
      arith,
      c.loop-t.invariant,
      sum_below_more c.loop-t.t (λ t. slice_index c.args.digits.now t * 2 ^ (c.args.w * t)),
      ap (λ y. slice_index c.args.digits.now c.loop-t.t * y) size,
    )
