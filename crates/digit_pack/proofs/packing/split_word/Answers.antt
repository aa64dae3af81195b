use Rattle.std.proofs.Common.{arith, ap, ◌∙◌, ◌≡◌, ◌+◌, ◌*◌, ◌/◌, ◌%◌, ◌^◌}
use Rattle.std.proofs.lemmas.Nat.{one_shl, shr-shr}
use Rattle.matrix_u32.proofs.Products.{words_are, filled_more}
use Rattle.lane_kernels.specs.Digit.{digit, split_count}
use Rattle.digit_pack.proofs.packing.split_word.Goals as goal

pub loop-t-preserved : goal.loop-t-preserved
unfolding digit
loop-t-preserved c =
    let size : 1 * 2 ^ c.args.w % 2 ^ 32 ≡ 2 ^ c.args.w = one_shl c.args.w 32 (omega arith) in
    let e : c.args.w * c.loop-t.t + c.args.w ≡ c.args.w * (c.loop-t.t + 1) = omega arith in
    record {
      done = filled_more c.loop-t.out c.loop-t.t _ (digit c.args.w c.args.x) (omega arith) (ap (λ y. c.loop-t.rest % y) size
          ∙ ap (λ y. y % 2 ^ c.args.w) c.loop-t.invariant.rest) c.loop-t.invariant.done;
      rest = ap (λ y. y / 2 ^ c.args.w) c.loop-t.invariant.rest ∙ shr-shr c.args.x (c.args.w * c.loop-t.t) c.args.w ∙ ap (λ k. c.args.x / 2 ^ k) e;
    }

pub returns : goal.returns
returns c =
    words_are c.loop-t.out (split_count c.args.w) (digit c.args.w c.args.x) (c.loop-t.auto.out ∙ c.requires.room)
    (λ k l. c.loop-t.invariant.done k (omega (arith, c.requires.room, c.loop-t-test.false)))
