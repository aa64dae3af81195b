use Rattle.std.proofs.Common.{arith, ap, ◌≡◌, ◌*◌, ◌/◌, ◌%◌, ◌^◌}
use Rattle.std.proofs.lemmas.Nat.{one_shl}
use Rattle.lane_kernels.specs.Digit.{digit}
use Rattle.digit_pack.proofs.DigitSums.{top_place}
use Rattle.digit_pack.proofs.packing.word_digit.Goals as goal

pub overflow_mul-result : goal.overflow_mul-result
overflow_mul-result c = omega (arith, top_place c.args.w c.args.t (omega arith) c.requires.place)

pub overflow_cast-result-2 : goal.overflow_cast-result-2
overflow_cast-result-2 c = omega (arith, top_place c.args.w c.args.t (omega arith) c.requires.place)

pub overflow_shr-result : goal.overflow_shr-result
overflow_shr-result c = top_place c.args.w c.args.t (omega arith) c.requires.place

pub returns-clause-value : goal.returns-clause-value
unfolding digit
returns-clause-value c =
    let size : 1 * 2 ^ c.args.w % 2 ^ 32 ≡ 2 ^ c.args.w = one_shl c.args.w 32 (omega arith) in
    ap (λ y. c.args.x / 2 ^ (c.args.w * c.args.t) % y) size
