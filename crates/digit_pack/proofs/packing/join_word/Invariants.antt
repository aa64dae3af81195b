use Rattle.std.proofs.Common.{◌≡◌, ◌*◌, ◌%◌, ◌^◌}
use Rattle.std.specs.Prelude.{slice_index}
use Rattle.matrix_u32.specs.Sum.{sum_below}
use Rattle.digit_pack.proofs.packing.join_word.Given as goal

abbrev pub invariant-loop-t : goal.invariant-loop-t
invariant-loop-t l = l.word ≡ sum_below l.t (λ t. slice_index l.digits t * 2 ^ (l.w * t)) % 2 ^ 32
