use Rattle.std.proofs.Common.{◌%◌, slice_index}
use Rattle.lane_kernels.specs.Digit.{digit, split_count}
use Rattle.double_scheme.proofs.Filled.{RowFilled}
use Rattle.double_scheme.proofs.hints.put_digit_row.Given as goal

abbrev pub invariant-loop-j : goal.invariant-loop-j
invariant-loop-j g l = RowFilled (g.S.DigitStore.digits l.fn.store) l.r l.j (λ j. digit l.w (slice_index l.words j) (l.r % split_count l.w)) (g.S.DigitStore.digits l.store)
