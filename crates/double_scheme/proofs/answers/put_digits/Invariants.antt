use Rattle.matrix_u32.specs.Matrix.{matrix_of}
use Rattle.lane_kernels.specs.Digit.{digit, split_count}
use Rattle.std.proofs.Common.{length}
use Rattle.std.specs.Prelude.{slice_index}
use Rattle.simple_scheme.proofs.Rows.{HasRowsOf}
use Rattle.double_scheme.proofs.answers.put_digits.Given as goal

abbrev pub invariant-loop-t : goal.invariant-loop-t
invariant-loop-t l = HasRowsOf (matrix_of (split_count l.w) (length l.words) (λ t j. digit l.w (slice_index l.words j) t)) l.t l.out
