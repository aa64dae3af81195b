use Rattle.std.proofs.Common.{◌≡◌, ◌≢◌, ◌/◌, ◌%◌, vec_len}
use Rattle.matrix_u32.specs.Matrix.{column, transpose}
use Rattle.lane_kernels.specs.Digit.{split_count}
use Rattle.digit_pack.specs.Digits.{decomposed}
use Rattle.simple_scheme.proofs.Rows.{HasRowsOf}
use Rattle.double_scheme.proofs.hints.decompose.Given as goal

abbrev pub invariant-loop-r : goal.invariant-loop-r
invariant-loop-r g l = record {
  rows : HasRowsOf (decomposed l.w (transpose l.a)) l.r (g.S.DigitStore.digits l.store);
  room : vec_len l.words ≡ l.a.rows;
  before : l.r % split_count l.w ≢ 0 → l.words.items ≡ column l.a (l.r / split_count l.w);
}
