use Rattle.std.proofs.Common.{◌≡◌, ℕ, ◌<◌, length}
use Rattle.std.specs.Prelude.{slice_index}
use Rattle.matrix_u32.specs.Matrix.{entry}
use Rattle.simple_scheme.proofs.masks.QueryMasks.put_column.Given as goal

abbrev pub invariant-loop-j : goal.invariant-loop-j
invariant-loop-j l = record {
  count : length l.out ≡ length l.fn.out;
  done : (k : ℕ) → k < l.j → slice_index l.out k ≡ entry l.self k l.c;
}
