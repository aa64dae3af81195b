use Rattle.lane_kernels.specs.Packed.{unpacked}
use Rattle.digit_pack.specs.Packed.{IsPacked}
use Rattle.digit_pack.proofs.ColumnLemmas.{SwapsFirst}
use Rattle.digit_pack.proofs.packed3.swap_packed.Given as goal

abbrev pub invariant-loop-b : goal.invariant-loop-b
invariant-loop-b l = record {
  packed : IsPacked l.rows l.cols l.words;
  swapped : SwapsFirst (unpacked l.rows l.cols l.fn.words) (unpacked l.rows l.cols l.words) l.first l.j l.b l.fn.others l.others;
}
