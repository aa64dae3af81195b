use Rattle.std.proofs.Common.{◌≡◌}
use Rattle.matrix_u32.specs.Matrix.{product}
use Rattle.digit_pack.specs.Columns.{WritesFirst}
use Rattle.version_store.specs.Editions.{MarksChanges}
use Rattle.version_store.proofs.columns.replace_in_column.Given as goal

abbrev pub invariant-loop-d : goal.invariant-loop-d
invariant-loop-d g l = record {
  written : WritesFirst (g.S.DigitStore.digits l.fn.digits) (g.S.DigitStore.digits l.digits) l.first l.col l.d l.written;
  made : l.hint ≡ product (g.S.DigitStore.digits l.digits) l.a1;
  marks : MarksChanges (g.S.DigitStore.digits l.fn.digits) (g.S.DigitStore.digits l.digits) l.fn.marks l.marks;
}
