use Rattle.std.proofs.Common.{◌≡◌, length}
use Rattle.digit_pack.specs.Layout.{digit_rows}
use Rattle.pir_schemes.specs.Plans.{shape_at}
use Rattle.change_file.specs.Files.{moves_in}
use Rattle.kept_changes.specs.Moves.{IsMovedWhole}
use Rattle.kept_changes.proofs.Steps.{IsUnderWay}
use Rattle.kept_changes.proofs.whole_hint.whole_through.Given as goal

abbrev pub invariant-whole : goal.invariant-whole
invariant-whole g l = record {
  seed : l.public.seed ≡ l.plan.seed;
  dimension : l.public.dimension ≡ l.plan.dimension;
  rows : l.hint.matrix.rows ≡ digit_rows (shape_at l.plan 1);
  cols : l.hint.matrix.cols ≡ l.plan.dimension;
  way : IsUnderWay l.plan (IsMovedWhole l.plan) (moves_in l.fn.link.bytes l.fn.hint.version l.bytes) (moves_in l.link.bytes l.hint.version l.rest) l.fn.hint l.hint;
}

abbrev pub decreases-whole : goal.decreases-whole
decreases-whole g l = length l.rest
