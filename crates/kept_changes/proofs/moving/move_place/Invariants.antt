use Rattle.std.proofs.Common.{◌≡◌}
use Rattle.matrix_u32.specs.Sum.{list_of}
use Rattle.seed_expand.specs.Words.{public_rows}
use Rattle.digit_pack.specs.Layout.{digit_cols}
use Rattle.hint_changes.specs.Changes.{moved, rows_in_place}
use Rattle.hint_changes.specs.Entries.{change_in}
use Rattle.kept_changes.proofs.moving.move_place.Given as goal

abbrev pub invariant-loop-k : goal.invariant-loop-k
invariant-loop-k g l = record {
  seed : l.public.seed ≡ l.fn.public.seed;
  dimension : l.public.dimension ≡ l.fn.public.dimension;
  rows : l.hint.rows ≡ l.fn.hint.rows;
  cols : l.hint.cols ≡ l.fn.hint.cols;
  moved : rows_in_place l.layout l.place l.hint ≡ rows_in_place l.layout l.place
      (moved l.layout (public_rows l.fn.public.seed 0 0 (digit_cols l.layout) l.fn.public.dimension)
      (list_of l.k (change_in l.len l.entries)) l.fn.hint);
}
