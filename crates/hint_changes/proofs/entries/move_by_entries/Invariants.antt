use Rattle.std.proofs.Common.{◌≡◌}
use Rattle.matrix_u32.specs.Sum.{list_of}
use Rattle.seed_expand.specs.Words.{public_rows}
use Rattle.digit_pack.specs.Layout.{digit_cols}
use Rattle.hint_changes.specs.Changes.{moved}
use Rattle.hint_changes.specs.Entries.{change_in}
use Rattle.hint_changes.proofs.entries.move_by_entries.Given as goal

abbrev pub invariant-loop-k : goal.invariant-loop-k
invariant-loop-k g l = record {
  seed : l.public.seed ≡ l.fn.public.seed;
  dimension : l.public.dimension ≡ l.fn.public.dimension;
  hint : l.hint ≡ moved l.layout (public_rows l.fn.public.seed 0 0 (digit_cols l.layout) l.fn.public.dimension)
      (list_of l.k (change_in l.len l.bytes)) l.fn.hint;
}
