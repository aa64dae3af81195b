use Rattle.std.proofs.Common.{◌≡◌, length}
use Rattle.hint_update.specs.Updates.{AddsRows}
use Rattle.hint_update.proofs.words.add_words.Given as goal

abbrev pub invariant-loop-i : goal.invariant-loop-i
invariant-loop-i g l = record {
  added : AddsRows l.fn.client_hint l.client_hint l.first l.i l.changed.changes.now l.changed.public.now 0 l.changed.public.now.rows;
  sums : length l.sums ≡ length l.fn.sums;
}
