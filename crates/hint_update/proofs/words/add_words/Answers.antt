use Rattle.std.proofs.Common.{◌≡◌, ◌+◌, ◌∙◌, arith, subst}
use Rattle.matrix_u32.specs.Matrix.{row}
use Rattle.hint_update.specs.Updates.{AddsRows}
use Rattle.hint_update.specs.Words.{IsRowAdded}
use Rattle.hint_update.proofs.Lowest.{word_row_added, zeros_left_out}
use Rattle.hint_update.proofs.words.add_words.Goals as goal

pub loop-i-preserved : goal.loop-i-preserved
loop-i-preserved g c =
    let is : IsRowAdded (row c.loop-i.client_hint (c.args.first + c.loop-i.i)) c.add_row.new.out c.args.changed.now.changes.now c.args.changed.now.public.now c.loop-i.i =
    subst (λ words. IsRowAdded words c.add_row.new.out c.args.changed.now.changes.now c.args.changed.now.public.now c.loop-i.i) c.row_mut-out.ensures.value c.add_row.ensures.added in
    record {
      added = word_row_added c.args.client_hint.now c.loop-i.client_hint c.args.changed.now.changes.now c.args.changed.now.public.now c.args.first c.loop-i.i c.add_row.new.out
          c.loop-i.invariant.added (omega (arith, c.loop-i-test.true, c.loop-i.auto.i-end, c.requires.block)) is;
      sums = c.add_row.ensures.sums ∙ c.loop-i.invariant.sums;
    }

pub returns-clause-added : goal.returns-clause-added
returns-clause-added g c =
    let all : c.loop-i.i ≡ c.args.changed.now.count = omega (arith, c.loop-i-test.false, c.loop-i.auto.i-end) in
    zeros_left_out c.args.client_hint.now c.loop-i.client_hint c.args.changed.now.changes.now c.args.changed.now.public.now c.args.first c.args.changed.now.count c.args.changed.now.n
    c.requires.client_cols c.requires.few c.requires.cleared
    (subst (λ n. AddsRows c.args.client_hint.now c.loop-i.client_hint c.args.first n c.args.changed.now.changes.now c.args.changed.now.public.now 0 c.args.changed.now.public.now.rows) all
    c.loop-i.invariant.added)
