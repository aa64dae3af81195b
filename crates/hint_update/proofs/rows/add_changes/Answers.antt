use Rattle.std.proofs.Common.{length, slice_index}
use Rattle.hint_update.proofs.Blocks.{none_added}
use Rattle.hint_update.proofs.rows.add_changes.Goals as goal

pub returns-else-not-are_zero : goal.returns-else-not-are_zero
returns-else-not-are_zero g c =
    none_added c.args.out.now (length c.args.factors.now) (λ k. slice_index c.args.factors.now k) c.args.rows.now c.args.start
    (λ q. (c.type_inv.out q).fits) (c.are_zero.ensures.0 c.if-not-are_zero.false)
