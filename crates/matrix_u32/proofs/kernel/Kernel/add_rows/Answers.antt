use Rattle.std.proofs.Common.{◌∙◌, ℕ}
use Rattle.std.specs.Prelude.{slice_index}
use Rattle.matrix_u32.proofs.Rows.{plus_rows-none, plus_rows-more}
use Rattle.matrix_u32.proofs.kernel.Kernel.add_rows.Goals as goal

pub loop-k-init : goal.loop-k-init
loop-k-init g c = plus_rows-none c.args.out.now _ c.args.b.now c.args.start (λ q. (c.type_inv.out q).fits)

pub loop-k-preserved : goal.loop-k-preserved
loop-k-preserved g c =
    let f : ℕ → ℕ = λ k. slice_index c.args.factors.now k in
    let new = rw (c.row.ensures.value, c.loop-k.invariant) at c.add_scaled.ensures in
    new ∙ plus_rows-more c.args.out.now c.loop-k.k f c.args.b.now c.args.start c.requires.width
