use Rattle.std.proofs.Common.{length, ◌/◌, ◌≡◌, ◌*◌, ◌+◌, ◌∙◌, ℕ, arith, slice_index}
use Rattle.matrix_u32.proofs.Rows.{plus_rows-none}
use Rattle.lane_kernels.proofs.RowSums.{plus_rows-four, plus_rows-rest}
use Rattle.lane_kernels.proofs.lanes.add_rows.Goals as goal

pub loop-t-init : goal.loop-t-init
loop-t-init c = plus_rows-none c.args.out.now _ c.args.b.now c.args.start (λ q. (c.type_inv.out q).fits)

pub loop-t-preserved : goal.loop-t-preserved
loop-t-preserved c =
    let f : ℕ → ℕ = λ k. slice_index c.args.factors.now k in
    let next : (c.loop-t.t + 1) * 4 ≡ c.loop-t.t * 4 + 4 = omega arith in
    let new = rw (
      c.row.ensures.value,
      c.row-in-loop-t.ensures.value,
      c.row-in-loop-t-2.ensures.value,
      c.row-in-loop-t-3.ensures.value,
      c.loop-t.invariant,
    ) at c.add_four.ensures in
    rw next (new ∙ plus_rows-four c.args.out.now (c.loop-t.t * 4) f c.args.b.now c.args.start c.requires.width)

pub returns : goal.returns
returns c =
    let n = length c.args.factors.now / 4 in
    let all : c.loop-t.t ≡ n = omega arith in
    c.add_rows_singly.ensures
    ∙ plus_rows-rest c.args.out.now c.loop-t.out c.args.factors.now (n * 4) c.args.b.now c.args.start (omega arith) (rw all at c.loop-t.invariant)
