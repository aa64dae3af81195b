use Rattle.std.proofs.Common.{length, ap, ◌/◌, ◌≡◌, ◌*◌, ◌+◌, ◌∙◌, ℕ, arith, slice_index}
use Rattle.matrix_u32.specs.Blocks.{plus_rows}
use Rattle.matrix_u32.proofs.Rows.{plus_rows-none}
use Rattle.lane_kernels.proofs.RowSums.{plus_rows-four, plus_rows-rest}
use Rattle.lane_kernels.proofs.two_rows.add_rows_to_two.Goals as goal

pub loop-t-init : goal.loop-t-init
loop-t-init c = record {
  x = plus_rows-none c.args.x.now _ c.args.b.now c.args.start (λ q. (c.type_inv.x q).fits);
  y = plus_rows-none c.args.y.now _ c.args.b.now c.args.start (λ q. (c.type_inv.y q).fits);
}

pub loop-t-preserved : goal.loop-t-preserved
loop-t-preserved c =
    let f : ℕ → ℕ = λ k. slice_index c.args.first.now k in
    let g : ℕ → ℕ = λ k. slice_index c.args.second.now k in
    let n = c.loop-t.t * 4 in
    let next : (c.loop-t.t + 1) * 4 ≡ n + 4 = omega arith in
    let x_new = rw (
      c.row-p.ensures.value,
      c.row-q.ensures.value,
      c.row-r.ensures.value,
      c.row-s.ensures.value,
      c.loop-t.invariant.x,
    ) at c.add_four_to_two.ensures.x in
    let y_new = rw (
      c.row-p.ensures.value,
      c.row-q.ensures.value,
      c.row-r.ensures.value,
      c.row-s.ensures.value,
      c.loop-t.invariant.y,
    ) at c.add_four_to_two.ensures.y in
    rw next (record {
      x = x_new ∙ plus_rows-four c.args.x.now n f c.args.b.now c.args.start c.requires.x_width;
      y = y_new ∙ plus_rows-four c.args.y.now n g c.args.b.now c.args.start c.requires.y_width;
    })

pub returns : goal.returns
returns c =
    let n = length c.args.first.now / 4 in
    let all : c.loop-t.t ≡ n = omega arith in
    let same : length c.args.second.now ≡ length c.args.first.now = c.requires.same_factors in
    record {
      x = c.add_rows_singly.ensures
          ∙ plus_rows-rest c.args.x.now c.loop-t.x c.args.first.now (n * 4) c.args.b.now c.args.start (omega arith) (rw all at c.loop-t.invariant.x);
      y = c.add_rows_singly-2.ensures
          ∙ plus_rows-rest c.args.y.now c.loop-t.y c.args.second.now (n * 4) c.args.b.now c.args.start (omega arith) (rw all at c.loop-t.invariant.y)
          ∙ ap (λ k. plus_rows c.args.y.now k (λ k. slice_index c.args.second.now k) c.args.b.now c.args.start) same;
    }
