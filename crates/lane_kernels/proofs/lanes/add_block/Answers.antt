use Rattle.std.proofs.Common.{◌≡◌, ◌≤◌, ◌+◌, ◌-◌, ◌<◌, ℕ, arith, slice_index, slice_range, length}
use Rattle.std.proofs.lemmas.List.{get_or-take, get_or-drop}
use Rattle.std.proofs.lemmas.Simd.{length-chunk}
use Rattle.matrix_u32.specs.Matrix.{entry, row}
use Rattle.matrix_u32.proofs.Rows.{row_index, length-row}
use Rattle.lane_kernels.proofs.BlockSums.{added_row, added_all}
use Rattle.lane_kernels.proofs.lanes.add_block.Goals as goal

pub loop-i-init : goal.loop-i-init
loop-i-init c = rw c.rows.ensures.value c.add_pairs.ensures

pub loop-i-preserved : goal.loop-i-preserved
loop-i-preserved c =
    let a = c.args.a.now in
    let b = c.args.b.now in
    let i = c.loop-i.i in
    let start = c.args.start in
    let count = c.args.count in
    let fs = slice_range (row a i) start (start + count) in
    let cut : start + count - start ≡ count = omega arith in
    let wide : length (row a i) ≡ a.cols = length-row a i in
    let inside : start + count ≤ a.cols = omega arith in
    let long : length fs ≡ count = rw cut (length-chunk start count (row a i) (omega arith)) in
    let factor : (k : ℕ) → k < count → slice_index fs k ≡ entry a i (start + k) = λ k h.
    let short : k < start + count - start = omega arith in
    rw (get_or-take, get_or-drop) (row_index a i (start + k) (omega arith)) in
    let new = rw (c.row_mut.ensures.value, c.row.ensures.value, long) at c.add_rows.ensures in
    added_row c.args.out.now a b c.loop-i.out start count i (λ k. slice_index fs k) c.add_rows.new.out (omega arith) factor new c.loop-i.invariant

pub returns : goal.returns
returns c = added_all _ _ _ _ c.args.start c.args.count c.loop-i.i (omega arith) c.loop-i.invariant
