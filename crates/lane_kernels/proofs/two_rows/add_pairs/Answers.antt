use Rattle.std.proofs.Common.{◌≡◌, ◌≤◌, ◌+◌, ◌-◌, ◌*◌, ◌<◌, ℕ, arith, slice_index, slice_range, length}
use Rattle.std.proofs.lemmas.List.{get_or-take, get_or-drop}
use Rattle.std.proofs.lemmas.Simd.{length-chunk}
use Rattle.matrix_u32.specs.Matrix.{entry, row}
use Rattle.matrix_u32.proofs.Rows.{row_index, length-row}
use Rattle.lane_kernels.proofs.BlockSums.{added_none, added_pair, first_of_pair, second_of_pair}
use Rattle.lane_kernels.proofs.two_rows.add_pairs.Goals as goal

pub loop-t-init : goal.loop-t-init
loop-t-init c = added_none _ _ _ _ _ c.requires.whole

pub loop-t-preserved : goal.loop-t-preserved
loop-t-preserved c =
    let a = c.args.a.now in
    let b = c.args.b.now in
    let m = c.loop-t.out in
    let i = c.loop-t.t * 2 in
    let start = c.args.start in
    let count = c.args.count in
    let cut : start + count - start ≡ count = omega arith in
    let inside : start + count ≤ a.cols = omega arith in
    let fs = λ (p : ℕ). slice_range (row a p) start (start + count) in
    let long : length (fs i) ≡ count = rw cut (length-chunk start count (row a i) (omega (arith, length-row a i))) in
    let factor : (p k : ℕ) → k < count → slice_index (fs p) k ≡ entry a p (start + k) = λ p k h.
    let short : k < start + count - start = omega arith in
    rw (get_or-take, get_or-drop) (row_index a p (start + k) (omega arith)) in
    let next : (c.loop-t.t + 1) * 2 ≡ i + 1 + 1 = omega arith in
    let wide : b.cols ≡ m.cols = omega (arith, c.loop-t.invariant.cols) in
    let new = rw (
      c.two_rows_mut.ensures.value,
      c.row.ensures.value,
      c.row-in-loop-t.ensures.value,
      first_of_pair m i b.cols wide,
      second_of_pair m i b.cols wide,
      long,
    ) at c.add_rows_to_pair.ensures in
    rw next (added_pair c.args.out.now a b m start count i (λ k. slice_index (fs i) k) (λ k. slice_index (fs (i + 1)) k) c.add_rows_to_pair.new.both
    (omega arith) (factor i) (factor (i + 1)) new c.loop-t.invariant)
