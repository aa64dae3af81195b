use Rattle.std.proofs.Common.{◌≡◌, ℕ, ◌+◌, ◌-◌, ◌<◌, ◌≤◌, arith, slice_index, slice_range, List, length}
use Rattle.std.proofs.lemmas.List.{get_or-take, get_or-drop}
use Rattle.std.proofs.lemmas.Simd.{length-chunk}
use Rattle.matrix_u32.specs.Matrix.{WordMatrix, entry, row}
use Rattle.matrix_u32.proofs.Rows.{row_index, length-row}
use Rattle.hint_update.proofs.Blocks.{one_added}
use Rattle.hint_update.proofs.rows.add_passing.Goals as goal

pub loop-b-preserved : goal.loop-b-preserved
loop-b-preserved g c =
    let factors : WordMatrix = c.args.factors.now in
    let public : WordMatrix = c.args.public.now in
    let b : ℕ = c.loop-b.b in
    let first : ℕ = c.args.block.first in
    let t : ℕ = c.args.t in
    let n : ℕ = c.args.n in
    let fs : List ℕ = slice_range (row factors b) t (t + n) in
    let cut : t + n - t ≡ n = omega arith in
    let wide : length (row factors b) ≡ factors.cols = length-row factors b in
    let inside : t + n ≤ factors.cols = c.requires.factors_cols in
    let long : length fs ≡ n = rw cut (length-chunk t n (row factors b) (omega arith)) in
    let factor : (k : ℕ) → k < n → slice_index fs k ≡ entry factors b (t + k) = λ k h.
    let short : k < t + n - t = omega arith in
    rw (get_or-take, get_or-drop) (row_index factors b (t + k) (omega arith)) in
    let new = rw (c.row_mut-out.ensures.value, c.row.ensures.value, long) at c.add_changes.ensures in
    one_added c.args.client_hint.now c.loop-b.client_hint factors public first b t n (λ k. slice_index fs k) c.add_changes.new.out c.loop-b.invariant
    (omega (arith, c.loop-b-test.true, c.loop-b.auto.b-end, c.requires.block)) factor new
