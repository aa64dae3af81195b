use Rattle.std.proofs.lemmas.Bool.{cases_lt}
use Rattle.std.proofs.Common.{inl, inr, ◌/◌, ◌∙◌, ◌≡◌, ◌*◌, ◌+◌, ℕ, arith, length, refl, add-zero, ap}
use Rattle.matrix_u32.specs.Sum.{dot}
use Rattle.matrix_u32.specs.Matrix.{row}
use Rattle.matrix_u32.proofs.Products.{words_are}
use Rattle.lane_kernels.proofs.LaneSums.{put_done, below_four}
use Rattle.lane_kernels.proofs.lanes.mul_vec.Goals as goal

pub loop-t-preserved : goal.loop-t-preserved
loop-t-preserved c =
    let i = c.loop-t.t * 4 in
    let next : (c.loop-t.t + 1) * 4 ≡ i + 4 = omega arith in
    let a = c.args.a.now in
    let x = c.args.x.now in
    let f : ℕ → ℕ = λ q. dot (row a q) x in
    let four = rw (
      c.row.ensures.value,
      c.row-in-loop-t.ensures.value,
      c.row-in-loop-t-2.ensures.value,
      c.row-in-loop-t-3.ensures.value,
    ) at c.dot_four-four.ensures in
    rw next (put_done f i 4 c.loop-t.out c.dot_four-four.result (ap length four) (omega arith) c.loop-t.invariant
    (rw four (below_four _ (rw add-zero refl) refl refl refl)))

pub returns : goal.returns
returns c =
    let n = length c.args.out.now / 4 * 4 in
    words_are _ _ _ (omega arith) (λ q h. elim (cases_lt q n) [
      | inl lt ↦ c.rest_of_rows.ensures.kept q lt ∙ c.loop-t.invariant q (omega arith)
      | inr le ↦ c.rest_of_rows.ensures.done q le (omega arith)
    ])
