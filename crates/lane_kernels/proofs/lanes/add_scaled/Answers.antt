use Rattle.std.proofs.lemmas.Bool.{cases_lt}
use Rattle.std.proofs.Common.{inl, inr, ◌≡◌, ◌<◌, ◌/◌, ◌*◌, ◌+◌, ◌%◌, ◌^◌, [], length, slice_index, arith, refl, ◌∙◌}
use Rattle.std.proofs.lemmas.Simd.{get_or-put_chunk_above}
use Rattle.matrix_u32.proofs.Products.{words_are}
use Rattle.lane_kernels.proofs.LaneSums.{chunk_at, put_done, scaled_lane, scaled_length}
use Rattle.lane_kernels.proofs.lanes.add_scaled.Goals as goal

pub loop-i-preserved : goal.loop-i-preserved
loop-i-preserved c =
    let n = length c.args.x.now / 16 in
    let at = c.loop-i.i * 16 in
    let next : (c.loop-i.i + 1) * 16 ≡ at + 16 = omega arith in
    let below : c.loop-i.i < n = omega arith in
    let out = c.loop-i.out in
    let long = scaled_length 16 at c.args.k out c.args.x.now (omega arith) (omega arith) in
    rw (c.as_chunks.ensures.front, chunk_at 16 n c.loop-i.i c.args.x.now [] below, next)
    (record {
      done = put_done (λ q. (slice_index c.args.out.now q + c.args.k * slice_index c.args.x.now q) % 2 ^ 32) at 16 out _ long
          (omega arith) c.loop-i.invariant.done
          (λ j h. scaled_lane 16 at c.args.k out c.args.x.now j (omega arith) (omega arith) h ∙ rw (c.loop-i.invariant.rest (at + j) (omega arith)) refl);
      rest = λ q h. get_or-put_chunk_above at out _ q 0 (omega (arith, long)) ∙ c.loop-i.invariant.rest q (omega arith);
    })

pub returns : goal.returns
returns c =
    let n = length c.args.x.now / 16 * 16 in
    words_are _ _ _ (omega arith) (λ q h. elim (cases_lt q n) [
      | inl lt ↦ c.add_scaled_rest.ensures.kept q (omega arith) ∙ c.loop-i.invariant.done q (omega arith)
      | inr le ↦ c.add_scaled_rest.ensures.done q (omega arith) (omega arith) ∙ rw (c.loop-i.invariant.rest q (omega arith)) refl
    ])
