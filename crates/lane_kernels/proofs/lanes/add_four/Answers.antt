use Rattle.std.proofs.lemmas.Bool.{cases_lt}
use Rattle.std.proofs.Common.{inl, inr, refl, ◌≡◌, ◌<◌, ◌/◌, ◌*◌, ◌+◌, ◌%◌, ◌^◌, ℕ, [], length, slice_index, arith, ◌∙◌}
use Rattle.std.proofs.lemmas.List.FromFn.{length-map-range_with_len, get_or-map-range_with_len}
use Rattle.std.proofs.lemmas.Simd.{get_or-put_chunk_above}
use Rattle.matrix_u32.proofs.Products.{words_are}
use Rattle.lane_kernels.proofs.LaneSums.{chunk_at, put_done, four_lanes}
use Rattle.lane_kernels.proofs.lanes.add_four.Goals as goal

pub loop-i-preserved : goal.loop-i-preserved
loop-i-preserved c =
    let a = c.args in
    let n = length a.p.now / 16 in
    let at = c.loop-i.i * 16 in
    let next : (c.loop-i.i + 1) * 16 ≡ at + 16 = omega arith in
    let below : c.loop-i.i < n = omega arith in
    let out = c.loop-i.out in
    let same_q : length a.q.now / 16 ≡ n = omega arith in
    let same_r : length a.r.now / 16 ≡ n = omega arith in
    let same_s : length a.s.now / 16 ≡ n = omega arith in
    let f : ℕ → ℕ = λ j. (slice_index a.out.now j + a.f * slice_index a.p.now j + a.g * slice_index a.q.now j + a.h * slice_index a.r.now j + a.e * slice_index
    a.s.now j) % 2 ^ 32 in
    let lane : ℕ → ℕ = λ k. ((((slice_index out (at + k) + a.f * slice_index a.p.now (at + k) % 2 ^ 32) % 2 ^ 32 + a.g * slice_index a.q.now (at + k) % 2 ^ 32)
    % 2 ^ 32
    + a.h * slice_index a.r.now (at + k) % 2 ^ 32) % 2 ^ 32 + a.e * slice_index a.s.now (at + k) % 2 ^ 32) % 2 ^ 32 in
    let long = length-map-range_with_len lane 0 16 in
    rw (
      c.as_chunks.ensures.front,
      c.as_chunks-2.ensures.front,
      c.as_chunks-3.ensures.front,
      c.as_chunks-4.ensures.front,
      same_q,
      same_r,
      same_s,
      chunk_at 16 n c.loop-i.i a.p.now [] below,
      chunk_at 16 n c.loop-i.i a.q.now [] below,
      chunk_at 16 n c.loop-i.i a.r.now [] below,
      chunk_at 16 n c.loop-i.i a.s.now [] below,
      next,
      four_lanes 16 at a.f a.g a.h a.e out a.p.now a.q.now a.r.now a.s.now (omega arith) (omega arith) (omega arith) (omega arith) (omega arith),
    )
    (record {
      done = put_done f at 16 out _ long (omega arith) c.loop-i.invariant.done
          (λ j h. let was = c.loop-i.invariant.rest (at + j) (omega arith) in get_or-map-range_with_len lane 0 16 j j 0 h (omega arith) ∙ omega (arith, was));
      rest = λ q h. get_or-put_chunk_above at out _ q 0 (omega (arith, long)) ∙ c.loop-i.invariant.rest q (omega arith);
    })

pub returns : goal.returns
returns c =
    let n = length c.args.p.now / 16 * 16 in
    words_are _ _ _ (omega arith) (λ i h. elim (cases_lt i n) [
      | inl lt ↦ c.add_four_rest.ensures.kept i (omega arith) ∙ c.loop-i.invariant.done i (omega arith)
      | inr le ↦ c.add_four_rest.ensures.done i (omega arith) (omega arith) ∙ rw (c.loop-i.invariant.rest i (omega arith)) refl
    ])
