use Rattle.std.proofs.lemmas.Bool.{cases_lt}
use Rattle.std.proofs.Common.{inl, inr, take, ◌/◌, ◌≡◌, ◌+◌, ◌*◌, slice_range, ◌≤◌, ◌<◌, ◌∙◌, ℕ, arith, length, sym, slice_index, ap, ◌%◌, ◌^◌, List}
use Rattle.std.proofs.lemmas.List.{length-take-le}
use Rattle.std.specs.Simd.Lanes.{chunk}
use Rattle.std.proofs.lemmas.Simd.{length-chunk, length-zip2, get_or-zip2, get_or-chunk, get_or-put_chunk_above}
use Rattle.matrix_u32.specs.Sum.{sum_below}
use Rattle.lane_kernels.proofs.LaneSums.{put_done}
use Rattle.matrix_u32.proofs.Products.{at-list_of, words_are}
use Rattle.lane_kernels.specs.Carried.{products_at, shifted_sum}
use Rattle.lane_kernels.proofs.PackedSums.{rows_within, row_part}
use Rattle.lane_kernels.proofs.packed.add_part.Goals as goal

pub eight_sums-eight-requires-clause-rows : goal.eight_sums-eight-requires-clause-rows
eight_sums-eight-requires-clause-rows c = rows_within 8 (c.loop-t.t * 8) (length c.args.out.now) c.args.words _ (omega arith) c.requires.rows_fit

pub loop-t-preserved : goal.loop-t-preserved
loop-t-preserved c =
    let packed = c.args.packed.now in
    let x = c.args.x.now in
    let words = c.args.words in
    let start = c.args.start in
    let count = c.args.count in
    let row = c.loop-t.t * 8 in
    let out = c.loop-t.out in
    let was : List ℕ = c.args.out.now in
    let next : (c.loop-t.t + 1) * 8 ≡ row + 8 = omega arith in
    let room : row + 8 ≤ length out = omega arith in
    let add : ℕ → ℕ → ℕ = λ x y. (x + y) % 2 ^ 32 in
    let eight = c.eight_sums-eight.result in
    let lenc = length-chunk row 8 out room in
    let lenf : length eight ≡ 8 = ap length c.eight_sums-eight.ensures in
    let long = length-zip2 add (chunk row 8 out) eight (lenc ∙ sym lenf) ∙ lenc in
    let a = take count c.part-a_part.result in
    let wide : length a ≡ count = length-take-le count c.part-a_part.result (omega (arith, c.part-a_part.ensures.long)) in
    let sums : ℕ → ℕ = λ j. shifted_sum (slice_range packed ((row + j) * words + start) ((row + j) * words + start + length a)) a
    (take count c.carried-b_part.result) (take count c.carried-c_part.result) in
    let new : (j : ℕ) → j < 8 → slice_index eight j ≡ sum_below count (λ t. products_at packed x ((row + j) * words) (start + t)) % 2 ^ 32 =
    λ j h. ap (λ s. slice_index s j) c.eight_sums-eight.ensures ∙ at-list_of 8 sums j h
    ∙ rw wide (row_part packed x (row + j) (length was) words start count c.part-a_part.result c.carried-b_part.result c.carried-c_part.result (omega arith)
    c.requires.inside c.requires.rows_fit c.part-a_part.ensures.words c.carried-b_part.ensures.words c.carried-c_part.ensures.words) in
    rw next (record {
      done = put_done (λ q. (slice_index was q + sum_below count (λ t. products_at packed x (q * words) (start + t))) % 2 ^ 32) row 8 out _ long room
          c.loop-t.invariant.done
          (λ j h. get_or-zip2 add (chunk row 8 out) eight j 0 0 0 (omega arith) (omega arith)
          ∙ rw (get_or-chunk row 8 out j 0 h)
          (omega (arith, c.loop-t.invariant.rest (row + j) (omega arith), new j h)));
      rest = λ q h. get_or-put_chunk_above row out _ q 0 (omega (arith, long)) ∙ c.loop-t.invariant.rest q (omega arith);
    })

pub returns : goal.returns
returns c =
    let packed = c.args.packed.now in
    let x = c.args.x.now in
    let words = c.args.words in
    let start = c.args.start in
    let count = c.args.count in
    let rows = length c.args.out.now in
    let n = rows / 8 * 8 in
    let wide : length (take count c.part-a_part.result) ≡ count = length-take-le count c.part-a_part.result (omega (arith, c.part-a_part.ensures.long)) in
    words_are _ _ (λ q. (slice_index c.args.out.now q + sum_below count (λ t. products_at packed x (q * words) (start + t))) % 2 ^ 32) (omega arith) (λ q h. elim (cases_lt q n) [
      | inl lt ↦ c.add_part_singly.ensures.kept q lt ∙ c.loop-t.invariant.done q (omega arith)
      | inr le ↦
          let was = c.loop-t.invariant.rest q (omega arith) in
          let below : q < rows = omega arith in
          let new = row_part packed x q rows words start count c.part-a_part.result c.carried-b_part.result c.carried-c_part.result below c.requires.inside
          c.requires.rows_fit c.part-a_part.ensures.words c.carried-b_part.ensures.words c.carried-c_part.ensures.words in
          rw wide at (c.add_part_singly.ensures.done q le (omega arith)) ∙ omega (arith, was, new)
    ])
