use Rattle.std.proofs.lemmas.Bool.{cases_lt}
use Rattle.std.proofs.Common.{inl, inr, take, ◌/◌, ◌≡◌, ◌+◌, ◌*◌, slice_range, ◌≤◌, ◌<◌, ◌∙◌, ℕ, arith, length, sym, slice_index, ap, ◌%◌, ◌^◌, List}
use Rattle.std.proofs.lemmas.List.{length-take-le}
use Rattle.std.specs.Simd.Lanes.{chunk}
use Rattle.std.proofs.lemmas.Simd.{length-chunk, length-zip2, get_or-zip2, get_or-chunk, get_or-put_chunk_above}
use Rattle.matrix_u32.specs.Sum.{sum_below}
use Rattle.matrix_u32.proofs.Products.{at-list_of, words_are}
use Rattle.lane_kernels.specs.Carried.{products_at, shifted_sum}
use Rattle.lane_kernels.proofs.LaneSums.{put_done}
use Rattle.lane_kernels.proofs.PackedSums.{rows_within, row_part}
use Rattle.lane_kernels.proofs.packed_two.add_part_two.Goals as goal

pub four_by_two-requires-clause-rows : goal.four_by_two-requires-clause-rows
four_by_two-requires-clause-rows c =
    rows_within 4 (c.loop-t.t * 4) (length c.args.x_out.now) c.args.words _ (omega arith) c.requires.rows_fit

pub loop-t-preserved : goal.loop-t-preserved
loop-t-preserved c =
    let packed = c.args.packed.now in
    let words = c.args.words in
    let start = c.args.start in
    let count = c.args.count in
    let row = c.loop-t.t * 4 in
    let next : (c.loop-t.t + 1) * 4 ≡ row + 4 = omega arith in
    let add : ℕ → ℕ → ℕ = λ x y. (x + y) % 2 ^ 32 in
    let wide : length (take count c.part-a_part.result) ≡ count = length-take-le count c.part-a_part.result (omega (arith, c.part-a_part.ensures.long)) in
    let x = c.args.x.now in
    let x_out = c.loop-t.x_out in
    let x_was : List ℕ = c.args.x_out.now in
    let x_room : row + 4 ≤ length x_out = omega arith in
    let x_four = c.four_by_two.result.0 in
    let x_lenc = length-chunk row 4 x_out x_room in
    let x_lenf : length x_four ≡ 4 = ap length c.four_by_two.ensures.x in
    let x_long = length-zip2 add (chunk row 4 x_out) x_four (x_lenc ∙ sym x_lenf) ∙ x_lenc in
    let x_sums : ℕ → ℕ = λ j. shifted_sum (slice_range packed ((row + j) * words + start) ((row + j) * words + start + length (take count c.part-a_part.result)))
    (take count c.part-a_part.result) (take count c.carried-b_part.result) (take count c.carried-c_part.result) in
    let x_new : (j : ℕ) → j < 4 → slice_index x_four j ≡ sum_below count (λ t. products_at packed x ((row + j) * words) (start + t)) % 2 ^ 32 =
    λ j h. ap (λ s. slice_index s j) c.four_by_two.ensures.x ∙ at-list_of 4 x_sums j h
    ∙ rw wide (row_part packed x (row + j) (length x_was) words start count c.part-a_part.result c.carried-b_part.result c.carried-c_part.result (omega arith)
    c.requires.inside c.requires.rows_fit c.part-a_part.ensures.words c.carried-b_part.ensures.words c.carried-c_part.ensures.words) in
    let y = c.args.y.now in
    let y_out = c.loop-t.y_out in
    let y_was : List ℕ = c.args.y_out.now in
    let y_room : row + 4 ≤ length y_out = omega arith in
    let y_four = c.four_by_two.result.1 in
    let y_lenc = length-chunk row 4 y_out y_room in
    let y_lenf : length y_four ≡ 4 = ap length c.four_by_two.ensures.y in
    let y_long = length-zip2 add (chunk row 4 y_out) y_four (y_lenc ∙ sym y_lenf) ∙ y_lenc in
    let y_sums : ℕ → ℕ = λ j. shifted_sum (slice_range packed ((row + j) * words + start) ((row + j) * words + start + length (take count c.part-a_part.result)))
    (take count c.part-d_part.result) (take count c.carried-e_part.result) (take count c.carried-f_part.result) in
    let y_new : (j : ℕ) → j < 4 → slice_index y_four j ≡ sum_below count (λ t. products_at packed y ((row + j) * words) (start + t)) % 2 ^ 32 =
    λ j h. ap (λ s. slice_index s j) c.four_by_two.ensures.y ∙ at-list_of 4 y_sums j h
    ∙ rw wide (row_part packed y (row + j) (length x_was) words start count c.part-d_part.result c.carried-e_part.result c.carried-f_part.result (omega arith)
    c.requires.inside c.requires.rows_fit c.part-d_part.ensures.words c.carried-e_part.ensures.words c.carried-f_part.ensures.words) in
    rw next (record {
      x_done = put_done (λ q. (slice_index x_was q + sum_below count (λ t. products_at packed x (q * words) (start + t))) % 2 ^ 32) row 4 x_out _ x_long x_room
          c.loop-t.invariant.x_done
          (λ j h. get_or-zip2 add (chunk row 4 x_out) x_four j 0 0 0 (omega (arith, h, x_lenc)) (omega (arith, h, x_lenf))
          ∙ rw (get_or-chunk row 4 x_out j 0 h)
          (omega (arith, c.loop-t.invariant.x_rest (row + j) (omega arith), x_new j h)));
      x_rest = λ q h. get_or-put_chunk_above row x_out _ q 0 (omega (arith, h, x_long)) ∙ c.loop-t.invariant.x_rest q (omega arith);
      y_done = put_done (λ q. (slice_index y_was q + sum_below count (λ t. products_at packed y (q * words) (start + t))) % 2 ^ 32) row 4 y_out _ y_long y_room
          c.loop-t.invariant.y_done
          (λ j h. get_or-zip2 add (chunk row 4 y_out) y_four j 0 0 0 (omega (arith, h, y_lenc)) (omega (arith, h, y_lenf))
          ∙ rw (get_or-chunk row 4 y_out j 0 h)
          (omega (arith, c.loop-t.invariant.y_rest (row + j) (omega arith), y_new j h)));
      y_rest = λ q h. get_or-put_chunk_above row y_out _ q 0 (omega (arith, h, y_long)) ∙ c.loop-t.invariant.y_rest q (omega arith);
    })

pub returns-clause-x : goal.returns-clause-x
returns-clause-x c =
    let packed = c.args.packed.now in
    let x = c.args.x.now in
    let words = c.args.words in
    let start = c.args.start in
    let count = c.args.count in
    let rows = length c.args.x_out.now in
    let n = rows / 4 * 4 in
    let wide : length (take count c.part-a_part.result) ≡ count = length-take-le count c.part-a_part.result (omega (arith, c.part-a_part.ensures.long)) in
    words_are _ _ (λ q. (slice_index c.args.x_out.now q + sum_below count (λ t. products_at packed x (q * words) (start + t))) % 2 ^ 32) (omega arith) (λ q h. elim (cases_lt q n) [
      | inl lt ↦ c.add_part_singly.ensures.kept q lt ∙ c.loop-t.invariant.x_done q (omega arith)
      | inr le ↦
          let was = c.loop-t.invariant.x_rest q (omega arith) in
          let below : q < rows = omega arith in
          let new = row_part packed x q rows words start count c.part-a_part.result c.carried-b_part.result c.carried-c_part.result below c.requires.inside
          c.requires.rows_fit c.part-a_part.ensures.words c.carried-b_part.ensures.words c.carried-c_part.ensures.words in
          rw wide at (c.add_part_singly.ensures.done q le (omega arith)) ∙ omega (arith, was, new)
    ])

pub returns-clause-y : goal.returns-clause-y
returns-clause-y c =
    let packed = c.args.packed.now in
    let y = c.args.y.now in
    let words = c.args.words in
    let start = c.args.start in
    let count = c.args.count in
    let rows = length c.args.x_out.now in
    let n = rows / 4 * 4 in
    let wide : length (take count c.part-d_part.result) ≡ count = length-take-le count c.part-d_part.result (omega (arith, c.part-d_part.ensures.long)) in
    words_are _ _ (λ q. (slice_index c.args.y_out.now q + sum_below count (λ t. products_at packed y (q * words) (start + t))) % 2 ^ 32) (omega arith) (λ q h. elim (cases_lt q n) [
      | inl lt ↦ c.add_part_singly-2.ensures.kept q lt ∙ c.loop-t.invariant.y_done q (omega arith)
      | inr le ↦
          let was = c.loop-t.invariant.y_rest q (omega arith) in
          let below : q < rows = omega arith in
          let new = row_part packed y q rows words start count c.part-d_part.result c.carried-e_part.result c.carried-f_part.result below c.requires.inside
          c.requires.rows_fit c.part-d_part.ensures.words c.carried-e_part.ensures.words c.carried-f_part.ensures.words in
          rw wide at (c.add_part_singly-2.ensures.done q le (omega arith)) ∙ omega (arith, was, new)
    ])
