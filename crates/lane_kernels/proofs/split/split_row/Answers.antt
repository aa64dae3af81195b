use Rattle.std.proofs.lemmas.Bool.{cases_lt}
use Rattle.std.proofs.Common.{inl, inr, rules, ◌≡◌, ◌<◌, ◌/◌, ◌*◌, ◌+◌, ◌-◌, ◌%◌, ◌^◌, ◌∙◌, ℕ, [], length, slice_index, bit_and, arith}
use Rattle.std.proofs.lemmas.List.FromFn.{length-map-range_with_len, get_or-map-range_with_len}
use Rattle.matrix_u32.proofs.Products.{words_are}
use Rattle.lane_kernels.specs.Digit.{digit}
use Rattle.lane_kernels.proofs.LaneSums.{chunk_at, put_done}
use Rattle.lane_kernels.proofs.SplitDigits.{shift_inside, split_lanes, digit_mask}
use Rattle.lane_kernels.proofs.split.split_row.Goals as goal

pub overflow_mul-shift : goal.overflow_mul-shift
overflow_mul-shift c =
    let e = shift_inside c.args.w c.args.k c.requires.width.0 c.requires.width.1 c.requires.digit in omega (arith, e)

pub overflow_shr-digits : goal.overflow_shr-digits
overflow_shr-digits c =
    let inside = shift_inside c.args.w c.args.k c.requires.width.0 c.requires.width.1 c.requires.digit in search (rules, inside)

pub split_rest-requires-clause-inside : goal.split_rest-requires-clause-inside
split_rest-requires-clause-inside c = shift_inside c.args.w c.args.k c.requires.width.0 c.requires.width.1 c.requires.digit

pub loop-i-preserved : goal.loop-i-preserved
loop-i-preserved c =
    let n = length c.args.x.now / 8 in
    let at = c.loop-i.i * 8 in
    let next : (c.loop-i.i + 1) * 8 ≡ at + 8 = omega arith in
    let below : c.loop-i.i < n = omega arith in
    let x = c.args.x.now in
    let w = c.args.w in
    let shift = w * c.args.k in
    let mask = (1 * 2 ^ w) % 2 ^ 32 - 1 in
    let digit_at : ℕ → ℕ = λ q. slice_index x q / 2 ^ shift % 2 ^ w in
    let lane : ℕ → ℕ = λ j. bit_and (slice_index x (at + j) / 2 ^ shift) mask in
    rw (c.as_chunks.ensures.front, chunk_at 8 n c.loop-i.i x [] below, next, split_lanes 8 at shift mask x (omega arith))
    (put_done digit_at at 8 c.loop-i.out _ (length-map-range_with_len lane 0 8) (omega arith) c.loop-i.invariant
    (λ j h. get_or-map-range_with_len lane 0 8 j j 0 h (omega arith) ∙ digit_mask w (slice_index x (at + j) / 2 ^ shift) (omega arith)))

pub returns : goal.returns
unfolding digit
returns c =
    let n = length c.args.x.now / 8 * 8 in
    words_are _ _ _ (omega arith) (λ q h. elim (cases_lt q n) [
      | inl lt ↦ c.split_rest.ensures.kept q (omega arith) ∙ c.loop-i.invariant q (omega arith)
      | inr le ↦ c.split_rest.ensures.done q (omega arith) (omega arith)
          ∙ digit_mask c.args.w (slice_index c.args.x.now q / 2 ^ (c.args.w * c.args.k)) (omega arith)
    ])
