use Rattle.std.proofs.Common.{◌≡◌, ℕ, ◌-◌, ◌*◌, ◌<◌, ◌≤◌, ◌∙◌, arith, ap, sym, List, length}
use Rattle.std.proofs.lemmas.List.{with_items_is}
use Rattle.std.proofs.lemmas.Nat.{mul-le}
use Rattle.std.specs.Prelude.{slice_index}
use Rattle.std.specs.Vec.{with_items}
use Rattle.matrix_u32.specs.Matrix.{WordMatrix, zero_matrix}
use Rattle.lane_kernels.specs.Digit.{split_count}
use Rattle.hint_update.proofs.Lowest.{digits_some, digits_few}
use Rattle.hint_update.proofs.words.WordsBuffers.new.Goals as goal

pub put_weights-requires-clause-some : goal.put_weights-requires-clause-some
put_weights-requires-clause-some c =
    let some : 1 < split_count c.args.w = digits_some c.args.w c.requires.width.0 c.requires.width.1 in
    omega (arith, some, c.split_count-step.ensures, ap length c.deref_mut.ensures.value, c.in_ok-weights.ensures.len)

pub overflow_mul-words : goal.overflow_mul-words
overflow_mul-words c =
    let few : split_count c.args.w ≤ 6 = digits_few c.args.w c.requires.width.0 in
    let most : c.args.words * (c.split_count-step.result - 1) ≤ 64 * 5 =
    mul-le c.args.words (c.split_count-step.result - 1) 64 5 c.requires.words (omega (arith, few, c.split_count-step.ensures)) in
    omega (arith, most)

pub returns : goal.returns
returns c =
    let few : split_count c.args.w ≤ 6 = digits_few c.args.w c.requires.width.0 in
    let some : 1 < split_count c.args.w = digits_some c.args.w c.requires.width.0 c.requires.width.1 in
    let most : c.args.words * (c.split_count-step.result - 1) ≤ 64 * 5 =
    mul-le c.args.words (c.split_count-step.result - 1) 64 5 c.requires.words (omega (arith, few, c.split_count-step.ensures)) in
    let new : List ℕ = c.put_weights.new.weights in
    let long : length new ≡ c.in_ok-weights.weights.len = c.put_weights.ensures.length ∙ c.deref_mut.ensures.len in
    let kept : (with_items c.in_ok-weights.weights new).items ≡ new = with_items_is c.in_ok-weights.weights new long in
    let higher : c.in-Ok.higher ≡ zero_matrix (c.args.words * (c.split_count-step.result - 1)) c.args.most = c.in-Ok.ensures.zeros.0 in
    let products : c.in-Ok-zeros.products ≡ zero_matrix (c.args.words * (c.split_count-step.result - 1)) c.args.cols = c.in-Ok-zeros.ensures.zeros.0 in
    record {
      digits = omega (arith, some, c.split_count-step.ensures, ap length kept, c.put_weights.ensures.length, ap length c.deref_mut.ensures.value, c.in_ok-weights.ensures.len);
      lowest = ap (λ (xs : List ℕ). slice_index xs 0) kept ∙ c.put_weights.ensures.first;
      common = omega (arith, c.in_ok-common.ensures.len, c.in_ok-common.common.ok);
      combined = omega (arith, c.in_ok-combined.ensures.len, c.in_ok-combined.combined.ok);
      few = omega (arith, most, ap (λ (m : WordMatrix). m.rows) higher);
      higher_cols = ap (λ (m : WordMatrix). m.cols) higher;
      products_rows = ap (λ (m : WordMatrix). m.rows) products ∙ sym (ap (λ (m : WordMatrix). m.rows) higher);
      products_cols = ap (λ (m : WordMatrix). m.cols) products;
    }
