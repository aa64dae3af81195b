use Rattle.std.proofs.Common.{◌≡◌, ℕ, ◌+◌, ◌*◌, ◌/◌, ◌%◌, ◌^◌, ◌<◌, ◌≤◌, arith, ap, ◌∙◌, sym, refl, subst, inl, inr, lit<, List, length, get_or-set_same, get_or-set_other}
use Rattle.std.proofs.Math.Nat.{pow-le-pow_right, div-add-mod, mul_comm, mod-lt}
use Rattle.std.proofs.lemmas.Bool.{cases_eq}
use Rattle.std.proofs.lemmas.List.{length-set}
use Rattle.std.proofs.lemmas.Nat.{div-mul-add, mod-mul-add}
use Rattle.std.specs.Prelude.{slice_index, slice_set}
use Rattle.matrix_u32.specs.Matrix.{WordMatrix, row}
use Rattle.lane_kernels.specs.Digit.{digit, split_count}
use Rattle.digit_pack.proofs.DigitSums.{split_some}
use Rattle.hint_update.specs.Updates.{word_digit_at}
use Rattle.hint_update.proofs.rows.put_digits.Goals as goal

pub nonzero_div-word : goal.nonzero_div-word
nonzero_div-word c = subst (λ n. 0 < n) (sym c.split_count-step.ensures) (split_some c.args.w (omega (arith, c.requires.width.0)))

pub nonzero_rem-place : goal.nonzero_rem-place
nonzero_rem-place c = subst (λ n. 0 < n) (sym c.split_count-step.ensures) (split_some c.args.w (omega (arith, c.requires.width.0)))

pub loop-b-init : goal.loop-b-init
loop-b-init c =
    let first : ℕ = c.args.first in
    let step : ℕ = c.split_count-step.result in
    let some : 0 < step = subst (λ n. 0 < n) (sym c.split_count-step.ensures) (split_some c.args.w (omega (arith, c.requires.width.0))) in
    let parts : step * (first / step) + first % step ≡ first = div-add-mod first step in
    record {
      count = refl;
      digits = λ b l. absurd (omega (arith, l));
      small = λ b l. absurd (omega (arith, l));
      at = ap (λ x. x + first % step) (mul_comm (first / step) step) ∙ parts ∙ omega arith;
      inside = mod-lt first some;
    }

pub loop-b-preserved : goal.loop-b-preserved
loop-b-preserved c =
    let w : ℕ = c.args.w in
    let first : ℕ = c.args.first in
    let b : ℕ = c.loop-b.b in
    let r : ℕ = first + b in
    let hint : WordMatrix = c.args.hint.now in
    let words : List ℕ = row hint c.args.i in
    let digits : List ℕ = c.loop-b.digits in
    let step : ℕ = split_count w in
    let same : c.split_count-step.result ≡ step = c.split_count-step.ensures in
    let below : b < length c.args.digits.now = omega (arith, c.loop-b-test.true, c.loop-b.auto.b-end) in
    let room : b < length digits = omega (arith, below, c.loop-b.invariant.count) in
    let place : ℕ = c.loop-b.place in
    let word : ℕ = c.loop-b.word in
    let inner : place < step = subst (λ n. place < n) same c.loop-b.invariant.inside in
    let at : word * step + place ≡ r = ap (λ n. word * n + place) (sym same) ∙ c.loop-b.invariant.at in
    let word_is : word ≡ r / step = sym (div-mul-add word step place inner) ∙ ap (λ x. x / step) at in
    let place_is : place ≡ r % step = sym (mod-mul-add word step place inner) ∙ ap (λ x. x % step) at in
    let number : ℕ = c.word_digit.result in
    let is : number ≡ word_digit_at w words r =
    c.word_digit.ensures.value
    ∙ ap (λ (ws : List ℕ). digit w (slice_index ws word) place) c.row-words.ensures.value
    ∙ ap (λ n. digit w (slice_index words n) place) word_is
    ∙ ap (digit w (slice_index words (r / step))) place_is in
    let few : 2 ^ w ≤ 2 ^ 10 = pow-le-pow_right (lit< tt) c.requires.width.1 in
    let low : number < 1024 = omega (arith, few, c.word_digit.ensures.small) in
    record {
      count = length-set _ _ _ ∙ c.loop-b.invariant.count;
      digits = λ q l. elim (cases_eq q b) [
        | inl e ↦ ap (slice_index (slice_set digits b number)) e ∙ get_or-set_same digits b number 0 room ∙ is ∙ ap (λ q. word_digit_at w words (first + q)) (sym e)
        | inr apart ↦ get_or-set_other digits b q number 0 apart ∙ c.loop-b.invariant.digits q (omega (arith, l, apart))
      ];
      small = λ q l. elim (cases_eq q b) [
        | inl e ↦ subst (λ x. x < 1024) (sym (ap (slice_index (slice_set digits b number)) e ∙ get_or-set_same digits b number 0 room)) low
        | inr apart ↦ subst (λ x. x < 1024) (sym (get_or-set_other digits b q number 0 apart)) (c.loop-b.invariant.small q (omega (arith, l, apart)))
      ];
      at = c.next_place.ensures.next ∙ ap (λ x. x + 1) c.loop-b.invariant.at ∙ omega arith;
      inside = c.next_place.ensures.inside;
    }
