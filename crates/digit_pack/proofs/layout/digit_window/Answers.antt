use Rattle.std.proofs.Common.{arith, ap, ℕ, ◌*◌, ◌^◌}
use Rattle.digit_pack.specs.Windows.{window}
use Rattle.digit_pack.proofs.WindowLemmas.{shifted_small}
use Rattle.digit_pack.proofs.layout.digit_window.Goals as goal

pub overflow_add-result-2 : goal.overflow_add-result-2
overflow_add-result-2 c =
    let w : ℕ = c.args.w in
    let middle = shifted_small w c.digit_or_zero-middle.result w c.digit_or_zero-middle.ensures.small (omega arith) in
    let high = shifted_small w c.digit_or_zero-high.result (w * 2) c.digit_or_zero-high.ensures.small (omega arith) in
    let low = shifted_small w c.digit_or_zero-low.result 0 c.digit_or_zero-low.ensures.small (omega arith) in
    record { fits = omega (arith, low, middle, high) }

pub returns : goal.returns
unfolding window
returns c =
    let w : ℕ = c.args.w in
    let middle = shifted_small w c.digit_or_zero-middle.result w c.digit_or_zero-middle.ensures.small (omega arith) in
    let high = shifted_small w c.digit_or_zero-high.result (w * 2) c.digit_or_zero-high.ensures.small (omega arith) in
    omega (
      arith,
      middle,
      high,
      c.digit_or_zero-low.ensures.value,
      ap (λ d. d * 2 ^ w) c.digit_or_zero-middle.ensures.value,
      ap (λ d. d * 2 ^ (w * 2)) c.digit_or_zero-high.ensures.value,
    )
