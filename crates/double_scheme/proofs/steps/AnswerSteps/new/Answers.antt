use Rattle.std.proofs.Common.{arith, ap, refl, ◌∙◌, ◌≡◌, ◌+◌, ◌*◌, ◌≤◌}
use Rattle.lane_kernels.specs.Digit.{split_count}
use Rattle.double_scheme.proofs.Sizes.{few_in_word, few_split}
use Rattle.double_scheme.proofs.steps.AnswerSteps.new.Goals as goal

pub overflow_mul-count : goal.overflow_mul-count
overflow_mul-count c =
    let w = c.args.layout.now.width in
    let n = c.args.dimension in
    let is : n * c.split_count-digits.result ≡ n * split_count w = ap (λ k. n * k) (c.split_count-digits.ensures ∙ ap split_count c.width.ensures.value) in
    omega (arith, is, few_split w n (n * split_count w) c.width.ensures.layout.width.0 c.requires refl)

pub overflow_add-count : goal.overflow_add-count
overflow_add-count c =
    let w = c.args.layout.now.width in
    let n = c.args.dimension in
    let word : c.split_count-digits.result ≡ split_count w = c.split_count-digits.ensures ∙ ap split_count c.width.ensures.value in
    let is : n * c.split_count-digits.result ≡ n * split_count w = ap (λ k. n * k) word in
    omega (
      arith,
      is,
      word,
      few_split w n (n * split_count w) c.width.ensures.layout.width.0 c.requires refl,
      few_in_word w c.width.ensures.layout.width.0,
    )
