use Rattle.std.proofs.Common.{arith, ap, refl, ◌∙◌, ◌≡◌, ◌+◌, ◌*◌, ◌≤◌}
use Rattle.lane_kernels.specs.Digit.{split_count}
use Rattle.digit_pack.specs.Layout.{digits_per_record}
use Rattle.double_scheme.proofs.Sizes.{few_in_word, few_split, few_words}
use Rattle.double_scheme.proofs.answers.answer_count.Goals as goal

pub overflow_mul-first : goal.overflow_mul-first
overflow_mul-first c =
    let w = c.args.layout.now.width in
    let n = c.args.dimension in
    let is : n * c.split_count-digits.result ≡ n * split_count w = ap (λ k. n * k) (c.split_count-digits.ensures ∙ ap split_count c.width.ensures.value) in
    omega (arith, is, few_split w n (n * split_count w) c.width.ensures.layout.width.0 c.requires refl)

pub overflow_add-result : goal.overflow_add-result
overflow_add-result c =
    let w = c.args.layout.now.width in
    let n = c.args.dimension in
    let word : c.split_count-digits.result ≡ split_count w = c.split_count-digits.ensures ∙ ap split_count c.width.ensures.value in
    let is : n * c.split_count-digits.result ≡ n * split_count w = ap (λ k. n * k) word in
    omega (
      arith,
      is,
      word,
      few_split w n (n * split_count w) c.width.ensures.layout.width.0 c.requires refl,
      few_in_word w c.width.ensures.layout.width.0,
    )

pub overflow_mul-result : goal.overflow_mul-result
overflow_mul-result c =
    let l = c.args.layout.now in
    let n = c.args.dimension in
    let few : digits_per_record l * (n * split_count l.width + split_count l.width) ≤ 342 * 6150 =
    few_words l l.width n (n * split_count l.width) c.width.ensures.layout c.width.ensures.layout.width.0 c.requires refl in
    let is : c.digits_per_record.result * (n * c.split_count-digits.result + c.split_count-digits.result)
    ≡ digits_per_record l * (n * split_count l.width + split_count l.width) =
    ap (λ k. k * (n * c.split_count-digits.result + c.split_count-digits.result)) c.digits_per_record.ensures.value
    ∙ ap (λ k. digits_per_record l * (n * k + k)) (c.split_count-digits.ensures ∙ ap split_count c.width.ensures.value) in
    omega (arith, few, is)

pub overflow_add-result-2 : goal.overflow_add-result-2
overflow_add-result-2 c =
    let l = c.args.layout.now in
    let n = c.args.dimension in
    let few : digits_per_record l * (n * split_count l.width + split_count l.width) ≤ 342 * 6150 =
    few_words l l.width n (n * split_count l.width) c.width.ensures.layout c.width.ensures.layout.width.0 c.requires refl in
    let first : n * c.split_count-digits.result ≡ n * split_count l.width =
    ap (λ k. n * k) (c.split_count-digits.ensures ∙ ap split_count c.width.ensures.value) in
    let is : c.digits_per_record.result * (n * c.split_count-digits.result + c.split_count-digits.result)
    ≡ digits_per_record l * (n * split_count l.width + split_count l.width) =
    ap (λ k. k * (n * c.split_count-digits.result + c.split_count-digits.result)) c.digits_per_record.ensures.value
    ∙ ap (λ k. digits_per_record l * (n * k + k)) (c.split_count-digits.ensures ∙ ap split_count c.width.ensures.value) in
    omega (arith, few, first, is, few_split l.width n (n * split_count l.width) c.width.ensures.layout.width.0 c.requires refl)
