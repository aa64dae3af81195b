use Rattle.std.proofs.Common.{arith, ap, ◌∙◌, ◌≡◌, ◌*◌, ◌≤◌, refl}
use Rattle.lane_kernels.specs.Digit.{split_count}
use Rattle.double_scheme.proofs.Sizes.{few_split}
use Rattle.pir_schemes.proofs.counts.digits_in_words.Goals as goal

pub overflow_mul-result : goal.overflow_mul-result
overflow_mul-result c =
    let w = c.args.layout.now.width in
    let is : c.args.n * c.split_count.result ≡ c.args.n * split_count w =
    ap (λ k. c.args.n * k) (c.split_count.ensures ∙ ap split_count c.width.ensures.value) in
    let few : c.args.n * split_count w ≤ 6144 = few_split w c.args.n (c.args.n * split_count w) c.width.ensures.layout.width.0 c.requires refl in
    omega (arith, is, few)

pub returns-clause-small : goal.returns-clause-small
returns-clause-small c =
    let w = c.args.layout.now.width in
    let is : c.args.n * c.split_count.result ≡ c.args.n * split_count w =
    ap (λ k. c.args.n * k) (c.split_count.ensures ∙ ap split_count c.width.ensures.value) in
    let few : c.args.n * split_count w ≤ 6144 = few_split w c.args.n (c.args.n * split_count w) c.width.ensures.layout.width.0 c.requires refl in
    omega (arith, is, few)
