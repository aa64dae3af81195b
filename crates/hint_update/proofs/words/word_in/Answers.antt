use Rattle.std.proofs.Common.{◌≡◌, ℕ, ◌+◌, ◌*◌, ◌%◌, ◌^◌, ◌<◌, arith, ap, ◌∙◌, sym}
use Rattle.std.proofs.lemmas.Nat.{one_shl}
use Rattle.matrix_u32.specs.Sum.{sum_below}
use Rattle.matrix_u32.specs.Matrix.{entry}
use Rattle.matrix_u32.proofs.Sums.{sum_below_more, sum_below_none}
use Rattle.lane_kernels.specs.Digit.{split_count}
use Rattle.digit_pack.proofs.DigitSums.{top_place, place_few}
use Rattle.hint_update.proofs.Guesses.{number_of_list}
use Rattle.hint_update.proofs.words.word_in.Goals as goal

pub overflow_mul-first : goal.overflow_mul-first
overflow_mul-first g c =
    let is : c.args.word * c.split_count-step.result ≡ c.args.word * split_count c.args.w = ap (λ s. c.args.word * s) c.split_count-step.ensures in
    omega (arith, is, c.requires.rows, c.rows-rows.ensures.value)

pub loop-t-init : goal.loop-t-init
loop-t-init g c = ap (λ n. n % 2 ^ 32) (sym (sum_below_none _))

pub overflow_cast-value : goal.overflow_cast-value
overflow_cast-value g c = omega (arith, place_few c.args.w c.loop-t.t (omega arith) (omega (arith, c.split_count-step.ensures, c.loop-t-test.true)))

pub overflow_mul-value : goal.overflow_mul-value
overflow_mul-value g c = omega (arith, top_place c.args.w c.loop-t.t (omega arith) (omega (arith, c.split_count-step.ensures, c.loop-t-test.true)))

pub overflow_shl-value : goal.overflow_shl-value
overflow_shl-value g c = top_place c.args.w c.loop-t.t (omega arith) (omega (arith, c.split_count-step.ensures, c.loop-t-test.true))

pub loop-t-preserved : goal.loop-t-preserved
loop-t-preserved g c =
    let inside : c.args.w * c.loop-t.t < 32 =
    top_place c.args.w c.loop-t.t (omega arith) (omega (arith, c.split_count-step.ensures, c.loop-t-test.true)) in
    let size : 1 * 2 ^ (c.args.w * c.loop-t.t) % 2 ^ 32 ≡ 2 ^ (c.args.w * c.loop-t.t) = one_shl (c.args.w * c.loop-t.t) 32 inside in
    let f : ℕ → ℕ = λ t. entry (g.S.DigitStore.digits c.args.server_hint.now) (c.args.word * c.split_count-step.result + t) c.args.col * 2 ^ (c.args.w * t) in
    let here : c.get-digit.result * (1 * 2 ^ (c.args.w * c.loop-t.t) % 2 ^ 32) ≡ f c.loop-t.t =
    ap (λ y. c.get-digit.result * y) size ∙ ap (λ d. d * 2 ^ (c.args.w * c.loop-t.t)) c.get-digit.ensures in
    omega (arith, c.loop-t.invariant, sum_below_more c.loop-t.t f, here)

pub returns : goal.returns
returns g c =
    let w : ℕ = c.args.w in
    let a = g.S.DigitStore.digits c.args.server_hint.now in
    let step : c.split_count-step.result ≡ split_count w = c.split_count-step.ensures in
    let last : c.loop-t.t ≡ split_count w = omega (arith, c.loop-t-test.false, c.loop-t.auto.t-end, step) in
    c.loop-t.invariant
    ∙ ap (λ t. sum_below t (λ k. entry a (c.args.word * c.split_count-step.result + k) c.args.col * 2 ^ (w * k)) % 2 ^ 32) last
    ∙ ap (λ s. sum_below (split_count w) (λ k. entry a (c.args.word * s + k) c.args.col * 2 ^ (w * k)) % 2 ^ 32) step
    ∙ ap (λ n. n % 2 ^ 32) (number_of_list w (split_count w) (λ k. entry a (c.args.word * split_count w + k) c.args.col))
