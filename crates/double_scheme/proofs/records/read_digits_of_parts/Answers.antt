use Rattle.std.proofs.Common.{arith, ap, ◌∙◌, ◌≡◌, ℕ, ◌+◌, ◌*◌, ◌≤◌, List, length, take, drop, mul-le-mul_right}
use Rattle.matrix_u32.specs.Matrix.{row}
use Rattle.matrix_u32.proofs.Products.{filled_more, words_are}
use Rattle.regev_core.specs.Encryption.{nearest, stripped}
use Rattle.lane_kernels.specs.Digit.{split_count}
use Rattle.double_scheme.specs.Double.{answer_part_count, answer_part, word_read}
use Rattle.double_scheme.proofs.records.read_digits_of_parts.Goals as goal

pub loop-d-preserved : goal.loop-d-preserved
loop-d-preserved g c =
    let w : ℕ = c.args.reading.now.w in
    let n : ℕ = c.args.first.now.hint.now.cols in
    let d : ℕ = c.loop-d.d in
    let answer : List ℕ = c.args.reading.now.answer.now in
    let first : ℕ = c.cols.result * c.split_count.result in
    let prefix : first ≡ n * split_count w = ap (λ k. k * c.split_count.result) c.cols.ensures ∙ ap (λ k. n * k) c.split_count.ensures in
    let size : first + c.split_count-2.result ≡ answer_part_count w n = omega (arith, prefix, c.split_count-2.ensures) in
    let part : c.chunk_of-part.result.now ≡ answer_part w n answer d =
    c.chunk_of-part.ensures.value
    ∙ ap (λ f. take (first + c.split_count-2.result) (drop (f + d * (first + c.split_count-2.result)) answer)) prefix
    ∙ ap (λ s. take s (drop (n * split_count w + d * s) answer)) size in
    filled_more c.loop-d.out d c.read_part.result
    (λ k. nearest w (stripped (word_read w n c.args.first.now.hint.now (row c.args.reading.now.secrets.now k) (answer_part w n answer k)) (row c.args.rows.now k) c.args.first.now.secret.now))
    (omega (arith, c.loop-d-test.true, c.loop-d.auto.out))
    (c.read_part.ensures
    ∙ ap (λ (s : List ℕ). nearest w (stripped (word_read w n c.args.first.now.hint.now s c.chunk_of-part.result.now) c.row.result.now c.args.first.now.secret.now)) c.row-in-loop-d.ensures.value
    ∙ ap (λ (p : List ℕ). nearest w (stripped (word_read w n c.args.first.now.hint.now (row c.args.reading.now.secrets.now d) p) c.row.result.now c.args.first.now.secret.now)) part
    ∙ ap (λ (r : List ℕ). nearest w (stripped (word_read w n c.args.first.now.hint.now (row c.args.reading.now.secrets.now d) (answer_part w n answer d)) r c.args.first.now.secret.now)) c.row.ensures.value)
    c.loop-d.invariant

pub returns : goal.returns
returns g c =
    words_are c.loop-d.out (length c.args.out.now) (λ d. nearest c.args.reading.now.w (stripped
    (word_read c.args.reading.now.w c.args.first.now.hint.now.cols c.args.first.now.hint.now (row c.args.reading.now.secrets.now d) (answer_part c.args.reading.now.w c.args.first.now.hint.now.cols c.args.reading.now.answer.now d))
    (row c.args.rows.now d) c.args.first.now.secret.now))
    c.loop-d.auto.out (λ k p. c.loop-d.invariant k (omega (arith, c.loop-d-test.false, c.loop-d.auto.out)))
