use Rattle.std.proofs.Common.{arith, ap, ◌∙◌, ◌≡◌, ℕ, ◌<◌, List, length}
use Rattle.matrix_u32.specs.Sum.{list_of}
use Rattle.matrix_u32.specs.Matrix.{WordMatrix, row}
use Rattle.matrix_u32.proofs.Products.{same-list_of}
use Rattle.regev_core.specs.Encryption.{nearest, stripped}
use Rattle.digit_pack.specs.Layout.{digits_per_record}
use Rattle.simple_scheme.specs.Simple.{secret}
use Rattle.double_scheme.specs.Double.{answer_hint, answer_part, part_secret, word_read, double_digit_read, double_reading}
use Rattle.double_scheme.proofs.Reading.{digit_is}
use Rattle.double_scheme.proofs.records.read_parts.Goals as goal

pub read_digits_of_parts-requires-clause-row_cols : goal.read_digits_of_parts-requires-clause-row_cols
read_digits_of_parts-requires-clause-row_cols g c =
    omega (arith, c.read_rows.ensures.cols, c.in_ok-rows.ensures.cols, ap (λ (h : WordMatrix). h.cols) c.in_ok-hint.ensures)

pub returns : goal.returns
unfolding double_reading
returns g c =
    let l = c.args.layout.now in
    let seed : List ℕ = c.args.asked.now.seed.now in
    let number : ℕ = c.args.asked.now.number in
    let answer : List ℕ = c.args.answer.now in
    let hint : WordMatrix = c.args.client_hint.now in
    let w : ℕ = c.width-w.result in
    let h : WordMatrix = c.in_ok-hint.hint in
    let secrets : WordMatrix = c.part_secrets-secrets.result in
    let s1 : List ℕ = c.deref.result.now in
    let first : h ≡ answer_hint w hint.cols answer = c.in_ok-hint.ensures ∙ ap (λ n. answer_hint w n answer) c.cols-n.ensures in
    let same : s1 ≡ secret seed number hint.cols = c.deref.ensures.value ∙ c.in_ok-s.ensures.words ∙ ap (λ n. secret seed number n) c.cols-n.ensures in
    let parts : c.digits_per_record-parts.result ≡ digits_per_record l = c.digits_per_record-parts.ensures.value in
    c.read_digits_of_parts.ensures
    ∙ ap (λ k. list_of k (λ d. nearest w (stripped (word_read w h.cols h (row secrets d) (answer_part w h.cols answer d)) (row c.read_rows.new.out d) s1))) c.requires.room
    ∙ same-list_of (digits_per_record l) _ (double_digit_read l hint seed number answer) (λ d p.
    digit_is l hint seed number answer d w h s1 (row secrets d) (row c.read_rows.new.out d) c.width-w.ensures.value first same
    (c.part_secrets-secrets.ensures.secrets d (omega (arith, p, parts)) ∙ ap (λ n. part_secret seed number n d) c.cols-n.ensures)
    (c.read_rows.ensures.rows d (omega (arith, p, parts, c.part_secrets-secrets.ensures.rows))))
