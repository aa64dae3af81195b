use Rattle.std.proofs.Common.{arith, ap, sym, refl, ◌∙◌, ◌≡◌, ℕ, ◌+◌, ◌*◌, List, ◌++◌, take, mul_comm}
use Rattle.matrix_u32.specs.Matrix.{WordMatrix, product}
use Rattle.lane_kernels.specs.Digit.{split_count}
use Rattle.digit_pack.specs.Layout.{Shape, digit_cols, digits_per_record}
use Rattle.simple_scheme.proofs.Lists.{kept}
use Rattle.double_scheme.specs.Double.{first_answer_of, part_answers_of, double_answer}
use Rattle.simple_scheme.specs.Buffers.{BufferSizes}
use Rattle.double_scheme.proofs.answers.AnswerBuffers.fill.Goals as goal

-- how many words the answer has, from the sizes of what it is made of
sizes : (digits n k first cols server count : ℕ) → first ≡ 1 * digits → cols ≡ n → server ≡ n * digits → count ≡ n * digits + k * (n * digits + digits) →
    count ≡ first * cols + k * (server + first)
sizes digits n k first cols server count e f g h =
    let one : first ≡ digits = omega (arith, e) in
    rw (one, f, g) (h ∙ ap (λ m. m + k * (n * digits + digits)) (mul_comm n digits))

pub put_answer-requires-clause-room : goal.put_answer-requires-clause-room
put_answer-requires-clause-room g c =
    let l : Shape = c.self.inside.layout in
    let n : ℕ = c.self.inside.hint.cols in
    let first : c.put_first_answer.new.out.rows ≡ 1 * split_count l.width =
    ap (λ (m : WordMatrix). m.rows) c.put_first_answer.ensures ∙ ap (λ w. 1 * split_count w) c.width.ensures.value in
    let cols : c.args.a2.now.cols ≡ n = c.requires.second_cols ∙ sym (ap (λ (s : BufferSizes). s.dimension) c.self.view_is) in
    let server : (g.S.DigitStore.digits c.args.server_hint.now).rows ≡ n * split_count l.width =
    c.requires.server_rows ∙ sym (ap (λ (s : BufferSizes). s.dimension * split_count s.layout.width) c.self.view_is) in
    sizes (split_count l.width) n (digits_per_record l) _ _ _ _ first cols server (omega (arith, c.deref_mut-2.ensures.len, c.self.inside.words.ok.0, c.self.invariant.words_len))

pub returns-clause-words : goal.returns-clause-words
unfolding double_answer
returns-clause-words g c =
    let l : Shape = c.self.inside.layout in
    let words : List ℕ = c.args.words.now in
    let d : WordMatrix = g.S.DigitStore.digits c.args.digits.now in
    let h : WordMatrix = g.S.DigitStore.digits c.args.server_hint.now in
    let prefix : c.chunk_of-prefix.result.now ≡ take (digit_cols l) words = c.chunk_of-prefix.ensures.value ∙ ap (λ n. take n words) c.cols.ensures.value in
    let first : c.put_first_answer.new.out ≡ first_answer_of l.width d (take (digit_cols l) words) =
    c.put_first_answer.ensures ∙ ap (λ w. first_answer_of w d c.chunk_of-prefix.result.now) c.width.ensures.value
    ∙ ap (λ (ws : List ℕ). first_answer_of l.width d ws) prefix in
    kept c.self.inside.words c.put_answer.new.out c.self.inside.words.len (omega (arith, c.put_answer.auto.out, c.deref_mut-2.ensures.len)) refl
    ∙ c.put_answer.ensures
    ∙ ap (λ (m : WordMatrix). (product m c.args.a2.now).words ++ part_answers_of l h m words) first
    ∙ ap (λ (s : BufferSizes). double_answer s.layout d h c.args.a2.now words) c.self.view_is
