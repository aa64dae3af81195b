use Rattle.std.proofs.Common.{◌≡◌, ◌+◌, ◌*◌, ◌<◌, ◌≤◌, ℕ, List, arith, ap, subst, sym, ◌∙◌, ◌++◌, length, take, drop, mul-le-mul_right}
use Rattle.matrix_u32.specs.Matrix.{WordMatrix, times_vector}
use Rattle.digit_pack.specs.Layout.{Shape, digits_per_record}
use Rattle.double_scheme.specs.Double.{part_answer_of, part_answers_of, part_of_query}
use Rattle.double_scheme.specs.Steps.{HasFirst}
use Rattle.double_scheme.proofs.StepLemmas.{length-part, part_there}
use Rattle.double_scheme.proofs.steps.end_part.Goals as goal

pub returns-clause-joined : goal.returns-clause-joined
returns-clause-joined g c prefix long before =
    let l : Shape = c.args.of.now.layout.now in
    let h : WordMatrix = g.S.DigitStore.digits c.args.server_hint.now in
    let first : WordMatrix = c.args.first.now in
    let query : List ℕ = c.args.of.now.query.now in
    let d : ℕ = c.args.of.now.part in
    let whole : List ℕ = prefix ++ part_answers_of l h first query in
    let count : ℕ = length c.args.made.now in
    let made : c.finish_part.new.words ≡ part_answer_of h first (part_of_query l query d) =
    c.finish_part.ensures ∙ ap (part_answer_of h first) c.words_of_query_part.ensures.value in
    let len : length c.finish_part.new.words ≡ count = ap length made ∙ length-part h first (part_of_query l query d) ∙ sym c.requires.room in
    let place : c.rows.result + d * length c.finish_part.new.words ≡ h.rows + d * count =
    ap (λ n. n + d * length c.finish_part.new.words) c.rows.ensures.value ∙ ap (λ n. h.rows + d * n) len in
    let end : c.rows.result + d * length c.finish_part.new.words + length c.finish_part.new.words ≡ h.rows + (d + 1) * count = omega (arith, place, len) in
    let is : c.finish_part.new.words ≡ take (length c.finish_part.new.words) (drop (c.rows.result + d * length c.finish_part.new.words) whole) =
    made
    ∙ part_there l h first query prefix h.rows count d long c.requires.room c.requires.part
    ∙ ap (λ n. take n (drop (h.rows + d * count) whole)) (sym len)
    ∙ ap (λ n. take (length c.finish_part.new.words) (drop n whole)) (sym place) in
    subst (λ n. HasFirst n whole c.join_part.new.words) end
    (c.join_part.ensures.joined whole (subst (λ n. HasFirst n whole c.args.words.now) (sym place) before) is)
