use Rattle.std.proofs.Common.{arith, ap, ◌∙◌, ◌≡◌, ◌+◌, ◌-◌, ℕ, List, sym}
use Rattle.matrix_u32.specs.Matrix.{WordMatrix, with_rows}
use Rattle.seed_expand.specs.Words.{public_rows}
use Rattle.seed_expand.proofs.PublicRows.{rows-in_turn}
use Rattle.version_store.proofs.first_layer.extend_public.Goals as goal

pub returns-in-Ok-clause-public : goal.returns-in-Ok-clause-public
returns-in-Ok-clause-public c =
    let seed : List ℕ = c.args.plan.now.seed in
    let n : ℕ = c.args.plan.now.dimension in
    let first : ℕ = c.rows-first.result in
    let k : ℕ = c.args.rows - first in
    let was : c.args.a1.now ≡ public_rows seed 0 0 first n = c.requires.public ∙ ap (λ m. public_rows seed 0 0 m n) (sym c.rows-first.ensures.value) in
    let from : first ≡ 0 + first = omega arith in
    let words : c.into_words.result.items ≡ (public_rows seed 0 (0 + first) k n).words =
    c.into_words.ensures.value
    ∙ ap (λ (m : WordMatrix). m.words)
    (c.in_ok-further.ensures ∙ ap (λ d. public_rows seed 0 first k d) c.from-dimension.ensures ∙ ap (λ m. public_rows seed 0 m k n) from) in
    let is : c.push_rows.new.self ≡ public_rows seed 0 0 (first + k) n =
    c.in-Ok.ensures.pushed
    ∙ ap (λ (m : WordMatrix). with_rows m c.into_words.result.items) was
    ∙ ap (with_rows (public_rows seed 0 0 first n)) words
    ∙ sym (rows-in_turn seed 0 0 first k n (omega (arith, c.requires.dimension))) in
    is ∙ ap (λ m. public_rows seed 0 0 m n) (sym (ap (λ (m : WordMatrix). m.rows) is))
