use Rattle.std.proofs.Common.{◌≡◌, ℕ, List, ◌≤◌, arith, ap, ap₂, sym, ◌∙◌, ◌++◌, length, take}
use Rattle.std.proofs.lemmas.List.{take_all}
use Rattle.matrix_u32.specs.Sum.{dot}
use Rattle.matrix_u32.specs.Matrix.{WordMatrix, row, times_vector}
use Rattle.matrix_u32.proofs.Products.{length-list_of}
use Rattle.double_scheme.proofs.steps.finish_part.Goals as goal

pub returns : goal.returns
returns g c =
    let a : WordMatrix = g.S.DigitStore.digits c.args.server_hint.now in
    let x : List ℕ = c.args.part.now in
    let long : length (times_vector a x) ≡ a.rows = length-list_of a.rows (λ i. dot (row a i) x) in
    let hint : c.split_at_mut-first_words.result.0.now ≡ times_vector a x =
    c.split_at_mut-first_words.ensures.front
    ∙ ap (λ n. take n c.args.words.now) c.rows.ensures.value
    ∙ c.requires.so_far
    ∙ take_all a.rows (times_vector a x) (omega (arith, long)) in
    ap₂ (λ (p q : List ℕ). p ++ q) hint c.mul_vec.ensures
