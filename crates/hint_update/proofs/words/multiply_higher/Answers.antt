use Rattle.std.proofs.Common.{◌≡◌, ℕ, ◌*◌, ◌%◌, ◌^◌, ◌<◌, ◌∙◌, arith, ap, sym, subst, length}
use Rattle.matrix_u32.specs.Sum.{sum_below}
use Rattle.matrix_u32.specs.Matrix.{WordMatrix, entry}
use Rattle.matrix_u32.proofs.Products.{entry-product_sum}
use Rattle.matrix_u32.proofs.Sums.{sum_same}
use Rattle.hint_update.specs.Words.{higher_row}
use Rattle.hint_update.proofs.words.multiply_higher.Goals as goal

pub returns-clause-products : goal.returns-clause-products
returns-clause-products g c = λ h q l inside p.
    let step : ℕ = length c.args.words.now.weights.items in
    let higher : WordMatrix = c.put_higher.new.higher in
    let changes : WordMatrix = c.args.changes.now in
    let public : WordMatrix = c.args.public.now in
    let is : length c.deref-weights.result.now ≡ step = ap length c.deref-weights.ensures.value in
    let wide : higher.cols ≡ public.rows = c.put_higher.ensures.cols ∙ c.requires.room.higher_cols in
    let row_in : h < higher.rows = omega (arith, l, ap (λ (m : WordMatrix). m.rows) c.mul_into.ensures) in
    let copied : (k : ℕ) → k < changes.cols → entry higher h k ≡ entry changes (higher_row step h) k = λ k b.
    c.put_higher.ensures.copied h k row_in (subst (λ n. higher_row n h < changes.rows) (sym is) inside) b ∙ ap (λ n. entry changes (higher_row n h) k) is in
    ap (λ m. entry m h q) c.mul_into.ensures ∙ entry-product_sum higher public h q row_in p wide
    ∙ ap (λ n. sum_below n (λ k. entry higher h k * entry public k q) % 2 ^ 32) wide
    ∙ ap (λ x. x % 2 ^ 32) (sum_same public.rows (λ k. entry higher h k * entry public k q) (λ k. entry changes (higher_row step h) k * entry public k q)
    (λ k b. ap (λ x. x * entry public k q) (copied k (omega (arith, b, c.requires.cols)))))
