use Rattle.std.proofs.Common.{◌≡◌, ℕ, List, ap, refl, ◌∙◌}
use Rattle.matrix_u32.specs.Matrix.{WordMatrix}
use Rattle.seed_expand.specs.Words.{source_rows}
use Rattle.simple_scheme.specs.Masks.{MaskSizes, secrets_of, row_products}
use Rattle.simple_scheme.proofs.MaskColumns.{masks_are}
use Rattle.simple_scheme.proofs.masks.MaskBuffers.fill.Goals as goal

pub returns-clause-masks : goal.returns-clause-masks
returns-clause-masks g c =
    let seed : List ℕ = c.args.seed.now in
    let m : ℕ = c.args.self.rows in
    let n : ℕ = c.args.self.dimension in
    let a : ℕ → ℕ → WordMatrix = λ rows cols. source_rows c.args.source rows cols in
    let s : ℕ → ℕ → WordMatrix = λ rows cols. secrets_of seed c.args.first rows cols in
    let high : c.self.inside.products.rows ≡ m = ap (λ (x : MaskSizes). x.rows) c.self.view_is in
    let wide : c.self.inside.secrets.cols ≡ n = ap (λ (x : MaskSizes). x.dimension) c.self.view_is in
    let many : c.self.inside.secrets.rows ≡ c.args.self.count = ap (λ (x : MaskSizes). x.count) c.self.view_is in
    c.put_products.ensures
    ∙ ap (λ (x : WordMatrix). row_products (a c.self.inside.products.rows x.cols) x) c.draw_secrets.ensures
    ∙ ap (λ (k : ℕ). row_products (a k c.self.inside.secrets.cols) (s c.self.inside.secrets.rows c.self.inside.secrets.cols)) high
    ∙ ap (λ (k : ℕ). row_products (a m k) (s c.self.inside.secrets.rows k)) wide
    ∙ ap (λ (k : ℕ). row_products (a m n) (s k n)) many
    ∙ masks_are (a m n) seed c.args.first c.args.self.count n refl

pub returns-clause-rows : goal.returns-clause-rows
returns-clause-rows g c = ap (λ (x : WordMatrix). x.rows) c.put_products.ensures ∙ ap (λ (x : MaskSizes). x.rows) c.self.view_is

pub returns-clause-count : goal.returns-clause-count
returns-clause-count g c =
    ap (λ (x : WordMatrix). x.cols) c.put_products.ensures
    ∙ ap (λ (x : WordMatrix). x.rows) c.draw_secrets.ensures
    ∙ ap (λ (x : MaskSizes). x.count) c.self.view_is
