use Rattle.std.proofs.Common.{ap, ◌∙◌, ◌≡◌, ℕ, ℤ, List}
use Rattle.matrix_u32.specs.Matrix.{WordMatrix}
use Rattle.regev_core.specs.Encryption.{cipher}
use Rattle.digit_pack.specs.Layout.{column_of}
use Rattle.simple_scheme.specs.Simple.{secret, query_noise, simple_query}
use Rattle.simple_scheme.proofs.queries.put_query.Goals as goal

pub encrypt-requires-clause-size : goal.encrypt-requires-clause-size
encrypt-requires-clause-size g c = (c.draw_for-column.ensures.size.0 ∙ c.requires.mask.0, c.draw_for-column.ensures.size.1 ∙ c.requires.mask.1)

pub returns : goal.returns
unfolding simple_query
returns g c =
    let seed : List ℕ = c.args.asked.now.seed.now in
    let number : ℕ = c.args.asked.now.number in
    let a : WordMatrix = c.args.a1.now in
    let s : c.draw_for-column.new.mask.secret ≡ secret seed number a.cols = c.draw_for-column.ensures.secret ∙ ap (λ n. secret seed number n) c.requires.mask.0 in
    let e : c.draw_for-column.new.mask.noise ≡ query_noise seed number a.rows = c.draw_for-column.ensures.noise ∙ ap (λ n. query_noise seed number n) c.requires.mask.1 in
    c.encrypt.ensures
    ∙ ap (λ (s : List ℕ). cipher c.width.result a s c.draw_for-column.new.mask.noise c.draw_for-column.result) s
    ∙ ap (λ (e : List ℤ). cipher c.width.result a (secret seed number a.cols) e c.draw_for-column.result) e
    ∙ ap (λ w. cipher w a (secret seed number a.cols) (query_noise seed number a.rows) c.draw_for-column.result) c.width.ensures.value
    ∙ ap (λ p. cipher c.args.layout.now.width a (secret seed number a.cols) (query_noise seed number a.rows) p) c.draw_for-column.ensures.column
