use Rattle.std.proofs.Common.{ap, sym, ◌∙◌, ◌≡◌, ℕ, ℤ, List, length}
use Rattle.matrix_u32.specs.Matrix.{WordMatrix}
use Rattle.seed_expand.specs.Words.{source_rows}
use Rattle.regev_core.specs.Encryption.{cipher}
use Rattle.digit_pack.specs.Layout.{column_of, digit_cols}
use Rattle.simple_scheme.specs.Simple.{secret, query_noise, simple_query}
use Rattle.simple_scheme.proofs.queries.put_query_under.Goals as goal

pub encrypt_under-requires-clause-size : goal.encrypt_under-requires-clause-size
encrypt_under-requires-clause-size g c = c.draw_for-column.ensures.size.1 ∙ c.requires.mask ∙ sym c.requires.room

pub returns : goal.returns
unfolding simple_query
returns g c =
    let seed : List ℕ = c.args.asked.now.seed.now in
    let number : ℕ = c.args.asked.now.number in
    let n : ℕ = length c.args.mask.now.secret in
    let m : ℕ = digit_cols c.args.layout.now in
    let a : WordMatrix = source_rows c.args.source m n in
    let e : c.draw_for-column.new.mask.noise ≡ query_noise seed number m = c.draw_for-column.ensures.noise ∙ ap (λ k. query_noise seed number k) c.requires.mask in
    c.encrypt_under.ensures.words
    ∙ ap (λ rows. cipher c.width.result (source_rows c.args.source rows (length c.draw_for-column.new.mask.secret)) c.draw_for-column.new.mask.secret c.draw_for-column.new.mask.noise c.draw_for-column.result) c.requires.room
    ∙ ap (λ k. cipher c.width.result (source_rows c.args.source m k) c.draw_for-column.new.mask.secret c.draw_for-column.new.mask.noise c.draw_for-column.result) c.draw_for-column.ensures.size.0
    ∙ ap (λ (s : List ℕ). cipher c.width.result a s c.draw_for-column.new.mask.noise c.draw_for-column.result) c.draw_for-column.ensures.secret
    ∙ ap (λ (e : List ℤ). cipher c.width.result a (secret seed number n) e c.draw_for-column.result) e
    ∙ ap (λ w. cipher w a (secret seed number n) (query_noise seed number m) c.draw_for-column.result) c.width.ensures.value
    ∙ ap (λ p. cipher c.args.layout.now.width a (secret seed number n) (query_noise seed number m) p) c.draw_for-column.ensures.column
