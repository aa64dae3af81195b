use Rattle.std.proofs.Common.{ap, sym, ◌∙◌, ◌≡◌, ℕ, ◌<◌, List, length, arith}
use Rattle.matrix_u32.specs.Matrix.{WordMatrix, row, times_vector}
use Rattle.digit_pack.specs.Layout.{digits_per_record}
use Rattle.double_scheme.specs.Double.{part_secret}
use Rattle.double_scheme.proofs.queries.put_parts.Goals as goal

pub returns : goal.returns
returns g c =
    let l = c.args.layout.now in
    let seed : List ℕ = c.args.asked.now.seed.now in
    let a : WordMatrix = c.args.a2.now in
    let wide : c.len.result ≡ a.cols = c.len.ensures ∙ c.args.room.row.ok.0 ∙ sym c.requires.cols in
    let parts : c.digits_per_record-parts.result ≡ digits_per_record l = c.digits_per_record-parts.ensures.value in
    c.put_noisy_parts.ensures a c.requires.rows (λ d p.
    c.put_matrix_products.ensures.products d (omega (arith, p, c.requires.part_buffers.product_rows))
    ∙ ap (times_vector a) (c.part_secrets-secrets.ensures.secrets d (omega (arith, p, parts)) ∙ ap (λ k. part_secret seed c.args.asked.now.number k d) wide))
