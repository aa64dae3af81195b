use Rattle.std.proofs.Common.{ap, refl, ◌∙◌, ◌≡◌, ℕ, ◌<◌, List, length, arith}
use Rattle.matrix_u32.specs.Matrix.{WordMatrix, row, times_vector}
use Rattle.seed_expand.specs.Words.{source_rows}
use Rattle.regev_core.specs.Encryption.{with_noise}
use Rattle.regev_core.proofs.Masking.{noise_on_products}
use Rattle.digit_pack.specs.Layout.{digits_per_record, digit_rows, first_row}
use Rattle.double_scheme.specs.Double.{part_secret, part_noise, part_query_of}
use Rattle.double_scheme.proofs.Answering.{same_parts}
use Rattle.double_scheme.proofs.queries.put_parts_under.Goals as goal

pub returns : goal.returns
returns g c =
    let l = c.args.layout.now in
    let seed : List ℕ = c.args.asked.now.seed.now in
    let number : ℕ = c.args.asked.now.number in
    let n : ℕ = length c.args.room.row.items in
    let a : WordMatrix = source_rows c.args.source (digit_rows l) n in
    let secrets : WordMatrix = c.part_secrets-secrets.result in
    let wide : c.len.result ≡ n = c.len.ensures ∙ c.args.room.row.ok.0 in
    let parts : c.digits_per_record-parts.result ≡ digits_per_record l = c.digits_per_record-parts.ensures.value in
    let products : (d : ℕ) → d < digits_per_record l → row c.put_products.new.out d ≡ times_vector a (part_secret seed number n d) = λ d p.
    c.put_products.ensures.products d (omega (arith, p, c.requires.part_buffers.product_rows))
    ∙ ap (λ rows. times_vector (source_rows c.args.source rows secrets.cols) (row secrets d)) c.requires.part_buffers.product_cols
    ∙ ap (λ k. times_vector (source_rows c.args.source (digit_rows l) k) (row secrets d)) (c.part_secrets-secrets.ensures.cols ∙ wide)
    ∙ ap (times_vector a) (c.part_secrets-secrets.ensures.secrets d (omega (arith, p, parts)) ∙ ap (λ k. part_secret seed number k d) wide) in
    c.put_noisy_parts.ensures a refl products
