use Rattle.std.proofs.Common.{arith, ap, sym, ◌∙◌, ◌≡◌, ℕ, ◌+◌, ◌-◌, ◌*◌, ◌≤◌, List, [], ◌++◌, length, take, mul-le-mul_right}
use Rattle.std.proofs.Math.Seq.{take-length}
use Rattle.std.specs.Prelude.{flat_map}
use Rattle.std.specs.List.{range_with_len}
use Rattle.std.proofs.lemmas.Slice.{take-put_mid}
use Rattle.matrix_u32.specs.Matrix.{row}
use Rattle.regev_core.specs.Encryption.{cipher, with_noise}
use Rattle.regev_core.proofs.Masking.{noise_on_products}
use Rattle.digit_pack.specs.Layout.{digits_per_record, digit_rows, first_row}
use Rattle.double_scheme.specs.Double.{part_secret, part_noise, part_query_of}
use Rattle.double_scheme.proofs.Answering.{one_part, same_parts}
use Rattle.double_scheme.proofs.queries.put_noisy_parts.Goals as goal

pub loop-d-preserved : goal.loop-d-preserved
loop-d-preserved c =
    let l = c.args.layout.now in
    let seed : List ℕ = c.args.asked.now.seed.now in
    let d : ℕ = c.loop-d.d in
    let rows : ℕ = c.rows-rows.result in
    let f : ℕ → List ℕ = λ d. with_noise l.width (row c.args.products.now d) (part_noise seed c.args.asked.now.number (digit_rows l) d) (first_row l c.args.asked.now.i + d) in
    let part : c.put_noisy_part.new.out ≡ f d =
    c.put_noisy_part.ensures.words
    ∙ ap (λ ws. with_noise l.width ws (part_noise seed c.args.asked.now.number (digit_rows l) d) (first_row l c.args.asked.now.i + d)) c.row.ensures.value in
    let last : (d + 1) * rows ≤ digits_per_record l * rows =
    mul-le-mul_right rows (omega (arith, c.loop-d-test.true, c.digits_per_record-d-end.ensures.value)) in
    let whole : digits_per_record l * rows ≡ length c.args.out.now =
    omega (arith, ap (λ r. digits_per_record l * r) c.rows-rows.ensures.value, c.requires.room) in (
      take-put_mid (d * rows) (d * rows + rows - d * rows) c.loop-d.out c.put_noisy_part.new.out ((d + 1) * rows)
          (omega (arith, c.put_noisy_part.auto.out))
          (omega (arith, last, whole, c.loop-d.auto.out))
          ∙ ap (λ ws. ws ++ c.put_noisy_part.new.out) c.loop-d.invariant.0
          ∙ ap (λ ws. flat_map f (range_with_len 0 d) ++ ws) part
          ∙ one_part f [] d,
      c.put_noisy_part.ensures.noise ∙ c.loop-d.invariant.1,
    )

pub returns : goal.returns
returns c = λ a rows products.
    let l = c.args.layout.now in
    let seed : List ℕ = c.args.asked.now.seed.now in
    let number : ℕ = c.args.asked.now.number in
    let parts : ℕ = digits_per_record l in
    let last : c.loop-d.d ≡ parts = omega (arith, c.loop-d-test.false, c.loop-d.auto.d-end, c.digits_per_record-d-end.ensures.value) in
    let count : parts * c.rows-rows.result ≡ length c.loop-d.out =
    ap (λ k. parts * k) c.rows-rows.ensures.value ∙ sym c.requires.room ∙ sym c.loop-d.auto.out in
    sym (take-length c.loop-d.out)
    ∙ ap (λ k. take k c.loop-d.out) (sym count ∙ ap (λ k. k * c.rows-rows.result) (sym last))
    ∙ c.loop-d.invariant.0
    ∙ ap (λ k. flat_map (λ d. with_noise l.width (row c.args.products.now d) (part_noise seed number (digit_rows l) d) (first_row l c.args.asked.now.i + d)) (range_with_len 0 k)) last
    ∙ same_parts parts _ (part_query_of l a seed number c.args.asked.now.i) (λ d p.
    ap (λ words. with_noise l.width words (part_noise seed number (digit_rows l) d) (first_row l c.args.asked.now.i + d)) (products d p)
    ∙ noise_on_products l.width a (part_secret seed number a.cols d) (part_noise seed number (digit_rows l) d) (first_row l c.args.asked.now.i + d)
    ∙ ap (λ n. cipher l.width a (part_secret seed number a.cols d) (part_noise seed number n d) (first_row l c.args.asked.now.i + d)) (sym rows))
