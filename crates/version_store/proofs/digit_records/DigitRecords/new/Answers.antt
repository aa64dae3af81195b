use Rattle.std.proofs.Common.{◌∙◌, ◌<◌, ◌^◌, [], ap, arith}
use Rattle.std.proofs.lemmas.List.Elements.{All-nil}
use Rattle.matrix_u32.specs.Matrix.{zero_matrix}
use Rattle.digit_pack.specs.Layout.{Shape, digit_rows}
use Rattle.digit_pack.proofs.RecordLemmas.{no_records}
use Rattle.version_store.proofs.KeptDigits.{is_kept}
use Rattle.version_store.proofs.digit_records.DigitRecords.new.Goals as goal

pub invariant_of-result : goal.invariant_of-result
invariant_of-result c =
    let l : Shape = c.args.layout in
    is_kept l 0 [] c.rows.ensures.layout (omega arith) (omega arith) (All-nil (λ x. x < 2 ^ 8)) c.in-Ok.digits
    (c.in-Ok.ensures.zeros.0 ∙ ap (λ n. zero_matrix n c.cols.result) c.rows.ensures.value ∙ ap (λ n. zero_matrix (digit_rows l) n) c.cols.ensures.value
    ∙ no_records l)
