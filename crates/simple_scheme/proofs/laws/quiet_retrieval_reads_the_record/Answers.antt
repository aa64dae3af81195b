use Rattle.std.proofs.Common.{◌≡◌, ◌∙◌, sym, ◌+◌, ◌<◌, ◌^◌, arith}
use Rattle.matrix_u32.specs.Matrix.{entry}
use Rattle.matrix_u32.proofs.Products.{same-list_of}
use Rattle.lane_kernels.specs.Digit.{digit}
use Rattle.digit_pack.specs.Digits.{number_of}
use Rattle.digit_pack.specs.Layout.{digit_matrix, digit_rows, digits_per_record, first_row, column_of, record_at}
use Rattle.simple_scheme.specs.Simple.{secret, query_noise, hint_of, simple_query, simple_answer, simple_reading}
use Rattle.simple_scheme.proofs.laws.quiet_retrieval_reads_the_record.Goals as goal

pub returns : goal.returns
unfolding simple_reading hint_of simple_answer simple_query
returns c = λ l records a1 seed number i s p e quiet.
    same-list_of (digits_per_record l) _ (λ d. digit l.width (number_of 8 (record_at records i)) d) (λ d q.
    let place : (first_row l i + d < digit_rows l) × (column_of l i < _) = c.record_stands_inside.ensures l i d s p q in
    let at : entry (digit_matrix l records) (first_row l i + d) (column_of l i) ≡ digit l.width (number_of 8 (record_at records i)) d =
    c.record_stands_in_its_column.ensures l records i d s p q in
    let small : entry (digit_matrix l records) (first_row l i + d) (column_of l i) < 2 ^ l.width =
    omega (arith, at, c.digits_are_small.ensures l.width (number_of 8 (record_at records i)) d) in
    c.quiet_matrix_row_gives_its_entry.ensures l.width (digit_matrix l records) a1 (secret seed number a1.cols) (query_noise seed number a1.rows)
    (first_row l i + d) (column_of l i) s.small place.0 (sym e) (omega (arith, e, place.1)) small (quiet d q)
    ∙ at)
