use Rattle.matrix_u32.proofs.Products.{same-list_of}
use Rattle.lane_kernels.specs.Digit.{digit}
use Rattle.digit_pack.specs.Digits.{number_of}
use Rattle.digit_pack.specs.Layout.{digits_per_record, record_at}
use Rattle.double_scheme.specs.Double.{double_reading}
use Rattle.double_scheme.proofs.Retrieval.{part_reads}
use Rattle.double_scheme.proofs.laws.quiet_retrieval_reads_the_record.Goals as goal

pub returns : goal.returns
unfolding double_reading
returns c = λ l records a1 a2 seed number i s p rows1 rows2 cols quiet.
    same-list_of (digits_per_record l) _ (λ d. digit l.width (number_of 8 (record_at records i)) d)
    (λ d q.
    part_reads l records a1 a2 seed number i rows1 rows2 cols c.quiet_matrix_row_gives_its_entry.ensures c.digits_are_small.ensures
    c.record_stands_inside.ensures c.record_stands_in_its_column.ensures s p quiet d q
    (c.quiet_part_gives_its_row.ensures l records a1 a2 seed number i d s p q rows1 rows2 cols quiet))
