use Rattle.double_scheme.proofs.Retrieval.{part_gives}
use Rattle.double_scheme.proofs.laws.quiet_part_gives_its_row.Goals as goal

pub returns : goal.returns
returns c = λ l records a1 a2 seed number i d s p q rows1 rows2 cols quiet.
    part_gives l records a1 a2 seed number i rows1 rows2 cols c.quiet_matrix_row_gives_its_entry.ensures c.split_joins.ensures c.digits_are_small.ensures
    c.decomposed_stands_below.ensures c.record_stands_inside.ensures s p quiet d q
