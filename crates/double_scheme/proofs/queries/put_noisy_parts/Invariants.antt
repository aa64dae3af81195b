use Rattle.std.proofs.Common.{◌≡◌, ◌+◌, ◌*◌, take, length}
use Rattle.std.specs.Prelude.{flat_map}
use Rattle.std.specs.List.{range_with_len}
use Rattle.matrix_u32.specs.Matrix.{row}
use Rattle.regev_core.specs.Encryption.{with_noise}
use Rattle.digit_pack.specs.Layout.{digit_rows, first_row}
use Rattle.double_scheme.specs.Double.{part_noise}
use Rattle.double_scheme.proofs.queries.put_noisy_parts.Given as goal

-- the parts before d
abbrev pub invariant-loop-d : goal.invariant-loop-d
invariant-loop-d l =
    (take (l.d * l.rows) l.out
    ≡ flat_map (λ d. with_noise l.layout.width (row l.products d) (part_noise l.asked.seed.now l.asked.number (digit_rows l.layout) d) (first_row l.layout l.asked.i + d))
    (range_with_len 0 l.d))
    × (length l.noise ≡ digit_rows l.layout)
