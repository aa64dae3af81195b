-- What rows that are lent leave in their matrix.
use Rattle.std.specs.Prelude.{ℕ, List}
use Rattle.std.specs.Borrow.{Lends, MutBor, Fml, Array, u32}
use Rattle.matrix_u32.specs.Matrix.{WordMatrix, written_row}
use Rattle.matrix_u32.specs.contracts.matrix.Matrix.{the_row}

-- once the borrow r is over, m has the words that r was left with from the start of row i on
abbrev pub LendsRow : MutBor WordMatrix → ℕ → MutBor (List ℕ) → Fml
LendsRow m i r = Lends the_row (Array u32 0) m r (written_row m.now i)
