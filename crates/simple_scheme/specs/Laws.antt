-- Laws of SimplePIR.
use Rattle.std.specs.Prelude.{◌≡◌, ℕ, ◌<◌, List}
use Rattle.matrix_u32.specs.Matrix.{WordMatrix}
use Rattle.noise_table.specs.Margin.{IsCertain}
use Rattle.digit_pack.specs.Layout.{Shape, IsShape, digit_matrix, digit_cols, record_at, record_digits}
use Rattle.simple_scheme.specs.Simple.{hint_of, simple_query, simple_answer, simple_reading, IsQuietRetrieval}

-- a quiet retrieval reads the record's digits
abbrev pub QuietSimpleRetrievalReadsTheRecord : Type 0
QuietSimpleRetrievalReadsTheRecord = (l : Shape) (records : List (List ℕ)) (a1 : WordMatrix) (seed : List ℕ) (number i : ℕ) →
    IsShape l → i < l.count → a1.rows ≡ digit_cols l →
    IsQuietRetrieval l records seed number a1.rows i →
    simple_reading l (hint_of (digit_matrix l records) a1) seed number i (simple_answer (digit_matrix l records) (simple_query l a1 seed number i))
    ≡ record_digits l (record_at records i)

-- on a certain shape every retrieval is quiet
abbrev pub SimpleCertainShapeIsQuiet : Type 0
SimpleCertainShapeIsQuiet = (l : Shape) (records : List (List ℕ)) (seed : List ℕ) (number m i : ℕ) →
    IsShape l → IsCertain l.width (digit_cols l) → IsQuietRetrieval l records seed number m i
