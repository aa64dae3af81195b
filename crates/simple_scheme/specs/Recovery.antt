-- What `recover` returns.
use Rattle.std.specs.Prelude.{◌≡◌, ◌≢◌, ℕ, List, ◌⊎◌, Result, MatchResult, length}
use Rattle.std.specs.declared.vec.Vec.{Vec}
use Rattle.std.specs.declared.alloc.Global.{Global}
use Rattle.matrix_u32.specs.Matrix.{WordMatrix}
use Rattle.digit_pack.specs.Layout.{Shape, FitsRecord, digit_rows, digit_matrix, digit_cols, record_at, record_bytes, IsRecord}
use Rattle.simple_scheme.specs.Simple.{hint_of, simple_query, simple_answer, simple_reading, IsQuietRetrieval}
use Rattle.simple_scheme.specs.declared.records.RecoverError.{RecoverError}
use Rattle.simple_scheme.specs.declared.records.RecoverError.TheVariants.{BadLength, BadDigits, Memory}

-- the bytes that digits write, or BadDigits for a bit past the record's last byte
abbrev pub GivesBytes : Shape → List ℕ → Result (Vec ℕ Global) RecoverError → Type 0
GivesBytes l digits outcome =
    MatchResult outcome (λ bytes. FitsRecord l digits × (bytes.items ≡ record_bytes l digits)) (λ e. (e ≡ BadDigits) × (¬ FitsRecord l digits))

-- the bytes that the digits read write; or another number of words, a bit past the record's last
-- byte, no memory
abbrev pub RecordFrom : Shape → ℕ → List ℕ → List ℕ → Result (Vec ℕ Global) RecoverError → Type 0
RecordFrom l count answer digits outcome =
    MatchResult outcome
    (λ bytes. (length answer ≡ count) × FitsRecord l digits × (bytes.items ≡ record_bytes l digits))
    (λ e. ((e ≡ BadLength) × (length answer ≢ count))
    ⊎ ((e ≡ BadDigits) × (length answer ≡ count) × (¬ FitsRecord l digits))
    ⊎ ((e ≡ Memory) × (length answer ≡ count)))

-- what comes of an answer to the query for record i, read under a hint
abbrev pub SimpleReadsRecord : Shape → WordMatrix → List ℕ → ℕ → ℕ → List ℕ → Result (Vec ℕ Global) RecoverError → Type 0
SimpleReadsRecord l hint seed number i answer outcome = RecordFrom l (digit_rows l) answer (simple_reading l hint seed number i answer) outcome

-- a quiet answer to the query under the records' hint gives the record, or no memory
abbrev pub SimpleGivesQuietRecord : Shape → WordMatrix → List ℕ → ℕ → ℕ → List ℕ → Result (Vec ℕ Global) RecoverError → Type 0
SimpleGivesQuietRecord l hint seed number i answer outcome =
    (records : List (List ℕ)) (a1 : WordMatrix) → a1.rows ≡ digit_cols l → IsRecord l (record_at records i) →
    hint ≡ hint_of (digit_matrix l records) a1 →
    answer ≡ simple_answer (digit_matrix l records) (simple_query l a1 seed number i) →
    IsQuietRetrieval l records seed number a1.rows i →
    MatchResult outcome (λ bytes. bytes.items ≡ record_at records i) (λ e. e ≡ Memory)
