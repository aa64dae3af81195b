-- What `recover` returns.
use Rattle.std.specs.Prelude.{◌≡◌, ℕ, List, Result, MatchResult}
use Rattle.std.specs.declared.vec.Vec.{Vec}
use Rattle.std.specs.declared.alloc.Global.{Global}
use Rattle.matrix_u32.specs.Matrix.{WordMatrix}
use Rattle.digit_pack.specs.Layout.{Shape, digit_matrix, digit_rows, digit_cols, record_at, IsRecord}
use Rattle.simple_scheme.specs.declared.records.RecoverError.{RecoverError}
use Rattle.simple_scheme.specs.declared.records.RecoverError.TheVariants.{Memory}
use Rattle.simple_scheme.specs.Recovery.{RecordFrom}
use Rattle.double_scheme.specs.Double.{server_hint_of, client_hint_of, double_query, double_answer, double_answer_count, double_reading, IsQuietDouble}

-- the record that the answer's reading writes, or why there is none
abbrev pub DoubleReadsRecord : Shape → WordMatrix → List ℕ → ℕ → List ℕ → Result (Vec ℕ Global) RecoverError → Type 0
DoubleReadsRecord l client_hint seed number answer outcome =
    RecordFrom l (double_answer_count l client_hint.cols) answer (double_reading l client_hint seed number answer) outcome

-- a quiet answer to the query under the records' hints gives the record, or no memory
abbrev pub DoubleGivesQuietRecord : Shape → WordMatrix → List ℕ → ℕ → ℕ → List ℕ → Result (Vec ℕ Global) RecoverError → Type 0
DoubleGivesQuietRecord l client_hint seed number i answer outcome =
    (records : List (List ℕ)) (a1 a2 : WordMatrix) → a1.rows ≡ digit_cols l → a2.rows ≡ digit_rows l → a2.cols ≡ a1.cols →
    IsRecord l (record_at records i) →
    client_hint ≡ client_hint_of (server_hint_of l.width (digit_matrix l records) a1) a2 →
    answer ≡ double_answer l (digit_matrix l records) (server_hint_of l.width (digit_matrix l records) a1) a2 (double_query l a1 a2 seed number i) →
    IsQuietDouble l records a1 seed number i →
    MatchResult outcome (λ bytes. bytes.items ≡ record_at records i) (λ e. e ≡ Memory)
