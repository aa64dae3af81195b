-- Laws of both schemes.
use Rattle.std.specs.Prelude.{◌≡◌, ◌≢◌, ◌<◌, ◌⊎◌, ℕ, ◌+◌, ◌-◌, ◌/◌, ◌%◌, ◌^◌, ◌==◌, nat_lt, List, length, slice_index, Bool, true, false, Some, None, Result, MatchResult, if◌then◌else◌}
use Rattle.std.specs.declared.vec.Vec.{Vec}
use Rattle.std.specs.declared.alloc.Global.{Global}
use Rattle.simple_scheme.specs.declared.records.RecoverError.{RecoverError}
use Rattle.simple_scheme.specs.declared.records.RecoverError.TheVariants.{BadLength, BadDigits, Memory}
use Rattle.matrix_u32.specs.Matrix.{WordMatrix, IsWhole}
use Rattle.noise_table.specs.Margin.{delta, IsCertain}
use Rattle.digit_pack.specs.Layout.{Shape, IsShape, digit_rows, digit_cols, column_of, first_row, record_at}
use Rattle.pir_schemes.specs.declared.scheme.Scheme.{Scheme}
use Rattle.pir_schemes.specs.declared.scheme.Scheme.TheVariants.{Simple, Double}
use Rattle.pir_schemes.specs.declared.plan.Plan.{Plan}
use Rattle.pir_schemes.specs.Plans.{IsPlan, IsRecordOf, shape_at, record_of}
use Rattle.pir_schemes.specs.Retrievals.{
  hint_rows,
  hint_matrix,
  query_count,
  query_words,
  answer_count,
  answer_words,
  reading,
  IsQuietOf,
}

-- what reading an answer comes to: the record that its digits write; or it has another count of
-- words, it sets a bit past the record's last byte, or memory was refused
abbrev pub ReadsRecordOf : Scheme → Plan → ℕ → WordMatrix → List ℕ → ℕ → ℕ → List ℕ → Result (Vec ℕ Global) RecoverError → Type 0
ReadsRecordOf s p count hint seed number i answer outcome =
    let l = shape_at p count in
    MatchResult outcome
    (λ bytes. (length answer ≡ answer_count s l hint.cols) × (record_of p (reading s l hint seed number i answer) ≡ Some bytes.items))
    (λ e. ((e ≡ BadLength) × (length answer ≢ answer_count s l hint.cols))
    ⊎ ((e ≡ BadDigits) × (length answer ≡ answer_count s l hint.cols) × (record_of p (reading s l hint seed number i answer) ≡ None))
    ⊎ ((e ≡ Memory) × (length answer ≡ answer_count s l hint.cols)))

-- a hint has its rows, n columns, and as many words as these need
pub record HasHintSizes (s : Scheme) (p : Plan) (records : List (List ℕ)) : Type 0 where
  pub rows : (hint_matrix s p records).rows ≡ hint_rows s (shape_at p (length records)) p.dimension
  pub cols : (hint_matrix s p records).cols ≡ p.dimension
  pub whole : IsWhole (hint_matrix s p records)

-- every hint has the rows and columns of its scheme
abbrev pub HintsHaveTheirSizes : Type 0
HintsHaveTheirSizes = (s : Scheme) (p : Plan) (records : List (List ℕ)) → HasHintSizes s p records

-- a query has the words that its scheme expects
abbrev pub QueriesHaveTheirLength : Type 0
QueriesHaveTheirLength = (s : Scheme) (l : Shape) (n : ℕ) (public seed : List ℕ) (number i : ℕ) →
    length (query_words s l n public seed number i) ≡ query_count s l

-- an answer has the words that its scheme expects
abbrev pub AnswersHaveTheirLength : Type 0
AnswersHaveTheirLength = (s : Scheme) (p : Plan) (records : List (List ℕ)) (words : List ℕ) →
    length (answer_words s p records words) ≡ answer_count s (shape_at p (length records)) p.dimension

-- a certain shape, on which every retrieval is quiet: a row with a digit for each column of the
-- digit matrix is certain, and for DoublePIR also one with a digit for each of its rows
abbrev pub IsCertainOf : Scheme → Shape → Type 0
IsCertainOf Simple l = IsCertain l.width (digit_cols l)
IsCertainOf Double l = IsCertain l.width (digit_cols l) × IsCertain l.width (digit_rows l)

-- a retrieval from a version, read under the version's hint, gives its record if it is quiet, and
-- on a certain shape always
abbrev pub RetrievalGivesTheRecord : Type 0
RetrievalGivesTheRecord = (s : Scheme) (p : Plan) (records : List (List ℕ)) (seed : List ℕ) (number i : ℕ) →
    IsPlan p (length records) → i < length records → IsRecordOf p (record_at records i) →
    IsQuietOf s p records seed number i ⊎ IsCertainOf s (shape_at p (length records)) →
    let l = shape_at p (length records) in
    let asked = query_words s l p.dimension p.seed seed number i in
    record_of p (reading s l (hint_matrix s p records) seed number i (answer_words s p records asked))
    ≡ Some (record_at records i)

-- on a certain shape every retrieval is quiet, for every list of records, seed and number
abbrev pub CertainShapeIsQuiet : Type 0
CertainShapeIsQuiet = (s : Scheme) (p : Plan) (records : List (List ℕ)) (seed : List ℕ) (number i : ℕ) →
    IsShape (shape_at p (length records)) → IsCertainOf s (shape_at p (length records)) →
    IsQuietOf s p records seed number i

-- whether word k of a query for record i is at one of the record's places: its column; and in part
-- d of a second layer, of as many words as there are rows, the row of its digit d
abbrev pub is_place : Scheme → Shape → ℕ → ℕ → Bool
is_place Simple l i k = k == column_of l i
is_place Double l i k =
    if nat_lt k (digit_cols l) then k == column_of l i
    else (k - digit_cols l) % digit_rows l == first_row l i + (k - digit_cols l) / digit_rows l

-- two queries of one seed and number, for records i and j: word k is the same in both if it is at a
-- place of both records or of neither; at a place of record i alone it is more by delta
pub record DifferAtTheirPlaces (s : Scheme) (l : Shape) (n : ℕ) (public seed : List ℕ) (number i j k : ℕ) : Type 0 where
  pub same : is_place s l i k ≡ is_place s l j k →
      slice_index (query_words s l n public seed number i) k ≡ slice_index (query_words s l n public seed number j) k
  pub more : is_place s l i k ≡ true → is_place s l j k ≡ false →
      slice_index (query_words s l n public seed number i) k
      ≡ (slice_index (query_words s l n public seed number j) k + delta l.width) % 2 ^ 32

-- queries of one seed and number differ at their records' places alone, by delta
abbrev pub QueriesDifferAtTheirPlaces : Type 0
QueriesDifferAtTheirPlaces = (s : Scheme) (l : Shape) (n : ℕ) (public seed : List ℕ) (number i j k : ℕ) →
    k < query_count s l → DifferAtTheirPlaces s l n public seed number i j k
