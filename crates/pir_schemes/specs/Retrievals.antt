-- Hints, queries and answers, by scheme.
use Rattle.std.specs.Prelude.{ℕ, ◌*◌, List, length}
use Rattle.matrix_u32.specs.Matrix.{WordMatrix, product}
use Rattle.lane_kernels.specs.Digit.{split_count}
use Rattle.digit_pack.specs.Layout.{Shape, digit_rows, digit_cols}
use Rattle.simple_scheme.specs.Simple.{simple_query, simple_answer, simple_reading, IsQuietRetrieval}
use Rattle.double_scheme.specs.Double.{
  server_hint_of,
  double_query_count,
  double_query,
  double_answer_count,
  double_answer,
  double_reading,
  IsQuietDouble,
}
use Rattle.pir_schemes.specs.declared.scheme.Scheme.{Scheme}
use Rattle.pir_schemes.specs.declared.scheme.Scheme.TheVariants.{Simple, Double}
use Rattle.pir_schemes.specs.declared.plan.Plan.{Plan}
use Rattle.pir_schemes.specs.Plans.{shape_at, digits_at, slots, first_public, second_public}

-- ---- counts, under public matrices of n columns

-- how many rows a hint has: of SimplePIR one for each row of digits, of DoublePIR one for each
-- digit of n words
abbrev pub hint_rows : Scheme → Shape → ℕ → ℕ
hint_rows Simple l n = digit_rows l
hint_rows Double l n = n * split_count l.width

-- how many words a hint has
abbrev pub hint_len : Scheme → Shape → ℕ → ℕ
hint_len s l n = hint_rows s l n * n

-- how many words a query has
abbrev pub query_count : Scheme → Shape → ℕ
query_count Simple l = digit_cols l
query_count Double l = double_query_count l

-- how many words an answer has
abbrev pub answer_count : Scheme → Shape → ℕ → ℕ
answer_count Simple l n = digit_rows l
answer_count Double l n = double_answer_count l n

-- ---- words

-- DoublePIR's server hint of a version, made from scratch
unfoldable pub server_hint : Plan → List (List ℕ) → WordMatrix
server_hint p records =
    server_hint_of p.width (digits_at p records) (first_public (shape_at p (length records)) p.dimension p.seed)

-- the hint of a version that a client fetches, made from scratch
unfoldable pub hint_matrix : Scheme → Plan → List (List ℕ) → WordMatrix
hint_matrix Simple p records =
    product (digits_at p records) (first_public (shape_at p (length records)) p.dimension p.seed)
hint_matrix Double p records =
    product (server_hint p records) (second_public (shape_at p (length records)) p.dimension p.seed)

-- the words of retrieval `number` of a client's seed, for record i
unfoldable pub query_words : Scheme → Shape → ℕ → List ℕ → List ℕ → ℕ → ℕ → List ℕ
query_words Simple l n public seed number i = simple_query l (first_public l n public) seed number i
query_words Double l n public seed number i =
    double_query l (first_public l n public) (second_public l n public) seed number i

-- the words of the answer to a query's words on a version
unfoldable pub answer_words : Scheme → Plan → List (List ℕ) → List ℕ → List ℕ
answer_words Simple p records words = simple_answer (digits_at p records) words
answer_words Double p records words =
    double_answer (shape_at p (length records)) (digits_at p records) (server_hint p records)
    (second_public (shape_at p (length records)) p.dimension p.seed) words

-- the digits that an answer gives for record i under a hint
unfoldable pub reading : Scheme → Shape → WordMatrix → List ℕ → ℕ → ℕ → List ℕ → List ℕ
reading Simple l hint seed number i answer = simple_reading l hint seed number i answer
reading Double l hint seed number i answer = double_reading l hint seed number answer

-- the noise sums of retrieval `number` of a client's seed, for record i of a version, stay below
-- half of delta
abbrev pub IsQuietOf : Scheme → Plan → List (List ℕ) → List ℕ → ℕ → ℕ → Type 0
IsQuietOf Simple p records seed number i =
    IsQuietRetrieval (shape_at p (length records)) (slots p records) seed number
    (digit_cols (shape_at p (length records))) i
IsQuietOf Double p records seed number i =
    IsQuietDouble (shape_at p (length records)) (slots p records)
    (first_public (shape_at p (length records)) p.dimension p.seed) seed number i
