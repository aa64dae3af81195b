-- An answer that is made in steps.
use Rattle.std.specs.Prelude.{◌≡◌, ℕ, ◌+◌, ◌*◌, ◌<◌, ◌≤◌, List, length, take}
use Rattle.matrix_u32.specs.Matrix.{WordMatrix, times_vector}
use Rattle.lane_kernels.specs.Digit.{split_count}
use Rattle.digit_pack.specs.Layout.{Shape, IsLayout, digit_rows, digit_cols, digits_per_record}
use Rattle.double_scheme.specs.declared.steps.AnswerSteps.{AnswerSteps}
use Rattle.double_scheme.specs.declared.steps.AnswerStage.{AnswerStage}
use Rattle.double_scheme.specs.declared.steps.AnswerStage.TheVariants.{Column, Parts}
use Rattle.double_scheme.specs.Double.{first_answer_of, part_of_query, double_answer, double_answer_count, answer_part_count}

-- a list begins as another does: so many of them are the same
abbrev pub HasFirst : ℕ → List ℕ → List ℕ → Type 0
HasFirst n whole list = take n list ≡ take n whole

-- the memory of an answer that is made in steps, under public matrices of n columns: that of an
-- answer, and the words of two of its parts
pub record HasStepsBuffers (l : Shape) (n : ℕ) (s : AnswerSteps) : Type 0 where
  pub layout : s.layout ≡ l
  pub is_layout : IsLayout l
  pub dimension : n ≤ 1024
  pub column_len : length s.column.items ≡ digit_rows l
  pub first_rows : s.first.rows ≡ split_count l.width
  pub first_cols : s.first.cols ≡ digit_rows l
  pub hint_rows : s.hint.rows ≡ split_count l.width
  pub hint_cols : s.hint.cols ≡ n
  pub words_len : length s.words.items ≡ double_answer_count l n
  pub x_len : length s.x.items ≡ answer_part_count l.width n
  pub y_len : length s.y.items ≡ answer_part_count l.width n

-- Before the parts: of the first layer's answer the words of the first rows are there.
pub record HasColumn (l : Shape) (digits : WordMatrix) (query : List ℕ) (s : AnswerSteps) (n : ℕ) : Type 0 where
  pub within : n ≤ digit_rows l
  pub rows : HasFirst n (times_vector digits (take (digit_cols l) query)) s.column.items

-- Of part d and of the next one, if there is one, the words of the first r rows of the server's
-- hint are there.
pub record HasPartRows (l : Shape) (server_hint : WordMatrix) (query : List ℕ) (s : AnswerSteps) (d r : ℕ) : Type 0 where
  pub within : d ≤ digits_per_record l
  pub rows_within : r ≤ server_hint.rows
  pub x_rows : HasFirst r (times_vector server_hint (part_of_query l query d)) s.x.items
  pub y_rows : d + 1 < digits_per_record l → HasFirst r (times_vector server_hint (part_of_query l query (d + 1))) s.y.items

-- From the parts on: the answer is there up to part d, and of this part and the next one the words
-- of the first r rows of the server's hint.
pub record HasParts (l : Shape) (digits server_hint a2 : WordMatrix) (query : List ℕ) (s : AnswerSteps) (d r : ℕ) : Type 0 where
  pub rows : HasPartRows l server_hint query s d r
  pub first_is : s.first ≡ first_answer_of l.width digits (take (digit_cols l) query)
  pub so_far : HasFirst (a2.cols * split_count l.width + d * answer_part_count l.width a2.cols) (double_answer l digits server_hint a2 query) s.words.items

-- What is there at a stage: some rows of the first layer's answer, or the answer up to a part.
abbrev pub IsMadeUntil : Shape → WordMatrix → WordMatrix → WordMatrix → List ℕ → AnswerSteps → AnswerStage → Type 0
IsMadeUntil l digits server_hint a2 query s (Column n) = HasColumn l digits query s n
IsMadeUntil l digits server_hint a2 query s (Parts d r) = HasParts l digits server_hint a2 query s d r

-- What is there of an answer to a query is right.
pub record IsMadeSoFar (l : Shape) (digits server_hint a2 : WordMatrix) (query : List ℕ) (s : AnswerSteps) : Type 0 where
  pub room : HasStepsBuffers l a2.cols s
  pub made : IsMadeUntil l digits server_hint a2 query s s.stage

-- no step is left
abbrev pub IsWholeAt : Shape → AnswerStage → Type 0
IsWholeAt l (Column n) = ⊥
IsWholeAt l (Parts d r) = digits_per_record l ≤ d

-- How far an answer is, as one number that each step makes greater, for a server's hint of h rows:
-- the rows of the first layer's answer, then for each part the rows of the server's hint, and one
-- for the end of each of these.
abbrev pub rows_made : Shape → ℕ → AnswerStage → ℕ
rows_made l h (Column n) = n
rows_made l h (Parts d r) = digit_rows l + 1 + d * (h + 1) + r
