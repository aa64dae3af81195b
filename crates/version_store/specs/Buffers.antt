-- The memory that answers and publications are made in.
use Rattle.std.specs.Prelude.{◌≡◌, ◌<◌, ◌≤◌, ℕ, length, vec_capacity}
use Rattle.digit_pack.specs.Layout.{Shape, digit_rows}
use Rattle.pir_schemes.specs.declared.scheme.Scheme.{Scheme}
use Rattle.pir_schemes.specs.declared.scheme.Scheme.TheVariants as scheme
use Rattle.hint_update.specs.Words.{IsRowsBuffers}
use Rattle.version_store.specs.declared.answer_buffers.AnswerBuffers.{AnswerBuffers}
use Rattle.version_store.specs.declared.answer_buffers.AnswerBuffers.TheVariants.{Simple, Double}
use Rattle.version_store.specs.declared.rows.FollowBuffers.{FollowBuffers}

-- the scheme whose answers are made in this memory
abbrev pub scheme_answered : AnswerBuffers → Scheme
scheme_answered (Simple words) = scheme.Simple
scheme_answered (Double room) = scheme.Double

-- memory for an answer on a shape, under public matrices of so many columns
abbrev pub IsAnswerBuffers : Shape → ℕ → AnswerBuffers → Type 0
IsAnswerBuffers l dimension (Simple words) = length words.items ≡ digit_rows l
IsAnswerBuffers l dimension (Double room) = room ≡ record { layout = l; dimension = dimension }

-- memory for at least one changed row, over public matrices of so many columns
pub record IsRoomForRows (dimension : ℕ) (room : FollowBuffers) : Type 0 where
  pub some : 0 < room.rows.public.rows
  pub rows : IsRowsBuffers room.rows.public.rows dimension room.rows
  pub listed : room.rows.public.rows ≤ vec_capacity room.listed
