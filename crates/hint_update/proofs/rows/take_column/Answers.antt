use Rattle.std.proofs.Common.{◌≡◌, ℕ, ◌+◌, ◌<◌, arith, ap, ◌∙◌, subst, List, ◌∷◌, [], length}
use Rattle.std.specs.Prelude.{slice_index}
use Rattle.matrix_u32.specs.Matrix.{WordMatrix, row}
use Rattle.hint_update.specs.Updates.{TakesBlock, word_digit_at}
use Rattle.hint_update.proofs.Blocks.{column_taken}
use Rattle.hint_update.proofs.rows.take_column.Goals as goal

pub returns-clause-server : goal.returns-clause-server
returns-clause-server g c =
    let w : ℕ = c.args.w in
    let first : ℕ = c.args.first in
    let col : ℕ = c.args.col in
    let hint : WordMatrix = c.args.hint.now in
    let s0 : WordMatrix = g.S.DigitStore.digits c.args.server_hint.now in
    let s : WordMatrix = g.S.DigitStore.digits c.swap_digits.new.self in
    let words : List ℕ = c.copy_from_slice.new.self in
    let same : words ≡ c.put_digits.new.digits = c.copy_from_slice.ensures.after in
    let long : length words ≡ length c.args.new_digits.now = ap length same ∙ c.put_digits.ensures.count in
    let are : (b : ℕ) → b < length words → slice_index words b ≡ word_digit_at w (row hint col) (first + b) =
    λ b l. ap (λ (xs : List ℕ). slice_index xs b) same ∙ c.put_digits.ensures.digits b (omega (arith, l, long)) in
    subst (TakesBlock w hint s0 s (col ∷ []) first) long (column_taken w hint s0 s col first words c.swap_digits.ensures.written are)
