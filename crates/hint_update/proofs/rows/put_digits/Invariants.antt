use Rattle.std.proofs.Common.{◌≡◌, ℕ, ◌+◌, ◌*◌, ◌<◌, length}
use Rattle.std.specs.Prelude.{slice_index}
use Rattle.matrix_u32.specs.Matrix.{row}
use Rattle.hint_update.specs.Updates.{word_digit_at}
use Rattle.hint_update.proofs.rows.put_digits.Given as goal

abbrev pub invariant-loop-b : goal.invariant-loop-b
invariant-loop-b l = record {
  count : length l.digits ≡ length l.fn.digits;
  digits : (b : ℕ) → b < l.b → slice_index l.digits b ≡ word_digit_at l.w (row l.hint l.i) (l.first + b);
  small : (b : ℕ) → b < l.b → slice_index l.digits b < 1024;
  at : l.word * l.step + l.place ≡ l.first + l.b;
  inside : l.place < l.step;
}
