use Rattle.std.proofs.Common.{◌≡◌, ℕ, ◌<◌, ◌≤◌, ◌-◌, length}
use Rattle.std.specs.Prelude.{slice_index}
use Rattle.matrix_u32.specs.Matrix.{entry}
use Rattle.hint_update.specs.Updates.{TakesBlock}
use Rattle.hint_update.specs.Words.{HasCombined, IsRowsBuffers}
use Rattle.hint_update.proofs.Blocks.{IsMovedTo}
use Rattle.hint_update.proofs.rows.update_double_rows.Given as goal

abbrev pub invariant-loop-first : goal.invariant-loop-first
invariant-loop-first g l = record {
  within : l.first ≤ l.rows;
  server : TakesBlock l.fn.new_rows.w l.fn.new_rows.hint.now (g.S.DigitStore.digits l.fn.server_hint) (g.S.DigitStore.digits l.server_hint) l.fn.new_rows.listed.now 0 l.first;
  client : IsMovedTo l.first l.fn.new_rows.w l.fn.new_rows.hint.now (g.S.DigitStore.digits l.fn.server_hint) l.fn.client_hint l.client_hint l.a2 l.fn.new_rows.listed.now;
  copied : (k q : ℕ) → k < length l.fn.new_rows.listed.now → q < l.a2.cols → entry l.room.public k q ≡ entry l.a2 (slice_index l.fn.new_rows.listed.now k) q;
  cleared : (k q : ℕ) → length l.fn.new_rows.listed.now ≤ k → k < l.fn.room.public.rows → q < l.a2.cols → entry l.room.public k q ≡ 0;
  combined : HasCombined l.room.public l.room.words;
  room : IsRowsBuffers l.fn.room.public.rows l.a2.cols l.room;
}

abbrev pub decreases-loop-first : goal.decreases-loop-first
decreases-loop-first g l = l.rows - l.first
