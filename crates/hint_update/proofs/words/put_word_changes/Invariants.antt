use Rattle.std.proofs.Common.{◌≡◌, ℕ, ◌<◌, ◌≤◌, length}
use Rattle.std.specs.Prelude.{slice_index}
use Rattle.hint_update.specs.Words.{word_change}
use Rattle.hint_update.proofs.words.put_word_changes.Given as goal

abbrev pub invariant-loop-k : goal.invariant-loop-k
invariant-loop-k g l = record {
  done : (k : ℕ) → k < l.k → slice_index l.changes k ≡ word_change l.w (g.S.DigitStore.digits l.server_hint) l.hint l.listed l.word k;
  rest : (k : ℕ) → l.k ≤ k → k < length l.initial.changes → slice_index l.changes k ≡ 0;
}
