use Rattle.std.proofs.Common.{ℕ, ◌<◌, length}
use Rattle.hint_update.specs.Words.{word_change, HasNone}
use Rattle.hint_update.proofs.words.put_first_changes.Given as goal

abbrev pub invariant-loop-word : goal.invariant-loop-word
invariant-loop-word g l = (j : ℕ) → j < l.word → HasNone (length l.initial.changes) (word_change l.w (g.S.DigitStore.digits l.server_hint) l.hint l.listed j) l.least
