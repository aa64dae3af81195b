use Rattle.std.proofs.Common.{length}
use Rattle.hint_update.specs.Words.{word_change, IsLeastPower}
use Rattle.hint_update.proofs.words.least_power.Given as goal

abbrev pub invariant-loop-word : goal.invariant-loop-word
invariant-loop-word g l = IsLeastPower l.word (length l.initial.changes) (word_change l.w (g.S.DigitStore.digits l.server_hint) l.hint l.listed) l.least
