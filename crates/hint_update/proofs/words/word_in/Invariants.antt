use Rattle.std.proofs.Common.{◌≡◌, ◌+◌, ◌*◌, ◌%◌, ◌^◌}
use Rattle.matrix_u32.specs.Sum.{sum_below}
use Rattle.matrix_u32.specs.Matrix.{entry}
use Rattle.hint_update.proofs.words.word_in.Given as goal

abbrev pub invariant-loop-t : goal.invariant-loop-t
invariant-loop-t g l = l.value ≡ sum_below l.t (λ t. entry (g.S.DigitStore.digits l.server_hint) (l.first + t) l.col * 2 ^ (l.w * t)) % 2 ^ 32
