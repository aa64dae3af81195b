use Rattle.std.proofs.Common.{◌≡◌, ◌-◌, ◌^◌, slice_index}
use Rattle.hint_update.proofs.words.put_weights.Given as goal

abbrev pub invariant-loop-t : goal.invariant-loop-t
invariant-loop-t l = slice_index l.weights 0 ≡ 2 ^ 32 - 1
