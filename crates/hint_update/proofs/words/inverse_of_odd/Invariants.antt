use Rattle.std.proofs.Common.{◌≡◌, ◌+◌, ◌*◌, ◌%◌, ◌^◌}
use Rattle.hint_update.proofs.words.inverse_of_odd.Given as goal

abbrev pub invariant-loop-i : goal.invariant-loop-i
invariant-loop-i l = l.x % 2 ≡ 1 → l.x * l.inverse % 2 ^ (2 ^ (l.i + 1)) ≡ 1
