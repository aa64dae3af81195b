use Rattle.std.proofs.Common.{◌≡◌, ◌++◌, length, take}
use Rattle.frame_codec.proofs.prefix.fill_front.Given as goal

abbrev pub invariant-loop-i : goal.invariant-loop-i
invariant-loop-i l = record {
  long : length l.space ≡ length l.fn.space;
  taken : take l.i l.space ≡ take l.i (l.first ++ l.rest);
}
