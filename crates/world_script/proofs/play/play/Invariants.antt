use Rattle.std.proofs.Common.{◌≤◌, ◌+◌, length}
use Rattle.world_script.proofs.Playing.{IsPlayed}
use Rattle.world_script.proofs.play.play.Given as goal

abbrev pub invariant-loop-text : goal.invariant-loop-text
invariant-loop-text g l = record {
  played : IsPlayed l.fn.script l.rest l.progress l.number (g.W.Write.contents l.fn.writer) (g.W.Write.contents l.writer);
  room : l.number + length l.rest ≤ 1048577;
}

abbrev pub decreases-loop-text : goal.decreases-loop-text
decreases-loop-text g l = length l.rest
