use Rattle.std.proofs.Common.{take}
use Rattle.std.specs.Io.KnownBytes.{Appends}
use Rattle.std.specs.List.{flat_map}
use Rattle.world_script.specs.Texts.{outcome_text}
use Rattle.world_script.proofs.progress.say_all.Given as goal

abbrev pub invariant-loop-outcome : goal.invariant-loop-outcome
invariant-loop-outcome g l = Appends (g.W.Write.contents l.fn.writer) (g.W.Write.contents l.writer) (flat_map outcome_text (take l.outcome-index l.outcomes))
