use Rattle.std.proofs.Common.{◌≡◌, sum, take}
use Rattle.service_watch.specs.Counts.{saturating}
use Rattle.service_watch.proofs.histograms.Histogram.at_most.Given as goal

abbrev pub invariant-loop-at : goal.invariant-loop-at
invariant-loop-at l = l.count ≡ saturating (sum (take l.at l.self.bins))
