use Rattle.std.proofs.Common.{◌≡◌, ◌≤◌, take, count_by}
use Rattle.service_watch.specs.Durations.{is_below}
use Rattle.service_watch.proofs.histograms.count_below.Given as goal

abbrev pub invariant-loop-bound : goal.invariant-loop-bound
invariant-loop-bound l = record { counted : l.count ≡ count_by (is_below l.micros) (take l.bound-index l.bounds); within : l.count ≤ l.bound-index }
