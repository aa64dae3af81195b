use Rattle.std.proofs.Common.{◌≡◌, ◌++◌, string_bytes, take, flat_map}
use Rattle.service_watch.specs.Metrics.{sample_text}
use Rattle.service_watch.proofs.metrics.push_samples.Given as goal

abbrev pub invariant-loop-sample : goal.invariant-loop-sample
invariant-loop-sample l =
    string_bytes l.text ≡ string_bytes l.fn.text ++ flat_map (sample_text l.name) (take l.sample-index l.samples)
