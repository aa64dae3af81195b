use Rattle.std.proofs.Common.{◌≡◌, ◌++◌, List, drop}
use Rattle.service_watch.specs.Counts.{Amount, IsTally}
use Rattle.service_watch.specs.Scans.{frames_in, scan_after}
use Rattle.service_watch.proofs.scans.FrameScan.count.Given as goal

-- What is still to come adds to what was counted.
abbrev pub invariant-loop-byte : goal.invariant-loop-byte
invariant-loop-byte l = record {
  tally : (events : List Amount) → IsTally l.fn.counters.counts events → (done : List Amount) × IsTally l.counters.counts (events ++ done)
      × (done ++ frames_in l.self (drop l.byte-index l.bytes) ≡ frames_in l.fn.self l.bytes);
  scan : scan_after l.self (drop l.byte-index l.bytes) ≡ scan_after l.fn.self l.bytes;
}
