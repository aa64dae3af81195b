use Rattle.std.proofs.Common.{◌≡◌, ◌≤◌, ◌-◌}
use Rattle.version_store.proofs.OldSlots.{olds_up_to}
use Rattle.version_store.proofs.old_bytes.old_bytes.Given as goal

-- the old bytes of those of the records before the next place that differ
abbrev pub invariant-loop-i : goal.invariant-loop-i
invariant-loop-i l = record {
  olds : l.olds ≡ olds_up_to l.fn.layer l.fn.count l.fn.changes.entries l.from;
  inside : l.from ≤ l.fn.count;
}

abbrev pub decreases-loop-i : goal.decreases-loop-i
decreases-loop-i l = l.fn.count - l.from
