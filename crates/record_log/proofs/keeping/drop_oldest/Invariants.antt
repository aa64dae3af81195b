use Rattle.std.proofs.Common.{◌≡◌, ℕ, vec_len}
use Rattle.std.specs.Vec.{vec_capacity}
use Rattle.record_log.specs.Logs.{kept_within}
use Rattle.record_log.specs.Steps.{HaveLen, olds_of}
use Rattle.record_log.proofs.keeping.drop_oldest.Given as goal

abbrev pub invariant-loop-lists : goal.invariant-loop-lists
invariant-loop-lists l = record {
  each : (len : ℕ) → HaveLen len l.fn.lists.items → HaveLen len l.lists.items;
  kept : (len : ℕ) → HaveLen len l.fn.lists.items → kept_within len l.most (olds_of l.lists.items) ≡ kept_within len l.most (olds_of l.fn.lists.items);
  capacity : vec_capacity l.lists ≡ vec_capacity l.fn.lists;
}

abbrev pub decreases-loop-lists : goal.decreases-loop-lists
decreases-loop-lists l = vec_len l.lists
