use Rattle.std.proofs.Common.{◌≡◌, ℕ, ◌+◌, ◌<◌}
use Rattle.hint_changes.specs.Entries.{index_in}
use Rattle.hint_changes.proofs.entries.are_entries.Given as goal

abbrev pub invariant-loop-k : goal.invariant-loop-k
invariant-loop-k l = record {
  inside : (j : ℕ) → j < l.k → index_in l.len l.bytes j < l.layout.count;
  ascending : (j : ℕ) → j + 1 < l.k → index_in l.len l.bytes j < index_in l.len l.bytes (j + 1);
  first : l.k ≡ 0 → l.least ≡ 0;
  next : (j : ℕ) → j + 1 ≡ l.k → l.least ≡ index_in l.len l.bytes j + 1;
}
