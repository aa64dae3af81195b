use Rattle.std.proofs.Common.{◌≡◌, ◌-◌, ◌≤◌, filter, length}
use Rattle.std.specs.Prelude.{vec_capacity}
use Rattle.std.specs.List.{range_with_len}
use Rattle.version_store.specs.Editions.{is_marked}
use Rattle.version_store.proofs.rows.list_marked.Given as goal

abbrev pub invariant-loop-r : goal.invariant-loop-r
invariant-loop-r l = record {
  listed : l.listed.items ≡ filter (is_marked l.marks) (range_with_len l.from (l.r - l.from));
  few : length l.listed.items ≤ l.most;
  room : vec_capacity l.listed ≡ vec_capacity l.fn.listed;
}
