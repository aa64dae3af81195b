use Rattle.std.proofs.Common.{◌≡◌, ◌+◌, ◌≤◌, ◌++◌, length, filter}
use Rattle.std.specs.Prelude.{vec_len, vec_capacity}
use Rattle.std.specs.List.{range_with_len}
use Rattle.version_store.specs.Editions.{is_marked}
use Rattle.version_store.proofs.row_marks.push_marked.Given as goal

abbrev pub invariant-loop-r : goal.invariant-loop-r
invariant-loop-r l = record {
  items : l.rows.items ≡ l.fn.rows.items ++ filter (is_marked l.marks) (range_with_len 0 l.r);
  room : vec_len l.rows + length l.marks ≤ vec_capacity l.rows + l.r;
}
