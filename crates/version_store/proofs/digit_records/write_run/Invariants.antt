use Rattle.std.proofs.Common.{◌≡◌, ◌+◌, ◌*◌, ◌<◌, ◌≤◌, List, ℕ, length}
use Rattle.digit_pack.specs.Layout.{digit_rows, digit_cols, digit_matrix, digits_per_record, records_in}
use Rattle.version_store.specs.KeptRecords.{counted, records_over}
use Rattle.version_store.proofs.digit_records.write_run.Given as goal

-- the first k records are written, and the next one's place is known
abbrev pub invariant-loop-k : goal.invariant-loop-k
invariant-loop-k l = record {
  rows : l.digits.rows ≡ digit_rows l.layout;
  cols : l.digits.cols ≡ digit_cols l.layout;
  room : length l.packed ≡ digits_per_record l.layout;
  low : l.group < l.layout.groups;
  place : l.col * l.layout.groups + l.group ≡ l.at + l.k;
  so_far : (xs : List (List ℕ)) → length xs ≤ l.layout.count → l.fn.digits ≡ digit_matrix l.layout xs →
      l.digits ≡ digit_matrix l.layout (records_over l.layout xs l.at l.k (records_in (counted l.layout l.count) l.bytes));
}
