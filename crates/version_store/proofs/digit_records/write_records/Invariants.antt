use Rattle.std.proofs.Common.{◌≡◌, ◌-◌, ◌++◌, List, ℕ, length}
use Rattle.digit_pack.specs.Layout.{digit_rows, digit_cols, digit_matrix, records_in}
use Rattle.version_store.specs.KeptRecords.{counted, records_of_groups}
use Rattle.version_store.proofs.digit_records.write_records.Given as goal

-- the records of the groups before are written
abbrev pub invariant-loop-from : goal.invariant-loop-from
invariant-loop-from l = record {
  rows : l.digits.rows ≡ digit_rows l.layout;
  cols : l.digits.cols ≡ digit_cols l.layout;
  so_far : (xs : List (List ℕ)) → length xs ≡ l.first → l.fn.digits ≡ digit_matrix l.layout xs →
      l.digits ≡ digit_matrix l.layout (xs ++ records_of_groups (counted l.layout l.count) (records_in (counted l.layout l.count) l.bytes) l.from);
}

abbrev pub decreases-loop-from : goal.decreases-loop-from
decreases-loop-from l = l.groups - l.from
