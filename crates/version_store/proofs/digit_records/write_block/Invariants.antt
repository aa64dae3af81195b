use Rattle.std.proofs.Common.{◌≡◌, ◌++◌, ℕ, List, length}
use Rattle.digit_pack.specs.Layout.{digit_rows, digit_cols, digit_matrix, records_in}
use Rattle.version_store.specs.KeptRecords.{counted, records_of_groups}
use Rattle.version_store.proofs.Blocks.{in_columns}
use Rattle.version_store.proofs.digit_records.write_block.Given as goal

-- the records of the groups before, and those of the block in the first n columns, are written
abbrev pub invariant-loop-n : goal.invariant-loop-n
invariant-loop-n l = record {
  rows : l.digits.rows ≡ digit_rows l.layout;
  cols : l.digits.cols ≡ digit_cols l.layout;
  so_far : (xs : List (List ℕ)) → length xs ≡ l.first →
      l.fn.digits ≡ digit_matrix l.layout (xs ++ records_of_groups (counted l.layout l.count) (records_in (counted l.layout l.count) l.bytes) l.from) →
      l.digits
      ≡ digit_matrix l.layout (xs ++ in_columns (counted l.layout l.count) (records_in (counted l.layout l.count) l.bytes) l.from l.to l.n);
}
