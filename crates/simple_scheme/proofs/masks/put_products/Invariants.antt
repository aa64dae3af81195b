use Rattle.std.proofs.Common.{◌≡◌, ◌*◌, length}
use Rattle.seed_expand.specs.Words.{further, source_rows}
use Rattle.simple_scheme.specs.Masks.{row_products}
use Rattle.simple_scheme.proofs.Rows.{HasRowsOf}
use Rattle.simple_scheme.proofs.masks.put_products.Given as goal

-- the rows so far, and the source's place
abbrev pub invariant-loop-j : goal.invariant-loop-j
invariant-loop-j g l = record {
  wide : length l.row ≡ l.secrets.cols;
  source : l.source ≡ further l.fn.source (l.j * l.secrets.cols);
  written : HasRowsOf (row_products (source_rows l.fn.source l.fn.products.rows l.secrets.cols) l.secrets) l.j l.products;
}
