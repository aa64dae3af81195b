use Rattle.std.proofs.Common.{◌∙◌, ℕ, arith}
use Rattle.digit_pack.specs.Layout.{Shape, records_in}
use Rattle.matrix_u32.proofs.Products.{length-list_of}
use Rattle.version_store.specs.KeptRecords.{counted}
use Rattle.version_store.proofs.Blocks.{no_groups, all_groups}
use Rattle.version_store.proofs.digit_records.write_records.Goals as goal

pub loop-from-init : goal.loop-from-init
loop-from-init c = record {
  rows = c.requires.rows;
  cols = c.requires.cols;
  so_far = λ xs long is.
      is
      ∙ no_groups c.args.layout.now c.args.count xs (records_in (counted c.args.layout.now c.args.count) c.args.bytes.now) c.groups-groups.ensures.layout;
}

pub returns : goal.returns
returns c =
    let l : Shape = c.args.layout.now in
    let k : ℕ = c.args.count in
    λ xs long is.
    c.loop-from.invariant.so_far xs long is
    ∙ all_groups l k xs (records_in (counted l k) c.args.bytes.now) c.groups-groups.ensures.layout c.loop-from.from
    (omega (arith, c.loop-from-test.false, c.groups-groups.ensures.value)) (length-list_of k _)
