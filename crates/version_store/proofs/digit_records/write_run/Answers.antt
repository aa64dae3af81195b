use Rattle.std.proofs.Common.{◌≡◌, ◌∙◌, ◌+◌, ◌*◌, ◌%◌, ◌<◌, ℕ, List, ap, arith}
use Rattle.std.proofs.lemmas.List.{length-take-le}
use Rattle.std.proofs.Math.Nat.{mod-lt}
use Rattle.digit_pack.specs.Layout.{Shape, digits_per_record, digit_matrix, record_digits, records_in}
use Rattle.digit_pack.proofs.ColumnLemmas.{written_as}
use Rattle.digit_pack.proofs.RecordLemmas.{record_in}
use Rattle.version_store.specs.KeptRecords.{counted, records_over}
use Rattle.version_store.proofs.Blocks.{row_of_place, col_of_place, whole_place, over_none, over_more}
use Rattle.version_store.proofs.digit_records.write_run.Goals.{then-group-groups, else-group-groups}
use Rattle.version_store.proofs.digit_records.write_run.Goals as goal

pub loop-k-init : goal.loop-k-init
loop-k-init c =
    let l : Shape = c.args.layout.now in
    let same : c.groups-groups.result ≡ l.groups = c.groups-groups.ensures.value in
    record {
      rows = c.requires.rows;
      cols = c.requires.cols;
      room = length-take-le c.digits_per_record-each.result c.digit_buffer-room.result
          (omega (arith, c.digits_per_record-each.ensures.few, c.digit_buffer-room.type_inv))
          ∙ c.digits_per_record-each.ensures.value;
      low = omega (arith, ap (λ x. c.args.at % x) same, mod-lt c.args.at c.groups-groups.ensures.layout.groups.0);
      place = whole_place c.args.at l.groups c.groups-groups.result same;
      so_far = λ xs few is. is ∙ over_none l xs c.args.at (records_in (counted l c.args.count) c.args.bytes.now) few;
    }

pub loop-k-preserved : goal.loop-k-preserved
loop-k-preserved c =
    let l : Shape = c.args.layout.now in
    let k : ℕ = c.loop-k.k in
    let at : ℕ = c.args.at in
    let g : ℕ = l.groups in
    let ys : List (List ℕ) = records_in (counted l c.args.count) c.args.bytes.now in
    let same : c.groups-groups.result ≡ g = c.groups-groups.ensures.value in
    let low : c.loop-k.group < g = c.loop-k.invariant.low in
    let place : c.loop-k.col * g + c.loop-k.group ≡ at + k = c.loop-k.invariant.place in
    record {
      rows = c.write_column.ensures.written.rows ∙ c.loop-k.invariant.rows;
      cols = c.write_column.ensures.written.cols ∙ c.loop-k.invariant.cols;
      room = c.write_column.ensures.room ∙ c.loop-k.invariant.room;
      low = elim c.if-group-groups.branch [
        | then-group-groups w ↦ omega (arith, w.group-is, low)
        | else-group-groups w ↦ omega (arith, w.group-is, w.if-group-groups.false, low, same)
      ];
      place = elim c.if-group-groups.branch [
        | then-group-groups w ↦
            let next : (c.loop-k.col + 1) * g ≡ c.loop-k.col * g + g = omega arith in
            omega (arith, w.group-is, ap (λ x. x * g) w.col-is, w.if-group-groups.true, place, next, same)
        | else-group-groups w ↦ omega (arith, w.group-is, ap (λ x. x * g) w.col-is, place)
      ];
      so_far = λ xs few is.
          over_more l xs at ys k c.write_column.new.digits c.groups-groups.ensures.layout (omega (arith, c.requires.inside, c.loop-k-test.true))
          (written_as c.loop-k.digits _ c.write_column.new.digits _ _ _ _ _ _ (c.loop-k.invariant.so_far xs few is)
          (ap (λ x. c.loop-k.group * x) c.digits_per_record-each.ensures.value
          ∙ ap (λ x. x * digits_per_record l) (row_of_place l (at + k) c.loop-k.group c.loop-k.col low place))
          (col_of_place l (at + k) c.loop-k.group c.loop-k.col low place)
          (ap (record_digits l) (record_in (counted l c.args.count) c.args.bytes.now k c.record_len-len.result c.record_len-len.ensures.value c.loop-k-test.true))
          c.write_column.ensures.written);
    }

pub returns-clause-written : goal.returns-clause-written
returns-clause-written c =
    let l : Shape = c.args.layout.now in
    let all : c.loop-k.k ≡ c.args.count = omega (arith, c.loop-k-test.false, c.loop-k.auto.k-end) in
    λ xs few is.
    c.loop-k.invariant.so_far xs few is
    ∙ ap (λ n. digit_matrix l (records_over l xs c.args.at n (records_in (counted l c.args.count) c.args.bytes.now))) all
