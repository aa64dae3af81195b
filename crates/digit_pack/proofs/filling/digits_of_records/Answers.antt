use Rattle.std.proofs.Common.{arith, ap, ap₂, sym, ◌∙◌, ◌+◌, ◌≡◌, ◌*◌, ◌/◌, ◌%◌, ◌<◌, take, drop, List, ℕ, length}
use Rattle.std.proofs.lemmas.List.{with_items_is}
use Rattle.matrix_u32.specs.Matrix.{WordMatrix, zero_matrix}
use Rattle.matrix_u32.proofs.Products.{length-list_of}
use Rattle.digit_pack.specs.Layout.{Shape, digit_matrix, digit_rows, digit_cols, digits_per_record, first_row, column_of, record_at, record_digits, records_in}
use Rattle.digit_pack.specs.Columns.{WritesColumn}
use Rattle.digit_pack.proofs.ColumnLemmas.{written_as}
use Rattle.digit_pack.proofs.RecordLemmas.{shape_of_layout, length-record_digits, record_written}
use Rattle.digit_pack.proofs.Turns.{records_before, turn_of, none_before, turn_is, written_at, others_as_before, no_record, all_before, few_places, column_inside}
use Rattle.digit_pack.proofs.filling.digits_of_records.Goals as goal

pub loop-n-init : goal.loop-n-init
loop-n-init g c = record {
  digits = c.in-Ok.ensures.zeros.0
      ∙ ap (λ n. zero_matrix n c.cols.result) c.rows.ensures.value
      ∙ ap (λ n. zero_matrix (digit_rows c.args.layout.now) n) c.cols.ensures.value
      ∙ none_before c.args.layout.now (records_in c.args.layout.now c.args.bytes.now);
  room = c.in_ok-packed.ensures.len ∙ c.digits_per_record.ensures.value;
}

pub overflow_mul-i : goal.overflow_mul-i
overflow_mul-i g c =
    let l : Shape = c.args.layout.now in
    let turns : c.groups.result * c.cols-cols.result ≡ l.groups * digit_cols l = ap₂ ◌*◌ c.groups.ensures.value c.cols-cols.ensures.value in
    let below : c.loop-n.n < l.groups * digit_cols l = omega (arith, c.loop-n-test.true, turns) in
    rw (c.cols-cols.ensures.value, c.groups-in-loop-n.ensures.value) (omega (arith, few_places l c.loop-n.n c.cols.ensures.layout below))

pub overflow_add-i : goal.overflow_add-i
overflow_add-i g c =
    let l : Shape = c.args.layout.now in
    let turns : c.groups.result * c.cols-cols.result ≡ l.groups * digit_cols l = ap₂ ◌*◌ c.groups.ensures.value c.cols-cols.ensures.value in
    let below : c.loop-n.n < l.groups * digit_cols l = omega (arith, c.loop-n-test.true, turns) in
    rw (c.cols-cols.ensures.value, c.groups-in-loop-n.ensures.value) (omega (arith, few_places l c.loop-n.n c.cols.ensures.layout below))

pub write_digits-requires-clause-col : goal.write_digits-requires-clause-col
write_digits-requires-clause-col g c =
    let l : Shape = c.args.layout.now in
    let i : ℕ = c.loop-n.n % c.cols-cols.result * c.groups-in-loop-n.result + c.loop-n.n / c.cols-cols.result in
    let inside : i < l.count = omega (arith, c.if-i-count.false, c.count.ensures.value) in
    let col : c.place-first.result.1 ≡ column_of l i = ap (λ p. p.1) c.place-first.ensures.value in
    omega (arith, col, ap (λ (m : WordMatrix). m.cols) c.loop-n.invariant.digits, column_inside l i c.cols.ensures.layout inside)

pub loop-n-preserved-then-i-count : goal.loop-n-preserved-then-i-count
loop-n-preserved-then-i-count g c =
    let l : Shape = c.args.layout.now in
    let n : ℕ = c.loop-n.n in
    let place : n % c.cols-cols.result * c.groups-in-loop-n.result + n / c.cols-cols.result ≡ n % digit_cols l * l.groups + n / digit_cols l =
    ap (λ k. n % k * c.groups-in-loop-n.result + n / k) c.cols-cols.ensures.value
    ∙ ap (λ k. n % digit_cols l * k + n / digit_cols l) c.groups-in-loop-n.ensures.value in
    record {
      digits = c.loop-n.invariant.digits
          ∙ no_record l (records_in l c.args.bytes.now) n c.cols.ensures.layout (omega (arith, c.if-i-count.true, c.count.ensures.value, place));
      room = c.loop-n.invariant.room;
    }

pub loop-n-preserved : goal.loop-n-preserved
loop-n-preserved g c =
    let l : Shape = c.args.layout.now in
    let xs : List (List ℕ) = records_in l c.args.bytes.now in
    let n : ℕ = c.loop-n.n in
    let layout = c.cols.ensures.layout in
    let i : ℕ = n % c.cols-cols.result * c.groups-in-loop-n.result + n / c.cols-cols.result in
    let place : i ≡ n % digit_cols l * l.groups + n / digit_cols l =
    ap (λ k. n % k * c.groups-in-loop-n.result + n / k) c.cols-cols.ensures.value
    ∙ ap (λ k. n % digit_cols l * k + n / digit_cols l) c.groups-in-loop-n.ensures.value in
    let turns : c.groups.result * c.cols-cols.result ≡ l.groups * digit_cols l = ap₂ ◌*◌ c.groups.ensures.value c.cols-cols.ensures.value in
    let below : n < l.groups * digit_cols l = omega (arith, c.loop-n-test.true, turns) in
    let turn : turn_of l i ≡ n = ap (turn_of l) place ∙ turn_is l n layout below in
    let inside : i < l.count = omega (arith, c.if-i-count.false, c.count.ensures.value) in
    let new : WordMatrix = g.S.DigitStore.digits c.write_digits.new.digits in
    let packed : c.deref.result.now ≡ record_digits l (record_at xs i) =
    let out : List ℕ = c.pack.new.out in
    let long : length out ≡ digits_per_record l = ap length c.pack.ensures.digits ∙ length-record_digits l c.nth_record.result.now in
    c.deref.ensures.value ∙ with_items_is c.loop-n.packed out (long ∙ sym c.loop-n.invariant.room) ∙ c.pack.ensures.digits
    ∙ ap (record_digits l) c.nth_record.ensures.value in
    let w : WritesColumn (digit_matrix l (records_before l xs n)) new (first_row l i) (column_of l i) (record_digits l (record_at xs i)) =
    written_as (g.S.DigitStore.digits c.loop-n.store) _ new c.place-first.result.0 _ c.place-first.result.1 _ c.deref.result.now _ c.loop-n.invariant.digits
    (ap (λ p. p.0) c.place-first.ensures.value) (ap (λ p. p.1) c.place-first.ensures.value) packed c.write_digits.ensures in
    record {
      digits = record_written l (records_before l xs n) (records_before l xs (n + 1)) i (record_at xs i) new (shape_of_layout l layout) inside
          (written_at l xs (n + 1) i inside (omega (arith, turn)))
          (λ k apart. others_as_before l xs n k layout (λ e. apart (e ∙ sym place))) w;
      room = c.loop-n.invariant.room;
    }

pub returns : goal.returns
returns g c =
    let l : Shape = c.args.layout.now in
    let xs : List (List ℕ) = records_in l c.args.bytes.now in
    let count : length xs ≡ l.count = length-list_of l.count (λ i. take l.record_len (drop (i * l.record_len) c.args.bytes.now)) in
    let turns : c.groups.result * c.cols-cols.result ≡ l.groups * digit_cols l = ap₂ ◌*◌ c.groups.ensures.value c.cols-cols.ensures.value in
    c.loop-n.invariant.digits ∙ all_before l xs c.loop-n.n c.cols.ensures.layout count (omega (arith, turns, c.loop-n-test.false))
