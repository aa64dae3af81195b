use Rattle.std.proofs.Common.{◌≡◌, ◌∙◌, ◌+◌, ◌-◌, ◌*◌, ◌≤◌, ◌++◌, ℕ, List, length, take, drop, ap, arith}
use Rattle.std.proofs.Math.Nat.{mul-le-mul_left}
use Rattle.digit_pack.specs.Layout.{Shape, digit_matrix, record_at, records_in}
use Rattle.digit_pack.proofs.Limits.{few_bytes}
use Rattle.version_store.specs.KeptRecords.{counted, records_over}
use Rattle.version_store.proofs.Blocks.{columns_are, run_end, record_of_run, in_columns, long_block, block_begun, block_ended, block_more, block_skipped}
use Rattle.version_store.proofs.digit_records.write_block.Goals.{then-begin-end, else-begin-end}
use Rattle.version_store.proofs.digit_records.write_block.Goals as goal

pub loop-n-init : goal.loop-n-init
loop-n-init c =
    let l : Shape = c.args.layout.now in
    let k : ℕ = c.args.count in
    record {
      rows = c.requires.rows;
      cols = c.requires.cols;
      so_far = λ xs long is.
          is
          ∙ block_begun l k xs (records_in (counted l k) c.args.bytes.now) c.groups-groups.ensures.layout (omega (arith, long, c.requires.inside)) c.args.from
          c.args.to c.requires.groups.0 c.requires.groups.1;
    }

pub overflow_add-first : goal.overflow_add-first
overflow_add-first c =
    let l : Shape = c.args.layout.now in
    let each : l.count * 1 ≤ l.count * l.record_len = mul-le-mul_left l.count c.groups-groups.ensures.layout.record_len.0 in
    omega (arith, c.requires.inside, c.min-end.ensures, c.if-begin-end.true, each, few_bytes l c.groups-groups.ensures.layout)

pub slice_bounds-run-end : goal.slice_bounds-run-end
slice_bounds-run-end c =
    let begin : ℕ = c.loop-n.n * c.groups-groups.result + c.args.from in
    omega (
      arith,
      run_end begin (c.min-end.result - begin) c.args.count c.record_len-len.result c.args.layout.now.record_len (length c.args.bytes.now)
          (omega (arith, c.min-end.ensures, c.if-begin-end.true)) c.record_len-len.ensures.value c.requires.len,
    )

pub loop-n-preserved : goal.loop-n-preserved
loop-n-preserved c =
    let l : Shape = c.args.layout.now in
    let k : ℕ = c.args.count in
    let n : ℕ = c.loop-n.n in
    let from : ℕ = c.args.from in
    let ys : List (List ℕ) = records_in (counted l k) c.args.bytes.now in
    let whole : n * c.groups-groups.result ≡ n * l.groups = ap (λ x. n * x) c.groups-groups.ensures.value in
    let begin : ℕ = n * c.groups-groups.result + from in
    let begins : begin ≡ n * l.groups + from = omega (arith, whole) in
    let many : ℕ = c.min-end.result - begin in
    record {
      rows = elim c.if-begin-end.branch [
        | then-begin-end w ↦ ap (λ m. m.rows) w.digits-is ∙ w.write_run.ensures.rows
        | else-begin-end w ↦ ap (λ m. m.rows) w.digits-is ∙ c.loop-n.invariant.rows
      ];
      cols = elim c.if-begin-end.branch [
        | then-begin-end w ↦ ap (λ m. m.cols) w.digits-is ∙ w.write_run.ensures.cols
        | else-begin-end w ↦ ap (λ m. m.cols) w.digits-is ∙ c.loop-n.invariant.cols
      ];
      so_far = λ xs long is.
          let few : length xs + k ≤ l.count = omega (arith, long, c.requires.inside) in
          let block : List (List ℕ) = xs ++ in_columns (counted l k) ys from c.args.to n in
          elim c.if-begin-end.branch [
            | then-begin-end w ↦
                let r : ℕ = c.record_len-len.result in
                let zs : List (List ℕ) = records_in (counted l many) (take (begin * r + many * r - begin * r) (drop (begin * r) c.args.bytes.now)) in
                w.digits-is
                ∙ w.write_run.ensures.written block
                (long_block l k xs ys c.groups-groups.ensures.layout few from c.args.to c.requires.groups.0 c.requires.groups.1 n)
                (c.loop-n.invariant.so_far xs long is)
                ∙ ap (λ m. digit_matrix l (records_over l block m many zs)) (omega (arith, long, begins))
                ∙ block_more l k xs ys c.groups-groups.ensures.layout few from c.args.to c.requires.groups.0 c.requires.groups.1 n many zs
                (λ q ge lt. omega (arith, c.min-end.ensures, w.if-begin-end.true, begins, whole, ge, lt))
                (λ i lt. (
                  omega (arith, c.min-end.ensures, w.if-begin-end.true, begins, lt),
                  omega (arith, c.min-end.ensures, w.if-begin-end.true, begins, lt),
                  record_of_run l k many begin i c.record_len-len.result c.args.bytes.now c.record_len-len.ensures.value
                      (omega (arith, c.min-end.ensures, w.if-begin-end.true)) lt
                      ∙ ap (λ b. record_at ys (b + i)) begins,
                ))
            | else-begin-end w ↦
                w.digits-is
                ∙ c.loop-n.invariant.so_far xs long is
                ∙ block_skipped l k xs ys c.groups-groups.ensures.layout few from c.args.to c.requires.groups.0 c.requires.groups.1 n
                (λ q ge lt. omega (arith, c.min-end.ensures, w.if-begin-end.false, begins, whole, ge, lt))
          ];
    }

pub returns-clause-written : goal.returns-clause-written
returns-clause-written c =
    let l : Shape = c.args.layout.now in
    let k : ℕ = c.args.count in
    let ys : List (List ℕ) = records_in (counted l k) c.args.bytes.now in
    λ xs long is.
    c.loop-n.invariant.so_far xs long is
    ∙ block_ended l k xs ys c.groups-groups.ensures.layout (omega (arith, long, c.requires.inside)) c.args.from c.args.to c.requires.groups.0
    c.requires.groups.1 c.loop-n.n (omega (arith, c.loop-n-test.false, columns_are k c.groups-groups.result l.groups c.groups-groups.ensures.value))
