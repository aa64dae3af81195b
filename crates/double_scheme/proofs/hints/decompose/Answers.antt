use Rattle.std.proofs.Common.{arith, ap, sym, ◌∙◌, ◌≡◌, ℕ, List, ◌+◌, ◌*◌, ◌/◌, ◌%◌, ◌<◌, ◌≤◌, length}
use Rattle.std.proofs.lemmas.List.{with_items_is}
use Rattle.std.proofs.lemmas.Nat.{div_below}
use Rattle.matrix_u32.specs.Matrix.{WordMatrix, column, transpose}
use Rattle.matrix_u32.proofs.Products.{length-list_of}
use Rattle.matrix_u32.specs.Matrix.{entry}
use Rattle.lane_kernels.specs.Digit.{split_count, split_words}
use Rattle.digit_pack.specs.Digits.{decomposed, decomposed_at}
use Rattle.digit_pack.proofs.DigitSums.{split_some}
use Rattle.simple_scheme.proofs.Rows.{more_rows, all_rows}
use Rattle.double_scheme.proofs.Answering.{same_column, digits_of_column}
use Rattle.double_scheme.proofs.hints.decompose.Goals as goal

pub loop-r-preserved : goal.loop-r-preserved
loop-r-preserved g c =
    let w : ℕ = c.args.w in
    let a : WordMatrix = c.args.a.now in
    let n : ℕ = split_count w in
    let r : ℕ = c.loop-r.r in
    let p = c.put_digit_row.ensures in
    let some : 0 < n = split_some w (omega arith) in
    let rows : c.in-Some.rows ≡ a.cols * n =
    omega (arith, c.in-Some.ensures, ap (λ k. k * c.split_count-count.result) c.cols.ensures, ap (λ k. a.cols * k) c.split_count-count.ensures) in
    let inside : r < a.cols * n = omega (arith, rows, c.loop-r-test.true) in
    let low : r / n < a.cols = div_below r n a.cols some inside in
    let words : List ℕ = c.turn_to_row.new.words in
    let long : length words ≡ a.rows = ap length c.turn_to_row.ensures ∙ length-list_of a.rows (λ i. entry a i (r / n)) in
    let held = with_items_is c.loop-r.words words (long ∙ sym c.loop-r.invariant.room) in
    record {
      rows = more_rows (decomposed w (transpose a)) (g.S.DigitStore.digits c.loop-r.store) (g.S.DigitStore.digits c.put_digit_row.new.store)
          r (r + 1) p.shape
          (λ i le lt. let e : i ≡ r = omega arith in
          rw e (p.written ∙ ap (split_words w (r % n)) (c.deref.ensures.value ∙ held ∙ c.turn_to_row.ensures) ∙ digits_of_column w r a inside low)) p.kept
          c.loop-r.invariant.rows;
      room = c.loop-r.invariant.room;
      before = λ more. held ∙ c.turn_to_row.ensures ∙ ap (column a) (sym (same_column r n some more));
    }

pub returns : goal.returns
returns g c =
    let w : ℕ = c.args.w in
    let a : WordMatrix = c.args.a.now in
    let count : c.in-Some.rows ≡ a.cols * split_count w =
    omega (arith, c.in-Some.ensures, ap (λ n. n * c.split_count-count.result) c.cols.ensures, ap (λ n. a.cols * n) c.split_count-count.ensures) in
    let last : a.cols * split_count w ≤ c.loop-r.r = omega (arith, count, c.loop-r-test.false) in
    all_rows (a.cols * split_count w) a.rows c.loop-r.r (decomposed_at w (transpose a)) (g.S.DigitStore.digits c.loop-r.store) last c.loop-r.invariant.rows
