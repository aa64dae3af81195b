use Rattle.std.proofs.Common.{◌+◌, ◌<◌, arith, sym, subst, ℕ, length}
use Rattle.std.specs.Prelude.{slice_set}
use Rattle.matrix_u32.specs.Matrix.{WordMatrix}
use Rattle.digit_pack.proofs.ColumnLemmas.{SwapsFirst, one_swapped}
use Rattle.digit_pack.proofs.store.DigitStore.swap_digits.Goals as goal

pub loop-b-preserved : goal.loop-b-preserved
loop-b-preserved g c =
    let b : ℕ = c.loop-b.b in
    let old : WordMatrix = g.Self.DigitStore.digits c.args.self.now in
    let inside : b < length c.args.others.now = omega (arith, c.loop-b-test.true, c.loop-b.auto.b-end) in
    let here : c.args.first + b < old.rows = omega (arith, inside, c.requires.rows) in
    subst (λ m. SwapsFirst old m c.args.first c.args.j (b + 1) c.args.others.now (slice_set c.loop-b.others b c.get-digit.result)) (sym c.set.ensures)
    (one_swapped old (g.Self.DigitStore.digits c.loop-b.self) c.args.first c.args.j b c.get-digit.result c.args.others.now c.loop-b.others c.loop-b.invariant
    inside here c.requires.col c.get-digit.ensures)
