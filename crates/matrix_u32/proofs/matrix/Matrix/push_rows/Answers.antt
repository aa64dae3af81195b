use Rattle.std.proofs.Common.{◌≡◌, ◌/◌, ◌∙◌, ap, subst, length, arith}
use Rattle.matrix_u32.specs.Matrix.{WordMatrix, IsWhole, row, first_rows, with_rows}
use Rattle.matrix_u32.proofs.Growth.{grown_is, first_rows-with_rows, row-with_rows}
use Rattle.matrix_u32.proofs.matrix.Matrix.push_rows.Goals as goal

pub returns-clause-pushed : goal.returns-clause-pushed
returns-clause-pushed c =
    let inside = c.self.inside in
    let m : WordMatrix = record { rows = inside.rows; cols = inside.cols; words = inside.words.items } in
    let count : c.in_ok-rows.rows ≡ length c.args.words.items / inside.cols =
    c.in_ok-rows.ensures.count.0 ∙ ap (λ n. n / inside.cols) (omega (arith, c.args.words.ok.0)) in
    grown_is m c.in_ok-rows.rows c.put_words.new.words.items c.args.words.items count c.in_ok-put_words.ensures.put
    ∙ ap (λ m. with_rows m c.args.words.items) c.self.view_is

pub returns-clause-kept : goal.returns-clause-kept
returns-clause-kept c =
    ap (λ m. first_rows m c.args.self.now.rows) (returns-clause-pushed c)
    ∙ first_rows-with_rows c.args.self.now c.args.words.items (subst IsWhole c.self.view_is c.self.invariant.0)

pub returns-clause-rows_stay : goal.returns-clause-rows_stay
returns-clause-rows_stay c = λ i inside.
    ap (λ m. row m i) (returns-clause-pushed c)
    ∙ row-with_rows c.args.self.now c.args.words.items i (subst IsWhole c.self.view_is c.self.invariant.0) inside
