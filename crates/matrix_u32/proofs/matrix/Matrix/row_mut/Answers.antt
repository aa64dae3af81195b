use Rattle.std.proofs.Common.{◌≡◌, ◌*◌, ◌+◌, ◌-◌, ◌≤◌, ◌<◌, ◌∙◌, ℕ, refl, sym, ap, length, arith, List}
use Rattle.std.proofs.lemmas.Nat.{row_fits}
use Rattle.std.proofs.lemmas.Simd.{length-chunk}
use Rattle.matrix_u32.specs.Matrix.{WordMatrix, row}
use Rattle.matrix_u32.proofs.Products.{piece-list_of}
use Rattle.matrix_u32.proofs.Rows.{overwritten_cut}
use Rattle.matrix_u32.proofs.matrix.Matrix.row_mut.Goals as goal

pub returns : goal.returns
returns c =
    let inside = c.self.inside in
    let at = c.args.i * inside.cols in
    let t : List ℕ → WordMatrix = λ e. record { rows = inside.rows; cols = inside.cols; words = e } in
    let below : c.args.i < inside.rows = rw (← c.self.view_is) at c.requires in
    let fits : at + inside.cols ≤ inside.rows * inside.cols = row_fits c.args.i inside.cols inside.rows inside.cols below (omega arith) in
    let size : length inside.words.items ≡ inside.rows * inside.cols = c.self.invariant.0 in
    let room : at + inside.cols ≤ length inside.words.items = omega (arith, fits, size) in
    let cut : at + inside.cols - at ≡ inside.cols = omega arith in (
      (
        refl,
        λ w. rw (← c.self.view_is)
            (ap t (overwritten_cut inside.words.len at w inside.words.items (sym inside.words.ok.0) (omega (arith, fits, size, inside.words.ok.0)))),
      ),
      record {
        writes_back = tt;
        value = c.slice_mut.ensures.value ∙ piece-list_of inside.words.items at inside.cols room ∙ ap (λ m. row m c.args.i) c.self.view_is;
        count = rw (c.slice_mut.ensures.value, ← c.self.view_is, cut) (length-chunk at inside.cols inside.words.items room);
      },
    )
