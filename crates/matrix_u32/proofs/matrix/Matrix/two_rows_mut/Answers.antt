use Rattle.std.proofs.Common.{◌≡◌, ◌*◌, ◌+◌, ◌-◌, ◌≤◌, ◌<◌, ◌∙◌, ℕ, refl, sym, ap, length, arith, List, ◌++◌}
use Rattle.std.proofs.lemmas.Nat.{row_fits}
use Rattle.std.proofs.lemmas.Simd.{length-chunk}
use Rattle.matrix_u32.specs.Matrix.{WordMatrix, row}
use Rattle.matrix_u32.proofs.Rows.{overwritten_cut, two_rows}
use Rattle.matrix_u32.proofs.matrix.Matrix.two_rows_mut.Goals as goal

pub returns : goal.returns
returns c =
    let inside = c.self.inside in
    let at = c.args.i * inside.cols in
    let t : List ℕ → WordMatrix = λ e. record { rows = inside.rows; cols = inside.cols; words = e } in
    let below : c.args.i + 1 < inside.rows = rw (← c.self.view_is) at c.requires in
    let next : (c.args.i + 1) * inside.cols ≡ at + inside.cols = omega arith in
    let fits : (c.args.i + 1) * inside.cols + inside.cols ≤ inside.rows * inside.cols =
    row_fits (c.args.i + 1) inside.cols inside.rows inside.cols below (omega arith) in
    let size : length inside.words.items ≡ inside.rows * inside.cols = c.self.invariant.0 in
    let room : at + (inside.cols + inside.cols) ≤ length inside.words.items = omega (arith, fits, size, next) in
    let cut : at + inside.cols + inside.cols - at ≡ inside.cols + inside.cols = omega arith in (
      (
        refl,
        λ w. rw (← c.self.view_is)
            (ap t (overwritten_cut inside.words.len at w inside.words.items (sym inside.words.ok.0) (omega (arith, room, inside.words.ok.0)))),
      ),
      record {
        writes_back = tt;
        value = c.slice_mut.ensures.value ∙ rw cut (two_rows (t inside.words.items) c.args.i size below)
            ∙ ap (λ m. row m c.args.i ++ row m (c.args.i + 1)) c.self.view_is;
        count = rw (c.slice_mut.ensures.value, ← c.self.view_is, cut) (length-chunk at (inside.cols + inside.cols) inside.words.items room);
      },
    )
