use Rattle.std.proofs.Common.{◌≡◌, ◌∙◌, List, ℕ, true, sym, ap, arith}
use Rattle.digit_pack.specs.Layout.{digit_rows}
use Rattle.client_core.specs.States.{shape_known}
use Rattle.client_core.specs.Replies.{row_numbers, are_ascending}
use Rattle.client_core.proofs.MovedRows.{length-numbers, other_since, other_dimension, too_many, delta_is_current}
use Rattle.client_core.proofs.deltas.known_after.Goals.{then-since-asked-via-then-since-asked, then-since-asked-via-else-since-asked+then-dimension-known, then-since-asked-via-else-since-asked+else-dimension-known+then-len-gt-DELTA_ROWS}
use Rattle.client_core.proofs.deltas.known_after.Goals as goal

pub returns-then-since-asked : goal.returns-then-since-asked
returns-then-since-asked c =
    let numbers : List ℕ = row_numbers c.args.rows.now in
    elim c.then-since-asked.branch [
      | then-since-asked-via-then-since-asked w ↦
          other_since c.args.known.now c.args.asked c.args.since c.args.now c.args.count c.args.rows.now.dimension numbers (λ e. omega arith)
      | then-since-asked-via-else-since-asked+then-dimension-known w ↦
          other_dimension c.args.known.now c.args.asked c.args.since c.args.now c.args.count c.args.rows.now.dimension numbers (λ e. omega arith)
      | then-since-asked-via-else-since-asked+else-dimension-known+then-len-gt-DELTA_ROWS w ↦
          too_many c.args.known.now c.args.asked c.args.since c.args.now c.args.count c.args.rows.now.dimension numbers
          (omega (arith, length-numbers c.args.rows.now))
    ]

pub returns : goal.returns
returns c =
    let order : are_ascending 0 (digit_rows (shape_known c.args.known.now)) (row_numbers c.args.rows.now) ≡ true =
    ap (λ (l : ℕ). are_ascending 0 l (row_numbers c.args.rows.now)) (ap digit_rows (sym c.layout.ensures.shape) ∙ sym c.rows.ensures.value) ∙ sym c.is_ascending.ensures ∙ c.if-not-is_ascending.false in
    rw (delta_is_current c.args.known.now c.args.asked c.args.since c.args.now c.args.count c.args.rows.now.dimension (row_numbers c.args.rows.now)
    (omega arith) (omega arith) (omega (arith, length-numbers c.args.rows.now)) order) c.current_of.ensures
