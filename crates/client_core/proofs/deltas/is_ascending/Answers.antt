use Rattle.std.proofs.Common.{◌≡◌, ℕ, ◌<◌, List, length, get_or, sym, ◌∙◌, arith}
use Rattle.frame_codec.specs.Rows.{row_count}
use Rattle.client_core.specs.Replies.{row_numbers}
use Rattle.client_core.proofs.MovedRows.{length-numbers, numbers-at, ascending_step, ascending_falls, ascending_leaves, ascending_ends}
use Rattle.client_core.proofs.deltas.is_ascending.Goals.{then-number-from-via-then-number-from, then-number-from-via-else-number-from+then-number-limit}
use Rattle.client_core.proofs.deltas.is_ascending.Goals as goal

pub returns-then-number-from : goal.returns-then-number-from
returns-then-number-from c =
    let numbers : List ℕ = row_numbers c.args.rows.now in
    let lt : c.loop-j.j < row_count c.args.rows.now = omega arith in
    let within : c.loop-j.j < length numbers = omega (arith, length-numbers c.args.rows.now) in
    let here : get_or numbers c.loop-j.j 0 ≡ c.row-number.result.0 = numbers-at c.args.rows.now c.loop-j.j lt ∙ sym c.row-number.ensures.number in
    sym (c.loop-j.invariant ∙ elim c.then-number-from.branch [
      | then-number-from-via-then-number-from w ↦ ascending_falls c.loop-j.from c.args.limit c.loop-j.j c.row-number.result.0 numbers within here (omega arith)
      | then-number-from-via-else-number-from+then-number-limit w ↦
          ascending_leaves c.loop-j.from c.args.limit c.loop-j.j c.row-number.result.0 numbers within here (omega arith) (omega arith)
    ])

pub loop-j-preserved : goal.loop-j-preserved
loop-j-preserved c =
    let numbers : List ℕ = row_numbers c.args.rows.now in
    let lt : c.loop-j.j < row_count c.args.rows.now = omega arith in
    let within : c.loop-j.j < length numbers = omega (arith, length-numbers c.args.rows.now) in
    let here : get_or numbers c.loop-j.j 0 ≡ c.row-number.result.0 = numbers-at c.args.rows.now c.loop-j.j lt ∙ sym c.row-number.ensures.number in
    c.loop-j.invariant ∙ ascending_step c.loop-j.from c.args.limit c.loop-j.j c.row-number.result.0 numbers within here (omega arith) (omega arith)

pub returns : goal.returns
returns c =
    sym (c.loop-j.invariant
    ∙ ascending_ends c.loop-j.from c.args.limit c.loop-j.j (row_numbers c.args.rows.now) (omega (arith, length-numbers c.args.rows.now)))
