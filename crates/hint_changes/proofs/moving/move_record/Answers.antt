use Rattle.std.proofs.Common.{arith, ap, ◌∙◌, ◌≡◌, ℕ, List}
use Rattle.seed_expand.specs.Words.{public_rows}
use Rattle.digit_pack.specs.Layout.{Shape, IsShape, column_of, digit_cols}
use Rattle.digit_pack.proofs.RecordLemmas.{shape_of_layout}
use Rattle.hint_changes.specs.Changes.{ChangedRecord, RowOfPublic}
use Rattle.hint_changes.proofs.OneRecord.{record_moved, word_of_row}
use Rattle.hint_changes.proofs.moving.move_record.Goals as goal

pub returns-clause-hint : goal.returns-clause-hint
returns-clause-hint g c =
    let l : Shape = c.args.layout.now in
    let seed : List ℕ = c.args.public.now.seed in
    let n : ℕ = c.args.public.now.dimension in
    let shape : IsShape l = shape_of_layout l c.cols.ensures.layout in
    let one : c.words.result.now ≡ public_rows seed 0 (column_of l c.args.index) 1 n =
    c.words.ensures ∙ ap (λ (r : RowOfPublic). public_rows r.seed 0 r.column 1 r.dimension) c.turn_to.ensures
    ∙ ap (λ j. public_rows seed 0 j 1 n) (ap (λ p. p.1) c.place-first.ensures.value) in
    let change : ChangedRecord = record { index = c.args.index; old = c.args.old.now; new = c.args.new.now } in
    record_moved l (public_rows seed 0 0 (digit_cols l) n) c.args.hint.now c.move_digits.new.hint c.words.result.now change c.place-first.result.0 shape
    (ap (λ p. p.0) c.place-first.ensures.value) c.requires.rows c.move_digits.ensures
    (λ k h. word_of_row l seed n c.args.index k c.words.result.now shape c.requires.index one (omega (arith, h, c.requires.cols)))
