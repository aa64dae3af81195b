use Rattle.std.proofs.Common.{◌≡◌, ◌≤◌, ℕ, List, arith, ap, sym, subst, ◌∙◌, length}
use Rattle.std.proofs.lemmas.List.{with_items_is}
use Rattle.matrix_u32.specs.Matrix.{WordMatrix, transpose}
use Rattle.digit_pack.specs.Digits.{decomposed}
use Rattle.digit_pack.specs.Layout.{Shape}
use Rattle.double_scheme.specs.Double.{one_column}
use Rattle.double_scheme.specs.Steps.{IsMadeUntil}
use Rattle.double_scheme.specs.declared.steps.AnswerSteps.{AnswerSteps}
use Rattle.double_scheme.specs.declared.steps.AnswerStage.{AnswerStage}
use Rattle.double_scheme.proofs.StepLemmas.{column_begun}
use Rattle.double_scheme.proofs.steps.AnswerSteps.make_column.Goals as goal

pub returns-clause-so_far : goal.returns-clause-so_far
returns-clause-so_far g c h =
    let s : AnswerSteps = c.args.self.now in
    let t : AnswerSteps = c.make_first.new.self in
    let l : Shape = s.layout in
    let d : WordMatrix = g.S.DigitStore.digits c.args.digits.now in
    let a2 : WordMatrix = c.args.a2.now in
    let query : List ℕ = c.args.query.now in
    let column : List ℕ = c.put_column_rows-now_made.new.column in
    let long : length column ≡ length s.column.items = c.put_column_rows-now_made.ensures.len ∙ ap length c.deref_mut.ensures.value in
    let room : length column ≡ d.rows = long ∙ c.requires.room.column_len ∙ sym c.requires.rows in
    let first : t.first ≡ decomposed l.width (transpose (one_column column)) =
    c.make_first.ensures.first
    ∙ ap (λ (ws : List ℕ). decomposed l.width (transpose (one_column ws))) (with_items_is s.column column (long ∙ sym s.column.ok.0)) in
    let all : c.put_column_rows-now_made.result ≡ d.rows =
    omega (arith, c.if-now_made-rows.false, c.rows.ensures.value, c.requires.rows, c.put_column_rows-now_made.ensures.within) in
    record {
      room = c.make_first.ensures.room;
      made = subst (λ (stage : AnswerStage). IsMadeUntil l d h a2 query t stage) (sym c.make_first.ensures.stage)
          (column_begun l d h a2 query column t c.put_column_rows-now_made.result c.requires.query c.requires.cols room c.put_column_rows-now_made.ensures.so_far all
          c.make_first.ensures.room first c.make_first.ensures.hint);
    }
