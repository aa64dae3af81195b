use Rattle.std.proofs.Common.{◌≡◌, ◌+◌, ◌*◌, ◌≤◌, ◌<◌, ℕ, List, arith, ap, refl, sym, subst, ◌∙◌, length, take}
use Rattle.std.proofs.lemmas.List.{with_items_is}
use Rattle.lane_kernels.specs.Digit.{split_count}
use Rattle.matrix_u32.specs.Matrix.{WordMatrix, times_vector}
use Rattle.digit_pack.specs.Layout.{Shape, digit_cols, digits_per_record}
use Rattle.double_scheme.specs.Double.{double_answer, first_answer_of, part_of_query, answer_part_count}
use Rattle.double_scheme.specs.Steps.{HasFirst, HasStepsBuffers}
use Rattle.double_scheme.specs.declared.steps.AnswerSteps.{AnswerSteps}
use Rattle.double_scheme.proofs.StepLemmas.{no_part_rows, part_further, parts_joined, room_after}
use Rattle.double_scheme.proofs.steps.AnswerSteps.end_parts.Goals as goal

pub returns-clause-so_far : goal.returns-clause-so_far
returns-clause-so_far g c d a2 cols first_is so_far =
    let s : AnswerSteps = c.args.self.now in
    let l : Shape = s.layout in
    let h : WordMatrix = g.S.DigitStore.digits c.args.server_hint.now in
    let query : List ℕ = c.args.query.now in
    let room : HasStepsBuffers l a2.cols s = subst (λ n. HasStepsBuffers l n s) (sym cols) c.requires.room in
    let x : _ = with_items_is s.x c.end_both-next.new.x (c.end_both-next.ensures.x_len ∙ ap length c.deref_mut.ensures.value ∙ sym s.x.ok.0) in
    let y : _ = with_items_is s.y c.end_both-next.new.y (c.end_both-next.ensures.y_len ∙ ap length c.deref_mut-2.ensures.value ∙ sym s.y.ok.0) in
    let words : _ = with_items_is s.words c.end_both-next.new.words (c.end_both-next.ensures.words_len ∙ ap length c.deref_mut-3.ensures.value ∙ sym s.words.ok.0) in
    let len : length c.deref_mut.result.now ≡ answer_part_count l.width a2.cols = ap length c.deref_mut.ensures.value ∙ room.x_len in
    let before : HasFirst (a2.cols * split_count l.width + c.args.part * answer_part_count l.width a2.cols) (double_answer l d h a2 query) c.deref_mut-3.result.now =
    subst (HasFirst (a2.cols * split_count l.width + c.args.part * answer_part_count l.width a2.cols) (double_answer l d h a2 query)) (sym c.deref_mut-3.ensures.value)
    so_far in
    record {
      room = room_after l a2.cols s _ room refl refl refl refl
          (ap length words ∙ c.end_both-next.ensures.words_len ∙ ap length c.deref_mut-3.ensures.value)
          (ap length x ∙ c.end_both-next.ensures.x_len ∙ ap length c.deref_mut.ensures.value)
          (ap length y ∙ c.end_both-next.ensures.y_len ∙ ap length c.deref_mut-2.ensures.value);
      made = record {
        rows = no_part_rows l h query _ c.end_both-next.result c.end_both-next.ensures.next;
        first_is = first_is;
        so_far = subst (HasFirst (a2.cols * split_count l.width + c.end_both-next.result * answer_part_count l.width a2.cols) (double_answer l d h a2 query)) (sym words)
            (parts_joined l d h a2 s.first query c.deref_mut-3.result.now c.end_both-next.new.words c.args.part c.end_both-next.result (length c.deref_mut.result.now)
            (c.requires.server_rows ∙ ap (λ n. n * split_count l.width) (sym cols)) room.first_rows first_is len c.end_both-next.ensures.joined before);
      };
    }

pub returns-clause-forward : goal.returns-clause-forward
returns-clause-forward g c r within =
    part_further c.args.self.now.layout (g.S.DigitStore.digits c.args.server_hint.now).rows c.args.part r c.end_both-next.result within c.end_both-next.ensures.further
