use Rattle.std.proofs.Common.{◌≡◌, ℕ, ◌+◌, ◌*◌, ◌<◌, List, arith, ap, ◌∙◌, sym, refl, below_more, length, take, drop}
use Rattle.std.proofs.lemmas.List.{length-set}
use Rattle.std.specs.Prelude.{slice_index}
use Rattle.matrix_u32.specs.Matrix.{WordMatrix, entry, row, with_entry, IsWhole}
use Rattle.matrix_u32.proofs.Changes.{entry_kept, entry_set}
use Rattle.lane_kernels.specs.Digit.{split_count}
use Rattle.double_scheme.specs.Double.{answer_part_count, answer_part, server_hint_words, second_word}
use Rattle.double_scheme.proofs.Reading.{words_for_the_row}
use Rattle.double_scheme.proofs.records.read_column.Goals as goal

pub set-requires-clause-row : goal.set-requires-clause-row
set-requires-clause-row g c = omega (arith, c.loop-d-test.true, c.rows-d-end.ensures.value, c.requires.out_rows, c.loop-d.invariant.rows)

pub set-requires-clause-col : goal.set-requires-clause-col
set-requires-clause-col g c = omega (arith, c.requires.inside, c.requires.out_cols, c.loop-d.invariant.cols)

pub loop-d-init : goal.loop-d-init
loop-d-init g c = record {
  rows = refl;
  cols = refl;
  whole = c.rows-rows.ensures.whole;
  here = λ i l. absurd (omega arith);
  others = λ i j p q d. refl;
}

pub loop-d-preserved : goal.loop-d-preserved
loop-d-preserved g c =
    let w : ℕ = c.args.reading.now.w in
    let n : ℕ = c.args.client_hint.now.cols in
    let k : ℕ = c.args.k in
    let d : ℕ = c.loop-d.d in
    let before : WordMatrix = c.loop-d.out in
    let word : ℕ = c.read_word-word.result in
    let prefix : c.rows-prefix.result ≡ n * split_count w = c.rows-prefix.ensures.value ∙ c.requires.rows in
    let size : c.rows-prefix.result + c.split_count.result ≡ answer_part_count w n = omega (arith, prefix, c.split_count.ensures) in
    let words : c.chunk_of-words.result.now ≡ server_hint_words w n (answer_part w n c.args.reading.now.answer.now d) =
    c.chunk_of-words.ensures.value ∙ words_for_the_row w n c.args.reading.now.answer.now d _ _ prefix size in
    let read : word ≡ second_word w c.args.client_hint.now (row c.args.reading.now.secrets.now d) (server_hint_words w n (answer_part w n c.args.reading.now.answer.now d)) k =
    c.read_word-word.ensures
    ∙ ap (λ (s : List ℕ). second_word w c.args.client_hint.now s c.chunk_of-words.result.now k) c.row.ensures.value
    ∙ ap (λ (ws : List ℕ). second_word w c.args.client_hint.now (row c.args.reading.now.secrets.now d) ws k) words in
    let inside : k < before.cols = omega (arith, c.requires.inside, c.requires.out_cols, c.loop-d.invariant.cols) in
    let here : d < before.rows = omega (arith, c.loop-d-test.true, c.rows-d-end.ensures.value, c.requires.out_rows, c.loop-d.invariant.rows) in
    let at : (i j : ℕ) → entry c.set.new.self i j ≡ entry (with_entry before d k word) i j = λ i j. ap (λ (m : WordMatrix). entry m i j) c.set.ensures in
    record {
      rows = ap (λ (m : WordMatrix). m.rows) c.set.ensures ∙ c.loop-d.invariant.rows;
      cols = ap (λ (m : WordMatrix). m.cols) c.set.ensures ∙ c.loop-d.invariant.cols;
      whole = ap (λ (m : WordMatrix). length m.words) c.set.ensures ∙ length-set _ _ _ ∙ c.loop-d.invariant.whole ∙ sym (ap (λ (m : WordMatrix). m.rows * m.cols) c.set.ensures);
      here = below_more _ _
          (λ i l. at i k ∙ entry_kept before d k word i k inside inside (λ e. absurd (omega (arith, e.0, l))) ∙ c.loop-d.invariant.here i l)
          (at d k ∙ entry_set before d k word c.loop-d.invariant.whole here inside ∙ read);
      others = λ i j p q differ. at i j ∙ entry_kept before d k word i j inside (omega (arith, q, c.loop-d.invariant.cols)) (λ e. differ e.1)
          ∙ c.loop-d.invariant.others i j p q differ;
    }
