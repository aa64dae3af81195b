use Rattle.std.proofs.Common.{◌≡◌, ℕ, ◌+◌, ◌-◌, ◌%◌, ◌^◌, ◌<◌, arith, ap, ◌∙◌, sym, subst, inl, inr, List, length}
use Rattle.std.proofs.lemmas.Bool.{cases_eq}
use Rattle.std.proofs.lemmas.List.{length-set}
use Rattle.std.specs.Prelude.{slice_index}
use Rattle.matrix_u32.specs.Matrix.{WordMatrix, IsWhole, entry, with_entry}
use Rattle.matrix_u32.proofs.Changes.{entry_kept, entry_set}
use Rattle.hint_update.proofs.rows.put_differences.Goals as goal

pub loop-b-preserved : goal.loop-b-preserved
loop-b-preserved c =
    let b : ℕ = c.loop-b.b in
    let k : ℕ = c.args.k in
    let new : List ℕ = c.args.new.now in
    let old : List ℕ = c.args.old.now in
    let before : WordMatrix = c.loop-b.changes in
    let below : b < length new = omega (arith, c.loop-b-test.true, c.loop-b.auto.b-end) in
    let room : k < before.cols = omega (arith, c.requires.place, c.loop-b.invariant.cols) in
    let high : b < before.rows = omega (arith, below, c.requires.room, c.loop-b.invariant.rows) in
    let number : ℕ = (slice_index new b + (2 ^ 32 - slice_index old b)) % 2 ^ 32 in
    let after : c.set.new.self ≡ with_entry before b k number = c.set.ensures in
    record {
      rows = ap (λ (m : WordMatrix). m.rows) after ∙ c.loop-b.invariant.rows;
      cols = ap (λ (m : WordMatrix). m.cols) after ∙ c.loop-b.invariant.cols;
      whole = subst IsWhole (sym after) (length-set _ _ _ ∙ c.loop-b.invariant.whole);
      differences = λ i l. ap (λ m. entry m i k) after ∙ elim (cases_eq i b) [
        | inl e ↦ ap (λ i. entry (with_entry before b k number) i k) e ∙ entry_set before b k number c.loop-b.invariant.whole high room
            ∙ ap (λ i. (slice_index new i + (2 ^ 32 - slice_index old i)) % 2 ^ 32) (sym e)
        | inr apart ↦ entry_kept before b k number i k room room (λ x. apart x.0) ∙ c.loop-b.invariant.differences i (omega (arith, l, apart))
      ];
      others = λ i q other l.
          ap (λ m. entry m i q) after ∙ entry_kept before b k number i q room (omega (arith, l, c.loop-b.invariant.cols)) (λ x. other x.1)
          ∙ c.loop-b.invariant.others i q other l;
    }
