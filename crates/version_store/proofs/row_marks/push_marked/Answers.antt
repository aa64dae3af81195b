use Rattle.std.proofs.Common.{◌++◌, ◌∷◌, [], ℕ, List, arith, ap, sym, ◌∙◌, append_assoc, filter, Bool}
use Rattle.std.specs.List.{range_with_len}
use Rattle.version_store.specs.Editions.{is_marked}
use Rattle.version_store.proofs.ListedRows.{marked_more, marked_kept}
use Rattle.version_store.proofs.row_marks.push_marked.Goals as goal
use Rattle.version_store.proofs.row_marks.push_marked.Goals.{then-marks-r, else-marks-r}

pub loop-r-preserved : goal.loop-r-preserved
loop-r-preserved c =
    let marks : List Bool = c.args.marks.now in
    let r : ℕ = c.loop-r.r in
    let old : List ℕ = c.args.rows.now.items in
    let before : List ℕ = filter (is_marked marks) (range_with_len 0 r) in
    elim c.if-marks-r.branch [
      | then-marks-r w ↦ rw w.rows-is (record {
        items = w.push_reserved.ensures.items ∙ ap (λ (xs : List ℕ). xs ++ r ∷ []) c.loop-r.invariant.items ∙ append_assoc old before (r ∷ [])
            ∙ ap (λ (xs : List ℕ). old ++ xs) (sym (marked_more marks r w.if-marks-r.true));
        room = omega (arith, c.loop-r.invariant.room, w.push_reserved.ensures.len, w.push_reserved.ensures.capacity);
      })
      | else-marks-r w ↦ rw w.rows-is (record {
        items = c.loop-r.invariant.items ∙ ap (λ (xs : List ℕ). old ++ xs) (sym (marked_kept marks r w.if-marks-r.false));
        room = omega (arith, c.loop-r.invariant.room);
      })
    ]
