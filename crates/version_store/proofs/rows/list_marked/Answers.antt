use Rattle.std.proofs.Common.{◌≡◌, ◌+◌, ◌≤◌, ◌++◌, ◌∷◌, [], ℕ, List, Bool, arith, ap, sym, ◌∙◌, length}
use Rattle.std.proofs.lemmas.List.{length-append}
use Rattle.version_store.proofs.ListedRows.{one_listed, none_listed}
use Rattle.version_store.proofs.rows.list_marked.Goals as goal
use Rattle.version_store.proofs.rows.list_marked.Goals.{then-marks-r, else-marks-r}

pub loop-r-preserved : goal.loop-r-preserved
loop-r-preserved c =
    let marks : List Bool = c.args.marks.now in
    let from : ℕ = c.args.from in
    let r : ℕ = c.loop-r.r in
    let before : List ℕ = c.loop-r.listed.items in
    let low : from ≤ r = c.loop-r.auto.r in
    elim c.if-marks-r.branch [
      | then-marks-r w ↦ rw w.listed-is (record {
        listed = w.push_reserved.ensures.items ∙ ap (λ (xs : List ℕ). xs ++ r ∷ []) c.loop-r.invariant.listed ∙ sym (one_listed marks from r low w.if-marks-r.true);
        few =
            let long : length (before ++ r ∷ []) ≡ length before + 1 = length-append before (r ∷ []) in
            let is : length w.push_reserved.new.self.items ≡ length (before ++ r ∷ []) = ap length w.push_reserved.ensures.items in
            omega (arith, long, is, c.loop-r.invariant.few, c.if-len-most.false, c.len.ensures, c.loop-r.listed.ok.0);
        room = w.push_reserved.ensures.capacity ∙ c.loop-r.invariant.room;
      })
      | else-marks-r w ↦ rw w.listed-is (record {
        listed = c.loop-r.invariant.listed ∙ sym (none_listed marks from r low w.if-marks-r.false);
        few = c.loop-r.invariant.few;
        room = c.loop-r.invariant.room;
      })
    ]
