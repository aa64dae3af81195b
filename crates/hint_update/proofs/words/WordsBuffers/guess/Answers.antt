use Rattle.std.proofs.Common.{◌≡◌, ℕ, ◌*◌, ◌%◌, ◌^◌, ◌<◌, ◌∙◌, arith, ap, List, length, replicate}
use Rattle.std.proofs.lemmas.List.{with_items_is, length-replicate}
use Rattle.std.proofs.lemmas.Simd.{get_or-replicate}
use Rattle.std.specs.Prelude.{slice_index}
use Rattle.matrix_u32.specs.Sum.{sum_below}
use Rattle.matrix_u32.specs.Matrix.{WordMatrix, entry}
use Rattle.hint_update.proofs.Lowest.{combined_is}
use Rattle.hint_update.proofs.words.WordsBuffers.guess.Goals as goal

pub returns-clause-combined : goal.returns-clause-combined
returns-clause-combined g c = λ q l.
    let public : WordMatrix = c.args.public.now in
    let zeros : List ℕ = c.deref_mut-2.result.now in
    let common : List ℕ = c.deref.result.now in
    let written : List ℕ = c.find_multiplier-self.new.common in
    let out : List ℕ = c.add_changes.new.out in
    let wide : c.args.self.now.combined.len ≡ public.cols = c.args.self.now.combined.ok.0 ∙ c.requires.room.combined in
    let fresh : zeros ≡ replicate public.cols 0 = c.deref_mut-2.ensures.value ∙ c.fill.ensures.items (λ y h. h) ∙ ap (λ n. replicate n 0) wide in
    let long : length zeros ≡ public.cols = ap length fresh ∙ length-replicate public.cols 0 in
    let kept : common ≡ written = c.deref.ensures.value ∙ with_items_is c.args.self.now.common written (c.find_multiplier-self.ensures.length ∙ c.deref_mut.ensures.len) in
    let high : length common ≡ public.rows =
    ap length kept ∙ c.find_multiplier-self.ensures.length ∙ ap length c.deref_mut.ensures.value ∙ c.requires.room.common in
    let clear : (q : ℕ) → q < length zeros → slice_index zeros q ≡ 0 = λ q m.
    let inside : q < public.cols = omega (arith, m, long) in
    rw fresh (get_or-replicate public.cols q 0 0 inside) in
    ap (λ (xs : List ℕ). slice_index xs q)
    (with_items_is c.fill.new.self out (c.add_changes.auto.out ∙ c.deref_mut-2.ensures.len) ∙ c.add_changes.ensures)
    ∙ combined_is zeros common public long high clear q l
    ∙ ap (λ (xs : List ℕ). sum_below public.rows (λ k. slice_index xs k * entry public k q) % 2 ^ 32) c.deref.ensures.value
