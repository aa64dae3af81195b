use Rattle.std.proofs.Common.{◌≡◌, ◌∙◌, sym, ap, ℕ, List, [], ◌∷◌, ◌++◌, append_assoc}
use Rattle.std.specs.declared.vec.Vec.{Vec}
use Rattle.std.specs.declared.alloc.Global.{Global}
use Rattle.publication_log.specs.Publications.{Placed}
use Rattle.publisher_drafts.specs.Merging.{changes_of_map}
use Rattle.publisher_drafts.proofs.Maps.{placed}
use Rattle.publisher_drafts.proofs.changes.publication_of.Goals as goal

pub loop-place-preserved : goal.loop-place-preserved
loop-place-preserved c =
    let it = c.loop-place.invariant in
    let done : List Placed = it.1.0 in
    let k : ℕ = c.in-Some.place.now in
    let v : Vec ℕ Global = c.in-Some.bytes.now in
    let left : List (ℕ × Vec ℕ Global) = c.next.new.self in
    let first : Placed = placed k c.deref.result.now in
    let steps : c.loop-place.place-iterator ≡ (k, v) ∷ left = c.in-Some.ensures.steps in
    let bytes : c.deref.result.now ≡ v.items = c.deref.ensures.value in (
      c.push.ensures.version ∙ it.0,
      (
        done ++ first ∷ [],
        c.in_ok-push.ensures.added (record { version = c.args.version; changes = done }) it.1.1,
        append_assoc done (first ∷ []) (changes_of_map left)
            ∙ ap (λ (b : List ℕ). done ++ (placed k b ∷ changes_of_map left)) bytes
            ∙ ap (λ (es : List (ℕ × Vec ℕ Global)). done ++ changes_of_map es) (sym steps)
            ∙ it.1.2,
      ),
    )
