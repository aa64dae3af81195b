-- `from_box`: the box is passed on, and the pair that comes back is named as a `BoxPointer`.
use Rattle.std.proofs.Common.{◌≡◌, List, [], ◌∷◌, ◌++◌, refl, sym, ap, ◌∙◌, subst}
use mir.MapTy.{inst_fn}
use mir.Raw.{raw as bare}
use mir.Syntax.{a_type, dcons, dnil}
use mir.Val.{Val, vptr}
use base.Fml.{ftrue, fsep, flft}
use base.Logic.{SProp, ent, emp, never, id⊢, fst∗}
use prog.Wp.{WpFn}
use types.Logic.{sem}
use types.Kit.{‵, raw, ◌⊛◌, some, later, ◌$◌, ◌∵◌, !, qed, by, move, keep, drop, split, split3, join, fsplit, fjoin, pick, suffices, use0, use1, await, rewrite}
use types.Run.{stop, fld, of_opd, no_more, and_then, returns, enter}
use types.ByLocal.{alloc_all, pass_all, free_all, look_at, get, get_in, sets, lands_as}
use types.Part.{agg, sub, whole}
use contract.Monad.{fact, fact_i}
use contract.Running.{tables}
use denote.Builtin.{RawPtr}
use denote.Exit.{no}
use denote.Param.{param, layout, bounded}
use denote.Param.Laws.{param_laws}
use denote.RattleType.{RattleType, owns}
use denote.RawPtr.{Ptr, block_ptr, null_ptr, ptr_val, in_a_block}
use denote.Signature.{types_at, plain}
use denote.Steps.{nothing, only, heard}
use denote.Struct.Tuple.{Tuple}
use denote.Triple.Call.{calls_at}
use denote.Triple.Spec.{triple_of}
use denote.Triple.Walked.{Stays, stay_dropped, walk_of}
use Rattle.core.proofs.alloc.Calls.{Goes-blank}
use Rattle.core.proofs.atomic.Steps.{fm}
use Rattle.std.proofs.raw_atomic.Walks.{proved_at, leaves}
use Rattle.std_alloc.proofs.BoxSteps.Form as boxes
use Rattle.std_alloc.proofs.BoxSteps.Steps.{box_out, box_in}
use Rattle.std_alloc.specs.contracts.boxed.Box.into_raw_with_allocator as raw_parts
use Rattle.std_alloc.proofs.boxed.Box.into_raw_with_allocator.Met.{met}
use Rattle.vulandrai_c.proofs.Fields.{two_words, two_words_typed, boxed, fields_apart, pointer_made}
use Rattle.vulandrai_c.specs.contracts.box_pointer.BoxPointer.from_box as f
use Rattle.vulandrai_c.specs.contracts.box_pointer.BoxPointer.from_box.Key.{name as this}
use Rattle.vulandrai_c.proofs.box_pointer.BoxPointer.from_box.Statement.{statement}
use Rattle.vulandrai_c.proofs.box_pointer.BoxPointer.from_box.Code as code

pub from_box_spec : {M : Type 1} → statement M
from_box_spec 𝓤 𝓛 𝓜 𝓡 wired T A L LA g d dx dd allocator drops_value drops_heap =
    -- the types, the function and its contract
    let types = bounded (a_type ∷ a_type ∷ []) (T, (A, tt)) (dcons d (dcons dx (dcons dd dnil))) in
    let R : RattleType = param 0 T in
    let Z : RattleType = param 1 A in
    let LZ = param_laws 1 A LA in
    let E : boxes.Bx = record { row = T; laws = L; al = record { row = A; laws = LA; g = g; d = d; drops = dd } } in
    let Pair = Tuple (RawPtr ∷ Z ∷ []) in
    let ends = f.ended T A g d dx dd in
    let clauses = f.clauses T A g d dx dd 𝓛 𝓜.mem 𝓡.returns in
    let kept : Stays ends.signature.params ends.kept = (stay_dropped (plain (λ _. boxes.B E)) no, tt) in
    let body = inst_fn types code.function in
    let 𝓣 = tables 𝓤 𝓛.H 𝓜 𝓡 𝓡.env in
    proved_at 𝓛 ends kept clauses 𝓜 𝓡 (Goes-blank 𝓛 2 (plain (λ _. boxes.B E)) no (λ κs x left. tt), tt) (this types) body (code.unfolded 𝓤 𝓛.H 𝓜 𝓡 wired (T, (A, tt)) d dx dd) (λ y are.
    -- what a call brings: lifetimes, their tokens, and the box
    let κs = y.0.0 in let qs = y.0.1 in let box = y.0.3.0 in let a = box.alloc in
    let after : Val → SProp 𝓤 = (walk_of 𝓛 ends kept clauses).post y in
    let runs : List Val → SProp 𝓤 = λ vs. WpFn 𝓤 𝓛.H 𝓣.C 𝓣.Λ body vs after in
    let tokens = ‵ (flft κs.0 qs.0) ⊛ ‵ (flft κs.1.0 qs.1.0) ⊛ ‵ ftrue in
    qed 𝓛 ((tokens ⊛ ‵ (owns (types_at ends.signature.params κs) y.0.3 y.0.4)) ∷ raw ((clauses κs y.0.3).requires y.1) ∷ []) ∵
    split ! $ move ! (1 ∷ []) $ fsplit !
    -- the box is of two words
    $ box_out E ! box y.0.4.0 (λ b o h at words good. box_in E ! box b o box.value at refl
    $ (let w : Val = boxes.word E h b o in
    let typed = two_words_typed R Z LZ g b o h good in
    let called = triple_of 𝓛 (raw_parts.signature T A g d dd dx) (raw_parts.spec T A g d dd dx 𝓛 𝓜.mem 𝓡.returns) in
    let z : called.Ghost = ((κs, qs, tt, (box, tt), (w ∷ [], tt)), tt) in
    fjoin ! $ move ! (1 ∷ 0 ∷ []) $ join ! $ join ! $ use1 𝓛 (raw (called.pre z)) (id⊢ 𝓤 _)
    $ suffices ! (runs (w ∷ [])) (subst (λ (vs : List Val). ent 𝓤 (runs (w ∷ [])) (runs vs)) (sym (λ i. words i ++ [])) (id⊢ 𝓤 (runs (w ∷ []))))
    $ enter ! 𝓣.C 𝓣.Λ body (w ∷ []) after $ alloc_all ! (λ l. pass_all ! refl (typed, tt)
    -- the call
    $ sets ! (of_opd ! (get ! refl)) refl typed
    $ calls_at ! (fm 𝓛 𝓜 𝓡) called (met 𝓤 𝓛 𝓜 𝓡 (code.calls-std_alloc::boxed::Box::into_raw_with_allocator 𝓡.env wired) T A L LA g d dd dx allocator drops_heap drops_value) z (and_then ! (get ! refl) (no_more !)) (λ u.
    use1 𝓛 (later (some (λ (r : Ptr × A.Denot). (tokens ⊛ ‵ (Pair.own_val r (u ∷ []))) ⊛ some (λ (_ : (Unit {0} × (Unit {0} × Unit {0})) × Unit {0}).
    ‵ (fsep (fsep ftrue (fsep ftrue ftrue)) ftrue) ⊛ (raw (fact 𝓤 (r.1 ≡ a)) ⊛ ‵ (boxed R Z LZ g a r.0 box.value)))))) (id⊢ 𝓤 _)
    $ await ! tt $ pick ! (λ r. split ! $ move ! (1 ∷ []) $ pick ! (λ _. split3 ! $ drop ! $ heard ! (r.1 ≡ a) (λ same.
    -- the place is in a block, and the pair is of two words again
    in_a_block ! r.0 (λ p. boxed R Z LZ g a p box.value) (fst∗ 𝓤 (never 𝓤) (sem 𝓛 (g.dealloc_token a (bare (layout T)) null_ptr))) (λ b' o' at'.
    move ! (1 ∷ []) $ split ! $ move ! (1 ∷ [])
    $ fields_apart R Z LZ g ! r.0 r.1 (u ∷ []) (λ h' words' good'. rewrite ! 0 (λ (s : A.Denot). ‵ (Z.own_val s (h' ∷ []))) same refl
    $ (let typed' = two_words_typed R Z LZ g b' o' h' good' in
    lands_as ! (ap only (words' ∙ ap (λ (p : Ptr). two_words (ptr_val p) h' ∷ []) at')) refl typed'
    $ sets ! (of_opd ! (get_in ! (fld ! refl (stop !)) (sub ! 0 refl (whole !)))) refl (tt, tt)
    $ sets ! (of_opd ! (get_in ! (fld ! refl (stop !)) (sub ! 1 refl (whole !)))) refl good'
    $ sets ! (of_opd ! (get ! refl)) refl good'
    $ sets ! (agg ! (and_then ! (get ! refl) (and_then ! (get ! refl) (no_more !)))) refl typed'
    -- what is returned
    $ move ! (2 ∷ 0 ∷ []) $ pointer_made R Z LZ g ! b' o' h' a box.value
    $ use0 𝓛 (raw (fact 𝓤 (box.value ≡ box.value))) (fact_i 𝓤 (box.value ≡ box.value) (emp 𝓤) refl) $ nothing ! $ nothing ! $ fjoin !
    $ returns ! (look_at ! 0 refl) $ free_all ! refl $ keep ! (3 ∷ 0 ∷ 2 ∷ 1 ∷ [])
    $ by ! (leaves 𝓛 ends kept clauses y (two_words (vptr b' o') h') (record { place = block_ptr b' o'; heap = a; content = box.value }) ((tt, (tt, tt)), tt) (tt, tt)))))))))))))
