-- `into_box`: the place and the handle are passed on, and a box of them comes back.
use Rattle.std.proofs.Common.{◌≡◌, List, [], ◌∷◌, ◌++◌, refl, sym, ap, subst}
use mir.MapTy.{inst_fn}
use mir.Syntax.{a_type, dcons, dnil}
use mir.Val.{Val, vptr}
use base.Fml.{ftrue, flft}
use base.Logic.{SProp, ent, id⊢}
use prog.Wp.{WpFn}
use types.Kit.{‵, raw, ◌⊛◌, some, later, at_ret, ◌$◌, ◌∵◌, !, qed, by, move, keep, drop, split, split3, join, fsplit, fjoin, pick, suffices, use1, await, rewrite, feq_i}
use types.Run.{stop, fld, of_opd, no_more, and_then, first, blocks, exec, returns, enter}
use types.ByLocal.{alloc_all, pass_all, free_all, look_at, get, get_in, sets, lands_last, env}
use types.Part.{sub, whole}
use contract.BorrowLft.{◌⊑◌}
use contract.Monad.{fact}
use contract.Running.{tables}
use denote.Exit.{no}
use denote.Param.{param, layout, bounded}
use denote.Param.Laws.{param_laws}
use denote.RattleType.{RattleType, owns}
use denote.RawPtr.{block_ptr}
use denote.Signature.{types_at, plain}
use denote.Steps.{nothing, only}
use denote.Triple.Call.{calls_at_last}
use denote.Triple.Clauses.{Lasts, lasts}
use denote.Triple.Spec.{triple_of}
use denote.Triple.Walked.{Stays, stay_dropped, walk_of}
use Rattle.core.proofs.alloc.Calls.{Goes-blank}
use Rattle.core.proofs.alloc.Shapes.{after as code_after}
use Rattle.core.proofs.atomic.Steps.{fm}
use Rattle.core.proofs.cell.Inside.{Good}
use Rattle.std.proofs.raw_atomic.Walks.{proved_at, leaves}
use Rattle.std_alloc.proofs.BoxSteps.Form as boxes
use Rattle.std_alloc.proofs.BoxSteps.Steps.{box_out, box_in}
use Rattle.std_alloc.specs.contracts.boxed.Box.from_raw as rebuilt
use Rattle.std_alloc.proofs.boxed.Box.from_raw.Met.{met}
use Rattle.vulandrai_c.proofs.Fields.{Pointer, two_words, two_words_typed, pointer_apart}
use Rattle.vulandrai_c.specs.contracts.box_pointer.BoxPointer.into_box as f
use Rattle.vulandrai_c.specs.contracts.box_pointer.BoxPointer.into_box.Key.{name as this}
use Rattle.vulandrai_c.proofs.box_pointer.BoxPointer.into_box.Statement.{statement}
use Rattle.vulandrai_c.proofs.box_pointer.BoxPointer.into_box.Code as code

pub into_box_spec : {M : Type 1} → statement M
into_box_spec 𝓤 𝓛 𝓜 𝓡 wired T A L LA g d dx dd allocator drops_value drops_heap =
    -- the types, the function and its contract
    let types = bounded (a_type ∷ a_type ∷ []) (T, (A, tt)) (dcons d (dcons dx (dcons dd dnil))) in
    let R : RattleType = param 0 T in
    let Z : RattleType = param 1 A in
    let LZ = param_laws 1 A LA in
    let E : boxes.Bx = record { row = T; laws = L; al = record { row = A; laws = LA; g = g; d = d; drops = dd } } in
    let B : RattleType = boxes.B E in
    let ends = f.ended T A g d dx dd in
    let clauses = f.clauses T A g d dx dd 𝓛 𝓜.mem 𝓡.returns in
    let kept : Stays ends.signature.params ends.kept = (stay_dropped (plain (λ _. Pointer R Z LZ g)) no, tt) in
    let body = inst_fn types code.function in
    let 𝓣 = tables 𝓤 𝓛.H 𝓜 𝓡 𝓡.env in
    proved_at 𝓛 ends kept clauses 𝓜 𝓡 (Goes-blank 𝓛 2 (plain (λ _. Pointer R Z LZ g)) no (λ κs x left. tt), tt) (this types) body (code.unfolded 𝓤 𝓛.H 𝓜 𝓡 wired (T, (A, tt)) d dx dd) (λ y are.
    -- what a call brings: lifetimes, their tokens, and the parts of a box
    let κs = y.0.0 in let qs = y.0.1 in let parts = y.0.3.0 in let a = parts.heap in
    let after : Val → SProp 𝓤 = (walk_of 𝓛 ends kept clauses).post y in
    let runs : List Val → SProp 𝓤 = λ vs. WpFn 𝓤 𝓛.H 𝓣.C 𝓣.Λ body vs after in
    let tokens = ‵ (flft κs.0 qs.0) ⊛ ‵ (flft κs.1.0 qs.1.0) ⊛ ‵ ftrue in
    qed 𝓛 ((tokens ⊛ ‵ (owns (types_at ends.signature.params κs) y.0.3 y.0.4)) ∷ raw ((clauses κs y.0.3).requires y.1) ∷ []) ∵
    split ! $ move ! (1 ∷ []) $ fsplit !
    $ pointer_apart R Z LZ g ! parts y.0.4.0 (λ b o h at words good.
    let w : Val = two_words (vptr b o) h in
    let typed = two_words_typed R Z LZ g b o h good in
    let called = triple_of 𝓛 (rebuilt.signature T A g d dd) (rebuilt.spec T A g d dd 𝓛 𝓜.mem 𝓡.returns) in
    let z : called.Ghost = ((κs, qs, tt, (a, (block_ptr b o, tt)), (h ∷ [], (vptr b o ∷ [], tt))), parts.content) in
    -- what the callee asks for: that both types outlive the call, the handle and the pointer, and
    -- what the box owns
    move ! (4 ∷ []) $ use1 𝓛 (raw (fact 𝓤 (κs.0 ⊑ T.lives)) ⊛ raw (fact 𝓤 (κs.1.0 ⊑ A.lives)) ⊛ ‵ ftrue) (id⊢ 𝓤 _)
    $ split3 ! $ move ! (2 ∷ []) $ drop ! $ move ! (1 ∷ 2 ∷ []) $ join ! $ move ! (1 ∷ 0 ∷ []) $ join !
    $ move ! (2 ∷ []) $ feq_i ! (List Val) (vptr b o ∷ []) (vptr b o ∷ []) refl $ fjoin ! $ move ! (2 ∷ 0 ∷ []) $ fjoin !
    $ move ! (2 ∷ 0 ∷ []) $ join ! $ join ! $ use1 𝓛 (raw (called.pre z)) (id⊢ 𝓤 _)
    $ suffices ! (runs (w ∷ [])) (subst (λ (vs : List Val). ent 𝓤 (runs (w ∷ [])) (runs vs)) (sym (λ i. words i ++ [])) (id⊢ 𝓤 (runs (w ∷ []))))
    $ enter ! 𝓣.C 𝓣.Λ body (w ∷ []) after $ alloc_all ! (λ l. pass_all ! refl (typed, tt)
    -- the two fields, and the call in its block
    $ sets ! (of_opd ! (get_in ! (fld ! refl (stop !)) (sub ! 0 refl (whole !)))) refl (tt, tt)
    $ sets ! (of_opd ! (get_in ! (fld ! refl (stop !)) (sub ! 1 refl (whole !)))) refl good
    $ first ! $ blocks ! $ sets ! (of_opd ! (get ! refl)) refl good
    $ calls_at_last ! (fm 𝓛 𝓜 𝓡) called (met 𝓤 𝓛 𝓜 𝓡 (code.calls-std_alloc::boxed::Box::from_raw 𝓡.env wired) T A L LA g d dd allocator drops_heap) z (and_then ! (get ! refl) (and_then ! (get ! refl) (no_more !))) (λ u.
    use1 𝓛 (later (some (λ (r : B.Denot). (tokens ⊛ ‵ (B.own_val r (u ∷ []))) ⊛ some (λ (ls : Lasts (rebuilt.ended T A g d dd) κs z.0.3).
    ‵ (lasts (rebuilt.ended T A g d dd) κs z.0.3 ls) ⊛ (raw (fact 𝓤 (r.value ≡ parts.content)) ⊛ raw (fact 𝓤 (r.alloc ≡ a))))))) (id⊢ 𝓤 (called.post z u))
    $ await ! tt $ pick ! (λ r. split ! $ move ! (1 ∷ []) $ pick ! (λ _. split3 ! $ drop ! $ move ! (2 ∷ []) $ split ! $ move ! (1 ∷ [])
    -- the box is of two words, and is returned
    $ box_out E ! r (u ∷ []) (λ b' o' h' at' words' good'. box_in E ! r b' o' r.value at' refl
    $ rewrite ! 0 (λ (vs : List Val). ‵ (B.own_val r vs)) (sym words') refl
    $ (let typed' : Good (layout B) u = subst (Good (layout B)) (sym (ap only words')) (two_words_typed R Z LZ g b' o' h' good') in
    lands_last ! refl typed' $ exec ! 𝓣.C 𝓣.Λ (env body.locals l) (code_after 3 body.body) (at_ret (env body.locals l) after)
    $ sets ! (of_opd ! (get ! refl)) refl typed' $ nothing ! $ nothing ! $ fjoin !
    $ returns ! (look_at ! 0 refl) $ free_all ! refl $ keep ! (2 ∷ 0 ∷ 1 ∷ 3 ∷ [])
    $ by ! (leaves 𝓛 ends kept clauses y u r ((tt, (tt, tt)), tt) (tt, tt))))))))))
