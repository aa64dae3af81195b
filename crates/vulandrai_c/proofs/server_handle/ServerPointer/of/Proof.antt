-- `of`: the place is that of the box, and what the box owned is owned here.
use Rattle.std.proofs.Common.{◌≡◌, List, [], ◌∷◌, ◌++◌, refl, sym, subst}
use mir.Val.{Val, vptr}
use base.Logic.{SProp, ent, emp, id⊢}
use prog.Wp.{WpFn}
use types.Kit.{‵, raw, ◌⊛◌, ◌$◌, ◌∵◌, !, qed, by, move, keep, split, fsplit, fjoin, suffices, use0}
use types.Run.{stop, fld, of_opd, no_more, and_then, returns, enter}
use types.ByLocal.{alloc_all, pass_all, free_all, look_at, get, get_in, sets}
use types.Part.{agg, sub, whole}
use contract.Monad.{fact, fact_i}
use contract.Running.{tables}
use denote.Exit.{yes}
use denote.RattleType.{owns}
use denote.Signature.{types_at, plain}
use denote.RawPtr.{block_ptr}
use denote.Steps.{nothing}
use denote.Triple.Entry.{alive}
use denote.Triple.Walked.{Stays, stay_dropped, walk_of, Goes-dropped}
use Rattle.std.specs.declared.option.Option.{Option}
use Rattle.std.specs.declared.option.Option.TheVariants.{Some}
use Rattle.std.specs.contracts.impls.GlobalAllocator.TheImpl.{ghosts}
use Rattle.std.proofs.raw_atomic.Walks.{proved_at, leaves}
use Rattle.vulandrai_c.proofs.Fields.{Pointer, two_words, two_words_typed, pointer_apart}
use Rattle.vulandrai_c.proofs.ServerPointerValue.{R, Z, LZ, session_made}
use Rattle.foreign_sessions.specs.declared.server.ServerSession.{ServerSession}
use Rattle.vulandrai_c.specs.contracts.server_handle.ServerPointer.of as f
use Rattle.vulandrai_c.specs.contracts.server_handle.ServerPointer.of.Key.{name as this}
use Rattle.vulandrai_c.proofs.server_handle.ServerPointer.of.Statement.{statement}
use Rattle.vulandrai_c.proofs.server_handle.ServerPointer.of.Code as code

pub of_spec : {M : Type 1} → statement M
of_spec 𝓤 𝓛 𝓜 𝓡 wired =
    let ends = f.ended in
    let clauses = f.clauses 𝓛 𝓜.mem 𝓡.returns in
    let kept : Stays ends.signature.params ends.kept = (stay_dropped (plain (λ _. Pointer R Z LZ ghosts)) yes, tt) in
    let 𝓣 = tables 𝓤 𝓛.H 𝓜 𝓡 𝓡.env in
    proved_at 𝓛 ends kept clauses 𝓜 𝓡 (Goes-dropped 𝓛 0 (plain (λ _. Pointer R Z LZ ghosts)) yes (λ κs x left. refl), tt) this code.function (code.unfolded 𝓤 𝓛.H 𝓜 𝓡 wired) (λ y are.
    let κs = y.0.0 in let qs = y.0.1 in let box = y.0.3.0 in let a = box.heap in
    let after : Val → SProp 𝓤 = (walk_of 𝓛 ends kept clauses).post y in
    let runs : List Val → SProp 𝓤 = λ vs. WpFn 𝓤 𝓛.H 𝓣.C 𝓣.Λ code.function vs after in
    let somebody : Option ServerSession = Some box.content in
    qed 𝓛 ((raw (alive 𝓛 ends.signature κs qs) ⊛ ‵ (owns (types_at ends.signature.params κs) y.0.3 y.0.4)) ∷ raw ((clauses κs y.0.3).requires y.1) ∷ []) ∵
    split ! $ move ! (1 ∷ []) $ fsplit ! $ pointer_apart R Z LZ ghosts ! box y.0.4.0 (λ b o h at words good.
    let w : Val = two_words (vptr b o) h in
    let typed = two_words_typed R Z LZ ghosts b o h good in
    suffices ! (runs (w ∷ [])) (subst (λ (vs : List Val). ent 𝓤 (runs (w ∷ [])) (runs vs)) (sym (λ i. words i ++ [])) (id⊢ 𝓤 (runs (w ∷ []))))
    $ enter ! 𝓣.C 𝓣.Λ code.function (w ∷ []) after $ alloc_all ! (λ l. pass_all ! refl (typed, tt)
    -- both fields move into the new struct
    $ sets ! (of_opd ! (get_in ! (fld ! refl (stop !)) (sub ! 0 refl (whole !)))) refl (tt, tt)
    $ sets ! (of_opd ! (get_in ! (fld ! refl (stop !)) (sub ! 1 refl (whole !)))) refl good
    $ sets ! (agg ! (and_then ! (get ! refl) (and_then ! (get ! refl) (no_more !)))) refl typed
    $ session_made ! b o h a box.content
    $ use0 𝓛 (raw (fact 𝓤 (somebody ≡ Some box.content))) (fact_i 𝓤 (somebody ≡ Some box.content) (emp 𝓤) refl) $ nothing ! $ nothing ! $ fjoin !
    $ returns ! (look_at ! 0 refl) $ free_all ! refl $ keep ! (4 ∷ 0 ∷ 2 ∷ 1 ∷ [])
    $ by ! (leaves 𝓛 ends kept clauses y w (record { at = block_ptr b o; alloc = a; session = Some box.content }) (tt, tt) (tt, tt)))))
