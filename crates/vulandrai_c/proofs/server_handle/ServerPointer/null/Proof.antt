-- `null`: what is made owns nothing but the allocator's handle.
use Rattle.std.proofs.Common.{◌≡◌, List, [], ◌∷◌, ◌++◌, refl, sym, subst, lit<}
use mir.Val.{Val}
use base.Logic.{SProp, ent, emp, id⊢}
use prog.Wp.{WpFn}
use types.Kit.{‵, raw, ◌⊛◌, ◌$◌, ◌∵◌, !, qed, by, move, keep, split, fsplit, fjoin, suffices, use0, rewrite}
use types.Run.{lit, no_more, and_then, returns, enter}
use types.ByLocal.{alloc_all, pass_all, free_all, look_at, get, sets}
use types.Part.{agg}
use contract.Monad.{fact, fact_i}
use contract.Running.{tables}
use denote.Exit.{yes}
use denote.RattleType.{owns}
use denote.Signature.{types_at, plain}
use denote.RawPtr.{null_ptr, ptr_val}
use denote.Steps.{nothing}
use denote.Param.{layout}
use denote.Triple.Entry.{alive}
use denote.Triple.Walked.{Stays, stay_dropped, walk_of, Goes-dropped}
use Rattle.core.proofs.cell.Inside.{one}
use Rattle.std.specs.declared.option.Option.{Option}
use Rattle.std.specs.declared.option.Option.TheVariants.{None}
use Rattle.std.specs.contracts.impls.GlobalAllocator.TheImpl.{ghosts}
use Rattle.std.proofs.raw_atomic.Walks.{proved_at, leaves}
use Rattle.vulandrai_c.proofs.Fields.{two_words, two_words_typed}
use Rattle.vulandrai_c.proofs.ServerPointerValue.{R, Z, LZ, null_made}
use Rattle.foreign_sessions.specs.declared.server.ServerSession.{ServerSession}
use Rattle.vulandrai_c.specs.contracts.server_handle.ServerPointer.null as f
use Rattle.vulandrai_c.specs.contracts.server_handle.ServerPointer.null.Key.{name as this}
use Rattle.vulandrai_c.proofs.server_handle.ServerPointer.null.Statement.{statement}
use Rattle.vulandrai_c.proofs.server_handle.ServerPointer.null.Code as code

pub null_spec : {M : Type 1} → statement M
null_spec 𝓤 𝓛 𝓜 𝓡 wired =
    let ends = f.ended in
    let clauses = f.clauses 𝓛 𝓜.mem 𝓡.returns in
    let kept : Stays ends.signature.params ends.kept = (stay_dropped (plain (λ _. Z)) yes, tt) in
    let 𝓣 = tables 𝓤 𝓛.H 𝓜 𝓡 𝓡.env in
    proved_at 𝓛 ends kept clauses 𝓜 𝓡 (Goes-dropped 𝓛 0 (plain (λ _. Z)) yes (λ κs x left. refl), tt) this code.function (code.unfolded 𝓤 𝓛.H 𝓜 𝓡 wired) (λ y are.
    let κs = y.0.0 in let qs = y.0.1 in let a = y.0.3.0 in
    let after : Val → SProp 𝓤 = (walk_of 𝓛 ends kept clauses).post y in
    let runs : List Val → SProp 𝓤 = λ vs. WpFn 𝓤 𝓛.H 𝓣.C 𝓣.Λ code.function vs after in
    -- the allocator's handle is one word, and the struct is null and that word
    let handle = one (layout Z) y.0.4.0 ((LZ.lawful 𝓛).typed a y.0.4.0 are.0) in
    let h : Val = handle.0 in let good = handle.2 in
    let w : Val = two_words (ptr_val null_ptr) h in
    let typed = two_words_typed R Z LZ ghosts 0 0 h good in
    let nobody : Option ServerSession = None in
    qed 𝓛 ((raw (alive 𝓛 ends.signature κs qs) ⊛ ‵ (owns (types_at ends.signature.params κs) y.0.3 y.0.4)) ∷ raw ((clauses κs y.0.3).requires y.1) ∷ []) ∵
    split ! $ move ! (1 ∷ []) $ fsplit ! $ rewrite ! 0 (λ (vs : List Val). ‵ (Z.own_val a vs)) handle.1 refl
    $ suffices ! (runs (h ∷ [])) (subst (λ (vs : List Val). ent 𝓤 (runs (h ∷ [])) (runs vs)) (sym (λ i. handle.1 i ++ [])) (id⊢ 𝓤 (runs (h ∷ []))))
    $ enter ! 𝓣.C 𝓣.Λ code.function (h ∷ []) after $ alloc_all ! (λ l. pass_all ! refl (good, tt)
    $ sets ! (agg ! (and_then ! (lit ! tt) (and_then ! (get ! refl) (no_more !)))) refl (typed.0, (record { fits = lit< tt }, (good.1, tt)))
    $ null_made ! h a $ use0 𝓛 (raw (fact 𝓤 (nobody ≡ None))) (fact_i 𝓤 (nobody ≡ None) (emp 𝓤) refl) $ nothing ! $ nothing ! $ fjoin !
    $ returns ! (look_at ! 0 refl) $ free_all ! refl $ keep ! (4 ∷ 0 ∷ 2 ∷ 1 ∷ [])
    $ by ! (leaves 𝓛 ends kept clauses y w (record { at = null_ptr; alloc = a; session = None }) (tt, tt) (tt, tt))))
