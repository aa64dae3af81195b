-- The machine value of a `ServerPointer`, with a session that it leads to and with none. Assumes
-- `Logic`.
use Rattle.std.proofs.Common.{◌≡◌, ℕ, List, [], ◌∷◌, refl, ap, ◌∙◌}
use seplogic.Ra.Ura.{Ura}
use mir.Raw.{raw as bare}
use mir.Val.{Val, vptr}
use base.Logic.{never, fst∗}
use types.Logic.{Logic, sem}
use types.Kit.{Item, Goal, Seq, Step, step, ‵, ◌$◌, move, fsplit, fjoin, rewrite}
use denote.RattleType.{RattleType}
use denote.Memory.{lone}
use denote.RawPtr.{Ptr, block_ptr, null_ptr, ptr_val, in_a_block}
use denote.Steps.{nothing}
use denote.Param.{layout}
use denote.Param.Laws.{Laws}
use Rattle.core.proofs.cell.Inside.{Good}
use Rattle.std.specs.declared.alloc.Global.{Global}
use Rattle.std.specs.declared.option.Option.{Option}
use Rattle.std.specs.declared.option.Option.TheVariants.{None, Some}
use Rattle.std.specs.contracts.alloc.Global as heap
use Rattle.std.proofs.alloc.Global.TheLaws as heap_laws
use Rattle.std.specs.contracts.impls.GlobalAllocator.TheImpl.{ghosts}
use Rattle.std_alloc.specs.Box.Ownership.{box_owns}
use Rattle.vulandrai_c.proofs.Fields.{two_words, fields_apart, fields_joined}
use Rattle.vulandrai_c.specs.ServerHandles.{server_owned_at}
use Rattle.vulandrai_c.specs.Handles.{IsThere}
use Rattle.foreign_sessions.specs.declared.server.ServerSession.{ServerSession}
use Rattle.foreign_sessions.specs.contracts.server.ServerSession as session
use Rattle.vulandrai_c.specs.contracts.server_handle.ServerPointer as the

abbrev pub R : RattleType
R = session.the_row

abbrev pub Z : RattleType
Z = heap.the_row

abbrev pub LZ : Laws Z
LZ = heap_laws.the_row_laws

abbrev pub Row : RattleType
Row = the.the_row

the_session : (c : Option ServerSession) → IsThere c → (x : ServerSession) × (c ≡ Some x)
the_session None f = absurd f
the_session (Some x) f = (x, refl)

module _ {M : Type 1} {𝓤 : Ura M} {𝓛 : Logic 𝓤} {K : Type 0} {Γ : List (Item 𝓤)} {G : Goal 𝓤 𝓛.H} where
  pub session_apart : K → (d : Row.Denot) (vs : List Val) → IsThere d.session
      → ((b o : ℕ) (h : Val) (x : ServerSession) → d.session ≡ Some x → d.at ≡ block_ptr b o → vs ≡ two_words (vptr b o) h ∷ [] → Good (layout Z) h
      → Seq K 𝓛 (‵ (box_owns (ghosts.dealloc_token d.alloc) R (block_ptr b o) x) ∷ ‵ (Z.own_val d.alloc (h ∷ [])) ∷ Γ) G)
      → Seq K 𝓛 (‵ (Row.own_val d vs) ∷ Γ) G
  session_apart t d vs full k =
      let found = the_session d.session full in let x : ServerSession = found.0 in
      fsplit t $ fields_apart R Z LZ ghosts t d.at d.alloc vs (λ h words good. move t (1 ∷ []) $
      rewrite t 0 (λ (c : Option ServerSession). ‵ (server_owned_at d.alloc d.at c)) found.1 refl $
      in_a_block t d.at (λ p. box_owns (ghosts.dealloc_token d.alloc) R p x) (fst∗ 𝓤 (never 𝓤) (sem 𝓛 (ghosts.dealloc_token d.alloc (bare (lone R.mir)) null_ptr))) (λ b o at.
      k b o h x found.1 at (words ∙ ap (λ (p : Ptr). two_words (ptr_val p) h ∷ []) at) good))

  pub session_made : K → (b o : ℕ) (h : Val) (a : Global) (x : ServerSession)
      → Step K 𝓛 (‵ (Row.own_val (record { at = block_ptr b o; alloc = a; session = Some x }) (two_words (vptr b o) h ∷ [])) ∷ Γ) G (‵ (box_owns (ghosts.dealloc_token a) R (block_ptr b o) x) ∷ ‵ (Z.own_val a (h ∷ [])) ∷ Γ) G
  session_made t b o h a x = step (λ rest. move t (1 ∷ []) $ fields_joined R Z LZ ghosts t (block_ptr b o) a h $ fjoin t $ rest)

  pub null_made : K → (h : Val) (a : Global)
      → Step K 𝓛 (‵ (Row.own_val (record { at = null_ptr; alloc = a; session = None }) (two_words (ptr_val null_ptr) h ∷ [])) ∷ Γ) G (‵ (Z.own_val a (h ∷ [])) ∷ Γ) G
  null_made t h a = step (λ rest. fields_joined R Z LZ ghosts t null_ptr a h $ nothing t $ move t (1 ∷ 0 ∷ []) $ fjoin t $ rest)
