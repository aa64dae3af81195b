-- A place and an allocator's handle as the two fields of a struct by value, and with them a
-- `BoxPointer`. Assumes `Logic`.
--     two_words, two_words_typed   the machine value of such a struct, and that it has its type if
--                                  the handle has
--     fields_apart, fields_joined  what the fields own is what the handle owns, and the machine
--                                  value is of two words; and back
--     pointer_apart, pointer_made  what a `BoxPointer` owns is the box's part and the handle's; and
--                                  back
use Rattle.std.proofs.Common.{◌≡◌, ℕ, List, [], ◌∷◌, ◌++◌, refl, ap, ◌∙◌}
use mathlib.Core.Bool.{true, ◌&&◌}
use lib.Dec.{T}
use seplogic.Ra.Ura.{Ura}
use base.Fml.{Fml, fex}
use base.Logic.{never, fst∗}
use mir.Raw.{raw as bare}
use mir.Syntax.{impl, tnil, dnil}
use mir.Val.{Val, vptr, vstruct, vcons, vnil, of_list, has_ty, WT}
use types.Logic.{Logic, sem}
use types.Kit.{Item, Goal, Seq, Step, step, ‵, ◌$◌, move, drop, fsplit, fjoin, fpick, fpack, feq_i, feq_l}
use denote.RattleType.{RattleType, Valss}
use denote.Builtin.{RawPtr}
use denote.Memory.{lone}
use denote.RawPtr.{Ptr, block_ptr, null_ptr, ptr_val, in_a_block}
use denote.Steps.{nothing}
use denote.Param.{layout}
use denote.Param.Laws.{Laws}
use denote.Struct.Struct.{within}
use Rattle.core.specs.declared.alloc.Allocator.{Ghosts}
use Rattle.core.proofs.alloc.Calls.{Al, handle_tells}
use Rattle.core.proofs.cell.Inside.{Good}
use Rattle.std_alloc.specs.Box.Ownership.{box_owns}
use Rattle.std_alloc.proofs.ResultValues.{and_tt}
use Rattle.vulandrai_c.specs.contracts.box_pointer.BoxPointer as the

-- the machine value of a struct of two words
abbrev pub two_words : Val → Val → Val
two_words p h = vstruct (vcons p (vcons h vnil))

module _ (R Z : RattleType) (LZ : Laws Z) (g : Ghosts Z.Denot) where
  -- the allocator, as the steps of its handle take it
  abbrev heap : Al
  heap = record { row = Z; laws = LZ; g = g; d = impl [] tnil dnil; drops = impl [] tnil dnil }

  -- a `BoxPointer` of these types
  abbrev pub Pointer : RattleType
  Pointer = the.the_row R Z g

  -- what a box at a place owns, but for its allocator
  abbrev pub boxed : Z.Denot → Ptr → R.Denot → Fml
  boxed a = box_owns (g.dealloc_token a) R

  -- what the two fields own at a machine value
  abbrev pub both_own : Ptr → Z.Denot → List Val → Fml
  both_own p a vs = fex (Valss (RawPtr ∷ Z ∷ [])) (within (record { name = []; args = []; types = []; fields = RawPtr ∷ Z ∷ [] }) (p, (a, tt)) vs)

  pub two_words_typed : (b o : ℕ) (h : Val) → Good (layout Z) h → T (has_ty (layout Z) h && true) × WT (two_words (vptr b o) h)
  two_words_typed b o h good = (and_tt (has_ty (layout Z) h) good.0, (tt, (good.1, tt)))

  module _ {M : Type 1} {𝓤 : Ura M} {𝓛 : Logic 𝓤} {K : Type 0} {Γ : List (Item 𝓤)} {G : Goal 𝓤 𝓛.H} where
    pub fields_apart : K → (p : Ptr) (a : Z.Denot) (vs : List Val)
        → ((h : Val) → vs ≡ two_words (ptr_val p) h ∷ [] → Good (layout Z) h → Seq K 𝓛 (‵ (Z.own_val a (h ∷ [])) ∷ Γ) G)
        → Seq K 𝓛 (‵ (both_own p a vs) ∷ Γ) G
    fields_apart t p a vs k = fpick t (λ parts. fsplit t $ feq_l t (λ whole. fsplit t $ feq_l t (λ first. fsplit t $ move t (1 ∷ []) $ drop t $
        handle_tells heap t a parts.1.0 (λ h second good.
        k h (whole ∙ (λ i. vstruct (of_list (first i ++ (second i ++ []))) ∷ [])) good))))

    pub fields_joined : K → (p : Ptr) (a : Z.Denot) (h : Val)
        → Step K 𝓛 (‵ (both_own p a (two_words (ptr_val p) h ∷ [])) ∷ Γ) G (‵ (Z.own_val a (h ∷ [])) ∷ Γ) G
    fields_joined t p a h = step (λ rest. let w : Val = two_words (ptr_val p) h in
        nothing t $ move t (1 ∷ 0 ∷ []) $ fjoin t $
        feq_i t (List Val) (ptr_val p ∷ []) (ptr_val p ∷ []) refl $ fjoin t $
        feq_i t (List Val) (w ∷ []) (w ∷ []) refl $ fjoin t $
        fpack t (Valss (RawPtr ∷ Z ∷ [])) (within (record { name = []; args = []; types = []; fields = RawPtr ∷ Z ∷ [] }) (p, (a, tt)) (w ∷ [])) (ptr_val p ∷ [], (h ∷ [], tt)) $ rest)

  module _ {M : Type 1} {𝓤 : Ura M} {𝓛 : Logic 𝓤} {K : Type 0} {Γ : List (Item 𝓤)} {G : Goal 𝓤 𝓛.H} where
    pub pointer_apart : K → (d : Pointer.Denot) (vs : List Val)
        → ((b o : ℕ) (h : Val) → d.place ≡ block_ptr b o → vs ≡ two_words (vptr b o) h ∷ [] → Good (layout Z) h
        → Seq K 𝓛 (‵ (boxed d.heap (block_ptr b o) d.content) ∷ ‵ (Z.own_val d.heap (h ∷ [])) ∷ Γ) G)
        → Seq K 𝓛 (‵ (Pointer.own_val d vs) ∷ Γ) G
    pointer_apart t d vs k = fsplit t $ fields_apart t d.place d.heap vs (λ h words good. move t (1 ∷ []) $
        in_a_block t d.place (λ p. boxed d.heap p d.content) (fst∗ 𝓤 (never 𝓤) (sem 𝓛 (g.dealloc_token d.heap (bare (lone R.mir)) null_ptr))) (λ b o at.
        k b o h at (words ∙ ap (λ (p : Ptr). two_words (ptr_val p) h ∷ []) at) good))

    pub pointer_made : K → (b o : ℕ) (h : Val) (a : Z.Denot) (x : R.Denot)
        → Step K 𝓛 (‵ (Pointer.own_val (record { place = block_ptr b o; heap = a; content = x }) (two_words (vptr b o) h ∷ [])) ∷ Γ) G
        (‵ (boxed a (block_ptr b o) x) ∷ ‵ (Z.own_val a (h ∷ [])) ∷ Γ) G
    pointer_made t b o h a x = step (λ rest. move t (1 ∷ []) $ fields_joined t (block_ptr b o) a h $ fjoin t $ rest)
