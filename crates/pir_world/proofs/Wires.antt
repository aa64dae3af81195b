-- What a delivery takes of a wire with at most one frame.
use Rattle.std.proofs.Common.{◌≡◌, ℕ, ◌⊎◌, List, [], ◌∷◌, ◌++◌, length, refl, sym, ap, subst, ◌∙◌, inl, inr}
use Rattle.std.specs.Prelude.{nat_le}
use Rattle.std.proofs.lemmas.Bool.{cases_Bool}
use Rattle.std.proofs.lemmas.List.{append-nil}
use Rattle.frame_codec.specs.declared.frame.Frame.{Frame}
use Rattle.frame_codec.specs.Frames.{encoding}
use Rattle.pir_world.specs.Runs.{Wire, whole_frames, rest_after, bytes_reached, arrived, wire_after}

pub none_arrives : (w : Wire) (most : ℕ) → w.frames ≡ [] → (arrived w most ≡ []) × ((wire_after w most).frames ≡ [])
none_arrives w most e =
    let P : List Frame → Type 0 = λ fs. (whole_frames fs (bytes_reached w most) ≡ []) × ((rest_after fs (bytes_reached w most)).frames ≡ []) in
    subst P (sym e) (refl, refl)

pub one_arrives : (w : Wire) (most : ℕ) (f : Frame) → w.frames ≡ f ∷ [] → ((arrived w most ≡ []) × ((wire_after w most).frames ≡ f ∷ []))
    ⊎ ((arrived w most ≡ f ∷ []) × ((wire_after w most).frames ≡ []))
one_arrives w most f e =
    let n : ℕ = bytes_reached w most in
    let P : List Frame → Type 0 = λ fs. ((whole_frames fs n ≡ []) × ((rest_after fs n).frames ≡ f ∷ [])) ⊎ ((whole_frames fs n ≡ f ∷ []) × ((rest_after fs n).frames ≡ [])) in
    subst P (sym e) (elim (cases_Bool (nat_le (length (encoding f)) n)) [ inl t ↦ inr (rw t refl, rw t refl) | inr t ↦ inl (rw t refl, rw t refl) ])

-- of a list of frames all come, or none
abbrev pub Split : List Frame → List Frame → List Frame → Type 0
Split all fs up2 = ((fs ≡ []) × (up2 ≡ all)) ⊎ ((fs ≡ all) × (up2 ≡ []))

pub split_none : (w : Wire) (most : ℕ) → w.frames ≡ [] → Split w.frames (arrived w most) (wire_after w most).frames
split_none w most e = let a = none_arrives w most e in inl (a.0, a.1 ∙ sym e)

pub split_one : (w : Wire) (most : ℕ) (f : Frame) → w.frames ≡ f ∷ [] → Split w.frames (arrived w most) (wire_after w most).frames
split_one w most f e = elim (one_arrives w most f e) [ inl a ↦ inl (a.0, a.1 ∙ sym e) | inr a ↦ inr (a.0 ∙ sym e, a.1) ]

-- at most one frame
abbrev pub IsFew : List Frame → Type 0
IsFew fs = (fs ≡ []) ⊎ ((f : Frame) × (fs ≡ f ∷ []))

pub split_few : (w : Wire) (most : ℕ) → IsFew w.frames → Split w.frames (arrived w most) (wire_after w most).frames
split_few w most (inl e) = split_none w most e
split_few w most (inr e) = split_one w most e.0 e.1

-- a prefix of at most one frame is none or all of it
pub split_prefix : (all fs more : List Frame) → IsFew all → all ≡ fs ++ more → Split all fs more
split_prefix all [] more few e = inl (refl, sym e)
split_prefix all (f ∷ fs) more (inl z) e = absurd (let bad : ◌≡◌ {A = List Frame} [] (f ∷ (fs ++ more)) = sym z ∙ e in cc)
split_prefix all (f ∷ fs) more (inr z) e =
    let eq : z.0 ∷ [] ≡ f ∷ (fs ++ more) = sym z.1 ∙ e in
    let tl : [] ≡ fs ++ more = cc in
    inr (let q : (fs ≡ []) × (more ≡ []) = nils fs more (sym tl) in (sym (e ∙ ap (λ (x : List Frame). (f ∷ fs) ++ x) q.1 ∙ append-nil (f ∷ fs)), q.1))
  where
    nils : (fs more : List Frame) → fs ++ more ≡ [] → (fs ≡ []) × (more ≡ [])
    nils [] more e = (refl, e)
    nils (f ∷ fs) more e = absurd cc
