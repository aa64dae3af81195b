-- Frames that differ in the words of queries and answers alone, and wires of such frames.
use Rattle.std.proofs.Common.{◌≡◌, ℕ, ◌+◌, ◌-◌, ◌*◌, List, [], ◌∷◌, ◌++◌, length, refl, sym, ap, ◌∙◌, inl, inr}
use Rattle.std.specs.Prelude.{min, nat_le}
use Rattle.std.specs.List.{flat_map}
use Rattle.std.proofs.lemmas.Bool.{cases_Bool}
use Rattle.std.proofs.lemmas.List.{length-append}
use Rattle.std.proofs.lemmas.List.Concat.{flat_map-cons}
use Rattle.frame_codec.specs.declared.frame.Frame.{Frame}
use Rattle.frame_codec.specs.declared.frame.Frame.TheVariants.{Query, Answer}
use Rattle.frame_codec.specs.Frames.{kind_of, payload_size, encoding}
use Rattle.frame_codec.proofs.Prefixes.{encoded_length}
use Rattle.client_core.specs.Shapes.{FrameShape, shape_of_frame, frame_shape, BlankAnswer, blank_reply}
use Rattle.client_core.proofs.ShapeLaws.{sized}
use Rattle.pir_world.specs.Runs.{Wire, whole_frames, rest_after, bytes_reached, arrived, wire_after, sent}

-- the same frame, but for the words of a query or of an answer, of which there are as many
abbrev pub IsFrameLike : Frame → Frame → Type 0
IsFrameLike (Query scheme version words) g = (others : List ℕ) × (g ≡ Query scheme version others) × (length others ≡ length words)
IsFrameLike (Answer scheme version words) g = (others : List ℕ) × (g ≡ Answer scheme version others) × (length others ≡ length words)
IsFrameLike f g = g ≡ f

pub same_frame : (f g : Frame) → g ≡ f → IsFrameLike f g
same_frame (Query scheme version words) g e = (words, e, refl)
same_frame (Answer scheme version words) g e = (words, e, refl)
same_frame f g e = e

-- what a function of frames that reads no words gives
module _ {A : Type 0} (v : Frame → A)
    (query : (scheme version : ℕ) (words others : List ℕ) → length others ≡ length words →
    v (Query scheme version words) ≡ v (Query scheme version others))
    (answer : (scheme version : ℕ) (words others : List ℕ) → length others ≡ length words →
    v (Answer scheme version words) ≡ v (Answer scheme version others)) where
  equal_of : (f g : Frame) → IsFrameLike f g → v f ≡ v g
  equal_of (Query scheme version words) g e = query scheme version words e.0 e.2 ∙ ap v (sym e.1)
  equal_of (Answer scheme version words) g e = answer scheme version words e.0 e.2 ∙ ap v (sym e.1)
  equal_of f g e = ap v (sym e)

-- such frames have one shape
pub same_shape : (f g : Frame) → IsFrameLike f g → shape_of_frame f ≡ shape_of_frame g
same_shape f g e =
    sized f
    ∙ equal_of (λ (y : Frame). frame_shape (kind_of y) (payload_size y))
    (λ s v words others e. ap (λ (n : ℕ). frame_shape 5 (9 + 4 * n)) (sym e))
    (λ s v words others e. ap (λ (n : ℕ). frame_shape 133 (9 + 4 * n)) (sym e)) f g e
    ∙ sym (sized g)

-- and as replies they say the same but for their words
pub same_blank : (f g : Frame) → IsFrameLike f g → blank_reply f ≡ blank_reply g
same_blank f g e =
    equal_of blank_reply (λ s v words others e. refl) (λ s v words others e. ap (λ (n : ℕ). BlankAnswer s v n) (sym e)) f g e

same_length : (f g : Frame) → IsFrameLike f g → length (encoding f) ≡ length (encoding g)
same_length f g e =
    encoded_length f ∙ ap (λ (x : FrameShape). 5 + x.len) (same_shape f g e) ∙ sym (encoded_length g)

-- ---- lists and wires

abbrev pub AreFramesLike : List Frame → List Frame → Type 0
AreFramesLike [] [] = Unit {0}
AreFramesLike (f ∷ fs) (g ∷ gs) = IsFrameLike f g × AreFramesLike fs gs
AreFramesLike _ _ = ⊥

pub like_append : (fs gs fs2 gs2 : List Frame) → AreFramesLike fs gs → AreFramesLike fs2 gs2 → AreFramesLike (fs ++ fs2) (gs ++ gs2)
like_append [] [] fs2 gs2 p q = q
like_append (f ∷ fs) (g ∷ gs) fs2 gs2 p q = (p.0, like_append fs gs fs2 gs2 p.1 q)
like_append [] (g ∷ gs) fs2 gs2 p q = absurd p
like_append (f ∷ fs) [] fs2 gs2 p q = absurd p

pub record IsWireLike (v w : Wire) : Type 0 where
  pub frames : AreFramesLike v.frames w.frames
  pub got : w.got ≡ v.got

pub sent_like : (v w : Wire) (fs gs : List Frame) → IsWireLike v w → AreFramesLike fs gs → IsWireLike (sent v fs) (sent w gs)
sent_like v w fs gs a b = record { frames = like_append v.frames w.frames fs gs a.frames b; got = a.got }

same_total : (fs gs : List Frame) → AreFramesLike fs gs → length (flat_map encoding fs) ≡ length (flat_map encoding gs)
same_total [] [] p = refl
same_total (f ∷ fs) (g ∷ gs) p =
    ap length (flat_map-cons encoding f fs) ∙ length-append (encoding f) (flat_map encoding fs)
    ∙ ap (λ (n : ℕ). n + length (flat_map encoding fs)) (same_length f g p.0)
    ∙ ap (λ (n : ℕ). length (encoding g) + n) (same_total fs gs p.1)
    ∙ sym (ap length (flat_map-cons encoding g gs) ∙ length-append (encoding g) (flat_map encoding gs))
same_total [] (g ∷ gs) p = absurd p
same_total (f ∷ fs) [] p = absurd p

same_reach : (v w : Wire) (most : ℕ) → IsWireLike v w → bytes_reached v most ≡ bytes_reached w most
same_reach v w most a =
    ap (λ (n : ℕ). v.got + min most (n - v.got)) (same_total v.frames w.frames a.frames)
    ∙ ap (λ (n : ℕ). n + min most (length (flat_map encoding w.frames) - n)) (sym a.got)

whole_like : (fs gs : List Frame) (n : ℕ) → AreFramesLike fs gs → AreFramesLike (whole_frames fs n) (whole_frames gs n)
whole_like [] [] n p = tt
whole_like (f ∷ fs) (g ∷ gs) n p = rw (same_length f g p.0) (elim (cases_Bool (nat_le (length (encoding g)) n)) [
  | inl t ↦ rw t (p.0, whole_like fs gs (n - length (encoding g)) p.1)
  | inr t ↦ rw t tt
])
whole_like [] (g ∷ gs) n p = absurd p
whole_like (f ∷ fs) [] n p = absurd p

unread_like : (fs gs : List Frame) (n : ℕ) → AreFramesLike fs gs → IsWireLike (rest_after fs n) (rest_after gs n)
unread_like [] [] n p = record { frames = tt; got = refl }
unread_like (f ∷ fs) (g ∷ gs) n p = rw (same_length f g p.0) (elim (cases_Bool (nat_le (length (encoding g)) n)) [
  | inl t ↦ rw t (unread_like fs gs (n - length (encoding g)) p.1)
  | inr t ↦ rw t (record { frames = p; got = refl })
])
unread_like [] (g ∷ gs) n p = absurd p
unread_like (f ∷ fs) [] n p = absurd p

-- a delivery cuts such wires alike
pub arrived_like : (v w : Wire) (most : ℕ) → IsWireLike v w → AreFramesLike (arrived v most) (arrived w most)
arrived_like v w most a = rw (same_reach v w most a) (whole_like v.frames w.frames (bytes_reached w most) a.frames)

pub beyond_like : (v w : Wire) (most : ℕ) → IsWireLike v w → IsWireLike (wire_after v most) (wire_after w most)
beyond_like v w most a = rw (same_reach v w most a) (unread_like v.frames w.frames (bytes_reached w most) a.frames)
