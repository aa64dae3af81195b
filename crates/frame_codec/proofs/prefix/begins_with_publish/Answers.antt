use Rattle.std.proofs.Common.{◌≡◌, ◌≤◌, ◌≢◌, ◌↔◌, ◌∙◌, IsTrue, Bool, List, ℕ, [], ◌∷◌, ◌++◌, length, take, drop, nat_eq, refl, sym, ap, arith, rules}
use Rattle.std.specs.Cmp.Lexicographic.{pointwise}
use Rattle.std.proofs.lemmas.Bool.{eqb-true}
use Rattle.std.proofs.lemmas.Bool.Decides.{Decides-eqb}
use Rattle.std.proofs.lemmas.Slice.Eq.{slice_eq-Decides}
use Rattle.std.proofs.lemmas.List.{length-take, take_all, take_at, take-append-drop}
use Rattle.frame_codec.specs.declared.frame.Frame.TheVariants.{Publish}
use Rattle.frame_codec.specs.Numbers.{number_bytes}
use Rattle.frame_codec.specs.Frames.{encoding, payload_of}
use Rattle.frame_codec.proofs.prefix.begins_with_publish.Goals as goal

-- the five bytes of the frame Publish
publish_is : encoding Publish ≡ 0 ∷ 0 ∷ 0 ∷ 0 ∷ 7 ∷ []
unfolding encoding payload_of number_bytes
publish_is = refl

-- bytes that begin with five are these and then the others
five_of : (bytes : List ℕ) → take 5 bytes ≡ encoding Publish → (more : List ℕ) × (bytes ≡ encoding Publish ++ more)
five_of bytes e = (drop 5 bytes, sym (take-append-drop 5 bytes) ∙ ap (λ (x : List ℕ). x ++ drop 5 bytes) e)

-- bytes that are the five and then others begin with the five
of_five : (bytes more : List ℕ) → bytes ≡ encoding Publish ++ more → take 5 bytes ≡ encoding Publish
of_five bytes more e = ap (take 5) e ∙ take_at (encoding Publish) more 5 (ap length publish_is)

-- a test of the first five bytes
tells : (header bytes : List ℕ) (r : Bool) → length header ≡ 5 → take 5 header ≡ take 5 bytes → r ≡ pointwise nat_eq header (0 ∷ 0 ∷ 0 ∷ 0 ∷ 7 ∷ []) →
    IsTrue r ↔ ((more : List ℕ) × (bytes ≡ encoding Publish ++ more))
tells header bytes r n e is =
    let d = slice_eq-Decides Decides-eqb header (0 ∷ 0 ∷ 0 ∷ 0 ∷ 7 ∷ []) r is in
    let whole : take 5 header ≡ header = take_all 5 header (omega (arith, n)) in (
      λ t. five_of bytes (sym e ∙ whole ∙ d.0 t ∙ sym publish_is),
      λ w. d.1 (sym whole ∙ e ∙ of_five bytes w.0 w.1 ∙ publish_is),
    )

-- fewer bytes than five are not the frame's
too_few : (header bytes : List ℕ) (len : ℕ) → len ≤ 5 → len ≢ 5 → take len header ≡ take 5 bytes → (more : List ℕ) → bytes ≡ encoding Publish ++ more → ⊥
too_few header bytes len le ne e more is =
    let five : length (take 5 bytes) ≡ 5 = ap length (of_five bytes more is ∙ publish_is) in
    omega (arith, five, ap length e, length-take len header)

pub returns-then-len-eq-HEADER_LEN : goal.returns-then-len-eq-HEADER_LEN
returns-then-len-eq-HEADER_LEN c =
    tells c.header_of-len.result.0 (c.args.first.now ++ c.args.rest.now) c.eq.result (search rules)
    (rw c.if-len-eq-HEADER_LEN.true at c.header_of-len.ensures.bytes) c.eq.ensures

pub returns-else-len-eq-HEADER_LEN : goal.returns-else-len-eq-HEADER_LEN
returns-else-len-eq-HEADER_LEN c = (
  λ t. absurd (c.if-len-eq-HEADER_LEN.false (eqb-true c.header_of-len.result.1 5 t)),
  λ w. absurd (too_few c.header_of-len.result.0 (c.args.first.now ++ c.args.rest.now) c.header_of-len.result.1 c.header_of-len.ensures.within
      c.if-len-eq-HEADER_LEN.false c.header_of-len.ensures.bytes w.0 w.1),
)
