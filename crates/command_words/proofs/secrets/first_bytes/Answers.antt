use Rattle.std.proofs.Common.{◌≡◌, rules, ℕ, ◌+◌, ◌-◌, ◌≤◌, drop, List, ◌++◌, length, take, sym, ap, ◌∙◌, subst, le_refl, drop_at, length-take-le}
use Rattle.std.proofs.lemmas.Slice.{take-put_mid_below}
use Rattle.std.specs.Io.KnownBytes.{Consumes}
use Rattle.std.proofs.KnownBytes.{Consumes-trans}
use borrow.Rule.Slice.PartMut.{put_mid, post_of}
use lib.Seq.{take-add, take-append-le}
use Rattle.command_words.proofs.secrets.first_bytes.Goals as goal

-- what was in prefix, and what was read after it
filled : (a k n : ℕ) (xs ys : List ℕ) → a ≤ length xs → n ≤ length ys → take a xs ++ take n ys ≡ take (a + n) (put_mid a k xs ys)
filled a k n xs ys within fits =
    let after = post_of a k xs in
    let kept = take-put_mid_below a k xs ys a (le_refl a) within in
    let beyond = ap (take n) (drop_at (take a xs) (ys ++ after) a (length-take-le a xs within)) ∙ take-append-le n ys after fits in
    sym (take-add a n (put_mid a k xs ys) ∙ ap (λ (l : List ℕ). l ++ take n (drop a (put_mid a k xs ys))) kept ∙ ap (λ (l : List ℕ). take a xs ++ l) beyond)

pub loop-at-preserved : goal.loop-at-preserved
loop-at-preserved g c =
    let from = c.loop-at.at in
    let room = length c.loop-at.out - from in
    let joined = filled from room c.in-Ok.n c.loop-at.out c.read.new.buf c.loop-at.invariant.within c.in-Ok.ensures.bound.0 in
    record {
      within = search rules;
      read = subst (Consumes _ _) joined (Consumes-trans _ _ _ _ _ c.loop-at.invariant.read c.in-Ok.ensures.bytes.0);
    }
