-- Where lines end, and the words of a line.
use Rattle.std.proofs.Common.{◌≡◌, ◌≤◌, ◌<◌, ℕ, List, [], ◌∷◌, length, get_or, take, drop, ◌+◌, ◌-◌, length-drop, Bool, true, false, not, cond, Option, Some, None, refl, sym, ap, subst, ◌∙◌, ◌==◌, nat_lt, arith}
use Rattle.std.specs.List.{slice_split, onto_first, before_first, after_first, position_or_len, All}
use Rattle.std.proofs.lemmas.Bool.{ltb-false}
use Rattle.std.proofs.lemmas.Bool.Decides.{Decides-ltb}
use Rattle.std.proofs.Math.Dec.{eqb-suc-zero}
use Rattle.std.proofs.Math.Seq.{drop-length}
use Rattle.std.proofs.lemmas.List.{take_all}
use Rattle.std.proofs.lemmas.List.Elements.{All-from_get_or}
use Rattle.std.proofs.lemmas.List.Splits.{slice_split_first, slice_split_none}
use Rattle.std.proofs.lemmas.List.Sums.{prefix_len_passes}
use Rattle.world_script.specs.Lines.{lines_of, lines_of_parts}

-- there is a first part
pub record HasFirst (parts : List (List ℕ)) : Type 0 where
  pub first : List ℕ
  pub others : List (List ℕ)
  pub is : parts ≡ first ∷ others

pub HasFirst-onto : (x : ℕ) (parts : List (List ℕ)) → HasFirst (onto_first x parts)
HasFirst-onto x [] = record { first = x ∷ []; others = []; is = refl }
HasFirst-onto x (part ∷ parts) = record { first = x ∷ part; others = parts; is = refl }

pub HasFirst-split : (p : ℕ → Bool) (xs : List ℕ) → HasFirst (slice_split p xs)
HasFirst-split p [] = record { first = []; others = []; is = refl }
HasFirst-split p (x ∷ xs) =
    elim (p x) as (λ b. HasFirst (cond b ([] ∷ slice_split p xs) (onto_first x (slice_split p xs)))) [
      | true ↦ record { first = []; others = slice_split p xs; is = refl }
      | false ↦ HasFirst-onto x (slice_split p xs)
    ]

-- a part that others follow is a line
pub lines_of_parts-more : (part : List ℕ) (parts : List (List ℕ)) → HasFirst parts → lines_of_parts (part ∷ parts) ≡ part ∷ lines_of_parts parts
lines_of_parts-more part parts h =
    subst (λ (ps : List (List ℕ)). lines_of_parts (part ∷ ps) ≡ part ∷ lines_of_parts ps) (sym h.is) refl

-- the first line ends at the first line feed
pub lines_of-first : (xs : List ℕ) → position_or_len (λ b. b == 10) xs < length xs →
    lines_of xs ≡ before_first (λ b. b == 10) xs ∷ lines_of (after_first (λ b. b == 10) xs)
lines_of-first xs h =
    ap lines_of_parts (slice_split_first (λ b. b == 10) xs 0 h)
    ∙ lines_of_parts-more (before_first (λ b. b == 10) xs) (slice_split (λ b. b == 10) (after_first (λ b. b == 10) xs))
    (HasFirst-split (λ b. b == 10) (after_first (λ b. b == 10) xs))

not_true : (b : Bool) → not b ≡ true → b ≡ false
not_true true e = cc
not_true false e = refl

-- a list in which none passes
pub none_passes : (p : ℕ → Bool) (xs : List ℕ) → length xs ≤ position_or_len p xs → All (λ x. p x ≡ false) xs
none_passes p xs h =
    All-from_get_or (λ (x : ℕ). p x ≡ false) xs 0
    (λ (i : ℕ) (lt : i < length xs). not_true (p (get_or xs i 0)) (prefix_len_passes (λ (x : ℕ). not (p x)) xs i 0 (omega (arith, lt, h))))

-- with no line feed all of it is a line
pub lines_of-last : (x : ℕ) (xs : List ℕ) → length (x ∷ xs) ≤ position_or_len (λ b. b == 10) (x ∷ xs) → lines_of (x ∷ xs) ≡ (x ∷ xs) ∷ []
lines_of-last x xs h =
    ap lines_of_parts (slice_split_none (λ b. b == 10) (x ∷ xs) (none_passes (λ b. b == 10) (x ∷ xs) h))
    ∙ ap (λ (b : Bool). cond b [] ((x ∷ xs) ∷ [])) (eqb-suc-zero (length xs))

some_of : (b : Bool) (p at : ℕ) → cond b (Some p) None ≡ Some at → (b ≡ true) × (at ≡ p)
some_of true p at e = (refl, cc)
some_of false p at e = cc

none_of : (b : Bool) (p : ℕ) → cond b (Some p) None ≡ None → b ≡ false
none_of true p e = cc
none_of false p e = refl

-- where the first line feed is
pub found_at : (r : Option ℕ) (p n at : ℕ) → r ≡ cond (nat_lt p n) (Some p) None → r ≡ Some at → (p < n) × (at ≡ p)
found_at r p n at e h =
    let k : (nat_lt p n ≡ true) × (at ≡ p) = some_of (nat_lt p n) p at (sym e ∙ h) in
    ((Decides-ltb p n).0 (k.0), k.1)

not_below : (p n : ℕ) → nat_lt p n ≡ false → n ≤ p
not_below p n e = ltb-false p n e

-- there is none
pub not_found : (r : Option ℕ) (p n : ℕ) → r ≡ cond (nat_lt p n) (Some p) None → r ≡ None → n ≤ p
not_found r p n e h = not_below p n (none_of (nat_lt p n) p (sym e ∙ h))

-- the first line and what follows it, if there is a line feed at some place
pub cut_at : (s : List ℕ) (at : ℕ) → (position_or_len (λ b. b == 10) s < length s) × (at ≡ position_or_len (λ b. b == 10) s) →
    (lines_of s ≡ take at s ∷ lines_of (take (length s - (at + 1)) (drop (at + 1) s))) × (length (take (length s - (at + 1)) (drop (at + 1) s)) < length s)
cut_at s at h =
    let lt : position_or_len (λ b. b == 10) s < length s = h.0 in
    let is : at ≡ position_or_len (λ b. b == 10) s = h.1 in
    let len : length (drop (at + 1) s) ≡ length s - (at + 1) = length-drop (at + 1) s in
    let whole : take (length s - (at + 1)) (drop (at + 1) s) ≡ drop (at + 1) s = take_all (length s - (at + 1)) (drop (at + 1) s) (omega (arith, len)) in (
      subst (λ (n : ℕ). lines_of s ≡ take n s ∷ lines_of (drop (n + 1) s)) (sym is) (lines_of-first s lt)
          ∙ ap (λ (r : List ℕ). take at s ∷ lines_of r) (sym whole),
      subst (λ (r : List ℕ). length r < length s) (sym whole) (omega (arith, len, lt, is)),
    )

-- the last line, if there is no line feed
pub cut_none : (s : List ℕ) → (length s == 0) ≡ false → length s ≤ position_or_len (λ b. b == 10) s →
    (lines_of s ≡ s ∷ lines_of (take (length s - length s) (drop (length s) s))) × (length (take (length s - length s) (drop (length s) s)) < length s)
cut_none [] e h = cc
cut_none (x ∷ xs) e h =
    let empty : take (length (x ∷ xs) - length (x ∷ xs)) (drop (length (x ∷ xs)) (x ∷ xs)) ≡ [] =
    ap (take (length (x ∷ xs) - length (x ∷ xs))) (drop-length (x ∷ xs))
    ∙ take_all (length (x ∷ xs) - length (x ∷ xs)) [] (omega arith) in (
      lines_of-last x xs h ∙ ap (λ (r : List ℕ). (x ∷ xs) ∷ lines_of r) (sym empty),
      subst (λ (r : List ℕ). length r < length (x ∷ xs)) (sym empty) (omega arith),
    )
