-- Texts one after another.
use Rattle.std.proofs.Common.{◌≡◌, ℕ, ◌+◌, ◌<◌, List, [], ◌∷◌, ◌++◌, length, take, drop, get_or, true, false, Option, Result, Ok, Err, OnErr, OnOk, sym, ap, subst, ◌∙◌, append_assoc, take-append-drop, length-append, arith}
use Rattle.std.proofs.KnownBytes.{Appends-nil, Appends-trans}
use Rattle.std.proofs.Math.Seq.{take-append-add}
use Rattle.std.proofs.lemmas.List.{take-append-le}
use Rattle.std.specs.Io.KnownBytes.{Appends}
use Rattle.std.specs.Result.{is_err}
use Rattle.std.specs.List.{flat_map}
use Rattle.std.proofs.lemmas.List.{append-nil, take_more}
use Rattle.std.proofs.lemmas.List.Concat.{flat_map-cons, flat_map-append}

-- one more text
pub reported_more : {A : Type 0} → (f : A → List ℕ) (xs : List A) (i : ℕ) (x : A) → i < length xs → x ≡ get_or xs i x →
    flat_map f (take i xs) ++ f x ≡ flat_map f (take (i + 1) xs)
reported_more {A} f xs i x lt e =
    ap (λ (y : List ℕ). flat_map f (take i xs) ++ y) (sym (flat_map-cons f x [] ∙ append-nil (f x)))
    ∙ sym (flat_map-append f (take i xs) (x ∷ []))
    ∙ ap (flat_map f) (sym (take_more xs i x lt ∙ ap (λ (y : A). take i xs ++ y ∷ []) (sym e)))

-- what a fault says
pub on_err : {A E P : Type 0} (r : Result A E) → is_err r ≡ true → OnErr r P → P
on_err (Ok x) e h = cc
on_err (Err x) e h = h

-- what the lack of one says
pub on_ok : {A E P : Type 0} (r : Result A E) → is_err r ≡ false → OnOk r P → P
on_ok (Ok x) e h = h
on_ok (Err x) e h = cc

-- a part of one more text
pub reported_cut : {A : Type 0} → (f : A → List ℕ) (xs : List A) (i : ℕ) (x : A) → i < length xs → x ≡ get_or xs i x →
    (a b c : Option (List ℕ)) (text : List ℕ) → text ≡ f x → Appends a b (flat_map f (take i xs)) →
    (k : ℕ) × (k < length text) × Appends b c (take k text) →
    (n : ℕ) × (n < length (flat_map f xs)) × Appends a c (take n (flat_map f xs))
reported_cut {A} f xs i x lt e a b c text is said h =
    let S : List ℕ = flat_map f (take i xs) in
    let R : List ℕ = flat_map f (drop (i + 1) xs) in
    let all : flat_map f xs ≡ S ++ (text ++ R) =
    ap (flat_map f) (sym (take-append-drop (i + 1) xs))
    ∙ flat_map-append f (take (i + 1) xs) (drop (i + 1) xs)
    ∙ ap (λ (y : List ℕ). y ++ R) (sym (reported_more f xs i x lt e))
    ∙ append_assoc S (f x) R
    ∙ ap (λ (y : List ℕ). S ++ (y ++ R)) (sym is) in
    let short : h.0 < length text = h.1 in
    let cut : take (length S + h.0) (S ++ (text ++ R)) ≡ S ++ take h.0 text =
    take-append-add S (text ++ R) h.0 ∙ ap (λ (y : List ℕ). S ++ y) (take-append-le h.0 text R (omega (arith, short))) in
    let long : length (S ++ (text ++ R)) ≡ length S + (length text + length R) =
    length-append S (text ++ R) ∙ ap (λ (y : ℕ). length S + y) (length-append text R) in (
      length S + h.0,
      subst (λ (y : List ℕ). length S + h.0 < length y) (sym all) (omega (arith, long, short)),
      subst (λ (y : List ℕ). Appends a c (take (length S + h.0) y)) (sym all)
          (subst (Appends a c) (sym cut) (Appends-trans a b c S (take h.0 text) said h.2)),
    )

-- nothing was written
pub appends_nothing : (a : Option (List ℕ)) → Appends a a []
appends_nothing a = Appends-nil a
