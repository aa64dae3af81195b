-- Parts of a hint.
use Rattle.std.proofs.Common.{◌≡◌, ℕ, zero, suc, ◌-◌, ◌*◌, ◌≤◌, ◌<◌, true, false, List, length, drop, Option, Some, None, IfSome, IfNone, IsNone, ◌↔◌, Bor, refl, ap, arith, lt-ltb, le-ltb}
use Rattle.std.proofs.lemmas.List.{length-take}
use Rattle.pir_schemes.specs.declared.scheme.Scheme.{Scheme}
use Rattle.pir_schemes.specs.Parts.{part_of}
use Rattle.server_core.specs.Serving.{Setting, hint_words, has_part, hint_part}

more_than : (a b : ℕ) → (a ≤ b → ⊥) → b < a
more_than a b h = by_cases (a - b) refl
  where
    by_cases : (d : ℕ) → d ≡ a - b → b < a
    by_cases zero e = absurd (h (omega arith))
    by_cases (suc d) e = omega arith

pub part_none : (x : Setting) (k : Scheme) (records : List (List ℕ)) (part : ℕ) (r : Option (Bor (List ℕ))) →
    IsNone r ↔ (length (hint_words x k records) ≤ 65536 * part) → IfNone r (has_part x k records part ≡ false)
unfolding has_part
part_none x k records part None e = le-ltb _ _ (e.0 refl)
part_none x k records part (Some w) e = tt

pub part_some : (x : Setting) (k : Scheme) (records : List (List ℕ)) (part : ℕ) (r : Option (Bor (List ℕ))) →
    IsNone r ↔ (length (hint_words x k records) ≤ 65536 * part) → IfSome r (λ words. has_part x k records part ≡ true)
unfolding has_part
part_some x k records part None e = tt
part_some x k records part (Some w) e =
    lt-ltb (65536 * part) (length (hint_words x k records))
    (more_than (length (hint_words x k records)) (65536 * part) (λ le. let bad : true ≡ false = e.1 le in absurd cc))

pub part_is : (x : Setting) (k : Scheme) (records : List (List ℕ)) (part : ℕ) (r : Option (Bor (List ℕ))) →
    IfSome r (λ words. words.now ≡ part_of (hint_words x k records) part) → IfSome r (λ words. words.now ≡ hint_part x k records part)
unfolding hint_part
part_is x k records part None e = tt
part_is x k records part (Some w) e = e

pub part_few : (list : List ℕ) (part : ℕ) (r : Option (Bor (List ℕ))) → IfSome r (λ words. words.now ≡ part_of list part) →
    IfSome r (λ words. length words.now ≤ 65536)
part_few list part None e = tt
part_few list part (Some w) e = let l : length w.now ≡ length (part_of list part) =
    ap length e in omega (arith, l, length-take 65536 (drop (65536 * part) list))
