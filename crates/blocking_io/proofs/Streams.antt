-- Two pieces of a stream are one.
use Rattle.std.proofs.Common.{◌≡◌, ◌<◌, ◌+◌, suc, ℕ, Bool, List, [], ◌∷◌, ◌++◌, length, take, drop, Option, Some, None, Result, Ok, Err, sym, ap, subst, ◌∙◌, append_assoc, arith}
use Rattle.std.proofs.lemmas.List.{take-append-drop, length-drop}
use Rattle.frame_codec.specs.declared.frame.Frame.{Frame}
use Rattle.frame_codec.specs.declared.reader.ReadFault.{ReadFault}
use Rattle.frame_codec.specs.declared.reader.ReadFault.TheVariants.{Failed}
use Rattle.frame_codec.specs.Streams.{Feeds}
use Rattle.frame_codec.proofs.Runs.{begins_ahead, reads_on, stops_on}
use Rattle.blocking_io.specs.Prefixes.{IsCutOff}

-- the first of both, where the first of them are whole
pub take_both : {X : Type 0} (n : ℕ) (xs ys : List X) → take (length xs + n) (xs ++ ys) ≡ xs ++ take n ys
take_both n [] ys = ap (λ k. take k ys) (omega arith)
take_both n (x ∷ xs) ys =
    let e : length (x ∷ xs) + n ≡ suc (length xs + n) = omega arith in
    ap (λ k. take k (x ∷ xs ++ ys)) e ∙ ap (λ t. x ∷ t) (take_both n xs ys)

-- a reader that is fed two pieces, the first without a fault, is fed both at once
pub feeds_both : (wide : Bool) (old : Option (List ℕ)) (p q : List ℕ) (answer : Result (Unit {0}) ReadFault) (fs gs : List Frame) (mid new : Option (List ℕ)) →
    Feeds wide old p (Ok tt) fs mid → Feeds wide mid q answer gs new → Feeds wide old (p ++ q) answer (fs ++ gs) new
feeds_both wide None p q answer fs gs mid new a b = let no : Ok tt ≡ Err Failed = a.0 in absurd cc
feeds_both wide (Some o) p q (Ok d) fs gs mid new a b =
    let second : Feeds wide (Some a.0) q (Ok d) gs new = subst (λ (m : Option (List ℕ)). Feeds wide m q (Ok d) gs new) a.2 b in (
      second.0,
      rw (sym (append_assoc o p q)) (reads_on wide ((o ++ p) ++ q) fs gs (a.0 ++ q) second.0 (begins_ahead wide (o ++ p) fs a.0 q a.1.begins) second.1),
      second.2,
    )
feeds_both wide (Some o) p q (Err fault) fs gs mid new a b =
    let second : Feeds wide (Some a.0) q (Err fault) gs new = subst (λ (m : Option (List ℕ)). Feeds wide m q (Err fault) gs new) a.2 b in
    (rw (sym (append_assoc o p q)) (stops_on wide ((o ++ p) ++ q) fs gs (a.0 ++ q) fault (begins_ahead wide (o ++ p) fs a.0 q a.1.begins) second.0), second.1)

-- what was cut off of the second part of what was owed was cut off of all
pub cut_after : (a b c : List ℕ) → IsCutOff b c → IsCutOff (a ++ b) (a ++ c)
cut_after a b c f = (f.0, ap (λ (x : List ℕ). a ++ x) f.1 ∙ sym (append_assoc a b f.0), f.2)

pub cut_taken : (n : ℕ) (xs : List ℕ) → n < length xs → IsCutOff (take n xs) xs
cut_taken n xs lt = (drop n xs, sym (take-append-drop n xs), omega (arith, length-drop n xs))
