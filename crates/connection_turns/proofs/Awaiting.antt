-- That something is awaited of a connection while something is owed.
use Rattle.std.proofs.Common.{◌≡◌, ◌<◌, ◌≤◌, ◌-◌, ℕ, List, [], ◌∷◌, ◌++◌, length, drop, Bool, true, false, inl, inr, refl, sym, ap, subst, ◌∙◌, arith}
use Rattle.std.specs.Prelude.{cond, ◌&&◌, nat_lt}
use Rattle.std.specs.List.{FoldsTo}
use Rattle.std.proofs.lemmas.Bool.{lt-ltb, ltb-true, eq-eqb}
use Rattle.std.proofs.lemmas.List.{length-append, length-drop, nil_from_length}
use Rattle.std.proofs.lemmas.Bool.{cases_lt}
use Rattle.connection_turns.specs.Connections.{ConnectionSeen, ConnectionMove, Receives, Ends, Answers, Writes, MovesTo, IsAwaited, ConnectionsAwait, accepted, is_progress}

-- a write leaves all else as it was
pub write_keeps : (b : Bool) (n now : ℕ) (l : ConnectionSeen)
    → (let m : ConnectionSeen = cond b (record l { owed = drop n l.owed; awaited = l.awaited - n })
    (record l { owed = drop n l.owed; progress = now; awaited = length (drop n l.owed) }) in m.unserved ≡ l.unserved)
write_keeps true n now l = refl
write_keeps false n now l = refl

-- all that is owed is awaited
whole : (owed : List ℕ) (m : ConnectionSeen) → m.owed ≡ owed → m.awaited ≡ length owed → IsAwaited m
whole owed m o a = record {
  part = omega (arith, ap length o, a);
  some = λ z. o ∙ nil_from_length owed (sym a ∙ z);
}

-- a reply that is no progress is none, or waits for others
no_progress : (awaited n : ℕ) (live : Bool) → is_progress awaited n live ≡ false → awaited ≡ 0 → n ≡ 0
no_progress awaited n false e z = cc
no_progress awaited n true e z = elim (cases_lt 0 n) [
  | inl some ↦
      let both : is_progress awaited n true ≡ true = ap (λ (b : Bool). b && nat_lt 0 n) (eq-eqb awaited 0 z) ∙ lt-ltb 0 n some in
      let no : true ≡ false = sym both ∙ e in cc
  | inr none ↦ omega (arith, none)
]

framed : (b : Bool) (reply : List ℕ) (l m : ConnectionSeen) → IsAwaited l → (b ≡ false → l.awaited ≡ 0 → length reply ≡ 0) → m.owed ≡ l.owed ++ reply
    → m.awaited ≡ cond b (length (l.owed ++ reply)) l.awaited → IsAwaited m
framed true reply l m k none o a = whole (l.owed ++ reply) m o a
framed false reply l m k none o a = record {
  part = let p = k.part in omega (arith, a, p, ap length o, length-append l.owed reply);
  some = λ z.
      let old : l.awaited ≡ 0 = sym a ∙ z in
      let no_more : reply ≡ [] = nil_from_length reply (none refl old) in
      o ∙ ap (λ (xs : List ℕ). xs ++ reply) (k.some old) ∙ no_more;
}

written : (b : Bool) (n now : ℕ) (l m : ConnectionSeen) → IsAwaited l → (b ≡ true → n < l.awaited)
    → m ≡ cond b (record l { owed = drop n l.owed; awaited = l.awaited - n })
    (record l { owed = drop n l.owed; progress = now; awaited = length (drop n l.owed) }) → IsAwaited m
written true n now l m k less e =
    let lt = less refl in
    let o : m.owed ≡ drop n l.owed = ap (λ (y : ConnectionSeen). y.owed) e in
    let a : m.awaited ≡ l.awaited - n = ap (λ (y : ConnectionSeen). y.awaited) e in
    let p = k.part in
    record {
      part = omega (arith, a, p, ap length o, length-drop n l.owed);
      some = λ z. absurd (let no : ⊥ = omega (arith, lt, a, z) in no);
    }
written false n now l m k less e =
    whole (drop n l.owed) m (ap (λ (y : ConnectionSeen). y.owed) e) (ap (λ (y : ConnectionSeen). y.awaited) e)

lt_of : (n a : ℕ) → nat_lt n a ≡ true → n < a
lt_of n a e = ltb-true n a e

awaits_one : (l : ConnectionSeen) (x : ConnectionMove) (m : ConnectionSeen) → IsAwaited l → MovesTo l x m → IsAwaited m
awaits_one l (Receives bytes) m k s = record {
  part = subst (λ (y : ConnectionSeen). y.awaited ≤ length y.owed) (sym s.1) k.part;
  some = subst (λ (y : ConnectionSeen). y.awaited ≡ 0 → y.owed ≡ []) (sym s.1) k.some;
}
awaits_one l Ends m k s = record {
  part = subst (λ (y : ConnectionSeen). y.awaited ≤ length y.owed) (sym s) k.part;
  some = subst (λ (y : ConnectionSeen). y.awaited ≡ 0 → y.owed ≡ []) (sym s) k.some;
}
awaits_one l (Answers piece reply live now) m k s =
    framed (is_progress l.awaited (length reply) live) reply l m k (no_progress l.awaited (length reply) live)
    (ap (λ (y : ConnectionSeen). y.owed) s.1) (ap (λ (y : ConnectionSeen). y.awaited) s.1)
awaits_one l (Writes bytes now) m k s =
    written (nat_lt (length bytes) l.awaited) (length bytes) now l m k (lt_of (length bytes) l.awaited) s.1

awaits_from : (moves : List ConnectionMove) (l m : ConnectionSeen) → IsAwaited l → FoldsTo MovesTo l moves m → IsAwaited m
awaits_from [] l m k e = subst IsAwaited e k
awaits_from (x ∷ moves) l m k (j, step, rest) = awaits_from moves j m (awaits_one l x j k step) rest

pub connections_await : ConnectionsAwait
connections_await moves now l f = awaits_from moves (accepted now) l (record { part = omega arith; some = λ z. refl }) f
