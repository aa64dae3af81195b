-- That what is noted of each connection stays what its session keeps.
use Rattle.std.proofs.Common.{◌≡◌, ◌≢◌, ◌⊎◌, ◌<◌, ◌+◌, ℕ, zero, suc, replicate, List, length, Option, None, Some, set, inl, inr, refl, sym, ap, subst, ◌∙◌, arith}
use Rattle.std.proofs.lemmas.Bool.{cases_eq}
use Rattle.std.proofs.lemmas.List.{get_or-set_other, length-set}
use Rattle.server_core.specs.Cores.{Core, session_of}
use Rattle.connection_table.specs.Holding.{held_by}
use Rattle.connection_turns.specs.Runs.{OthersStay}
use Rattle.connection_table.specs.declared.connection.ServedConnection.{ServedConnection}
use Rattle.connection_table.specs.Places.{connection_at}
use Rattle.mio_server.specs.Sessions.{PutsOrEvicts, AreNoted}
use Rattle.mio_server.proofs.Leaving.{freed, given_there}

-- a connection that is there after a place was freed was there before, at another place
there_before : (places : List (Option ServedConnection)) (p i : ℕ) (c : ServedConnection) → connection_at (set places p None) i ≡ Some c
    → (i ≢ p) × (connection_at places i ≡ Some c)
there_before places p i c is = elim (cases_eq i p) [
  | inl e ↦ let no : None ≡ Some c = sym (freed places p) ∙ subst (λ (k : ℕ). connection_at (set places p None) k ≡ Some c) e is in cc
  | inr ne ↦ (ne, sym (get_or-set_other places p i None None ne) ∙ is)
]

-- a connection that is there after one was put into a place is that one, or was there before at
-- another place
there_after : (places : List (Option ServedConnection)) (p : ℕ) (c : ServedConnection) (i : ℕ) (d : ServedConnection) → p < length places → connection_at (set places p (Some c)) i ≡ Some d
    → ((i ≡ p) × (d ≡ c)) ⊎ ((i ≢ p) × (connection_at places i ≡ Some d))
there_after places p c i d within is = elim (cases_eq i p) [
  | inl e ↦
      let same : Some d ≡ Some c = sym is ∙ (ap (connection_at (set places p (Some c))) e ∙ given_there places p (Some c) within) in
      let only : d ≡ c = cc in inl (e, only)
  | inr ne ↦ inr (ne, sym (get_or-set_other places p i (Some c) None ne) ∙ is)
]

-- what no other session's change does to a number
kept_number : (id : ℕ) (old new : Core) → OthersStay id old new → (d : ServedConnection) → d.id ≢ id
    → d.held ≡ held_by (session_of old.sessions d.id) d.state → d.held ≡ held_by (session_of new.sessions d.id) d.state
kept_number id old new stay d ne is = is ∙ ap (λ s. held_by s d.state) (sym (stay d.id ne))

-- a connection is away from its place, and only its session has changed
pub left_noted : (places : List (Option ServedConnection)) (p : ℕ) (c : ServedConnection) (old new : Core) (next : ℕ) → connection_at places p ≡ Some c
    → AreNoted places old next → OthersStay c.id old new → AreNoted (set places p None) new next
left_noted places p c old new next there n stay = record {
  noted = λ i d is. let h = there_before places p i d is in
      kept_number c.id old new stay d (λ e. h.0 (n.apart i p d c h.1 there e)) (n.noted i d h.1);
  below = λ i d is. n.below i d (there_before places p i d is).1;
  apart = λ i j d e is js. n.apart i j d e (there_before places p i d is).1 (there_before places p j e js).1;
}

-- a place is free, and no session has changed
pub freed_noted : (places : List (Option ServedConnection)) (p : ℕ) (core : Core) (next : ℕ) → AreNoted places core next → AreNoted (set places p None) core next
freed_noted places p core next n = record {
  noted = λ i d is. n.noted i d (there_before places p i d is).1;
  below = λ i d is. n.below i d (there_before places p i d is).1;
  apart = λ i j d e is js. n.apart i j d e (there_before places p i d is).1 (there_before places p j e js).1;
}

-- no connection has this number
abbrev pub HasNone : List (Option ServedConnection) → ℕ → Type 0
HasNone places id = (i : ℕ) (d : ServedConnection) → connection_at places i ≡ Some d → d.id ≢ id

-- a connection was put into a place, with a number of its own, and what is noted of it is right
pub given_noted : (places : List (Option ServedConnection)) (p : ℕ) (c : ServedConnection) (core : Core) (next : ℕ) → p < length places
    → AreNoted places core next → HasNone places c.id → c.id < next → c.held ≡ held_by (session_of core.sessions c.id) c.state
    → AreNoted (set places p (Some c)) core next
given_noted places p c core next within n none low is = record {
  noted = λ i d there. elim (there_after places p c i d within there) [
    | inl (_, e) ↦ subst (λ (k : ServedConnection). k.held ≡ held_by (session_of core.sessions k.id) k.state) (sym e) is
    | inr (_, h) ↦ n.noted i d h
  ];
  below = λ i d there. elim (there_after places p c i d within there) [
    | inl (_, e) ↦ subst (λ (k : ServedConnection). k.id < next) (sym e) low
    | inr (_, h) ↦ n.below i d h
  ];
  apart = λ i j d e di ej same. elim (there_after places p c i d within di) [
    | inl (at_p, d_is) ↦ elim (there_after places p c j e within ej) [
      | inl (also_p, _) ↦ at_p ∙ sym also_p
      | inr (_, h) ↦ absurd (none j e h (sym same ∙ ap (λ (k : ServedConnection). k.id) d_is))
    ]
    | inr (_, g) ↦ elim (there_after places p c j e within ej) [
      | inl (_, e_is) ↦ absurd (none i d g (same ∙ ap (λ (k : ServedConnection). k.id) e_is))
      | inr (_, h) ↦ n.apart i j d e g h same
    ]
  ];
}

-- after a connection was put into a place, and one went for what is held for it or none
pub settled_noted : (place : ℕ) (c : ServedConnection) (before : List (Option ServedConnection)) (old : Core) (after : List (Option ServedConnection)) (new : Core) (next : ℕ)
    → PutsOrEvicts place c before old after new → AreNoted (set before place (Some c)) old next → AreNoted after new next
settled_noted place c before old after new next (inl (is, same)) n =
    subst (λ (k : Core). AreNoted after k next) (sym same) (subst (λ (k : List (Option ServedConnection)). AreNoted k old next) (sym is) n)
settled_noted place c before old after new next (inr (lost, goes, closes)) n =
    subst (λ (k : List (Option ServedConnection)). AreNoted k new next) (sym goes.after_is)
    (left_noted (set before place (Some c)) goes.place lost old new next goes.was_there n closes.2)

-- A connection is back in its place after a turn, in which its session alone has changed, and what
-- is noted of it is right.
pub back_noted : (places : List (Option ServedConnection)) (p : ℕ) (c d : ServedConnection) (old new : Core) (next : ℕ) → p < length places → connection_at places p ≡ Some c
    → AreNoted places old next → OthersStay c.id old new → d.id ≡ c.id → d.held ≡ held_by (session_of new.sessions d.id) d.state
    → AreNoted (set (set places p None) p (Some d)) new next
back_noted places p c d old new next within there n stay id is =
    given_noted (set places p None) p d new next (subst (λ k. p < k) (sym (length-set places p None)) within)
    (left_noted places p c old new next there n stay)
    (λ i e at_i same. let h = there_before places p i e at_i in h.0 (n.apart i p e c h.1 there (same ∙ id)))
    (subst (λ k. k < next) (sym id) (n.below p c there)) is

-- a session was opened, with the next number
pub opened_noted : (places : List (Option ServedConnection)) (old new : Core) (next : ℕ) → AreNoted places old next → OthersStay next old new
    → AreNoted places new (next + 1) × HasNone places next
opened_noted places old new next n stay = (
  record {
    noted = λ i d is. kept_number next old new stay d (other i d is) (n.noted i d is);
    below = λ i d is. let low = n.below i d is in omega arith;
    apart = n.apart;
  },
  other,
) where
  other : HasNone places next
  other i d is e = let low : d.id < next = n.below i d is in omega (arith, low, e)

-- nothing has changed but the next number
pub later_noted : (places : List (Option ServedConnection)) (core : Core) (next : ℕ) → AreNoted places core next → AreNoted places core (next + 1)
later_noted places core next n = record {
  noted = n.noted;
  below = λ i d is. let low = n.below i d is in omega arith;
  apart = n.apart;
}

none_at : (n i : ℕ) → connection_at (replicate n None) i ≡ None
none_at zero i = refl
none_at (suc n) zero = refl
none_at (suc n) (suc i) = none_at n i

-- nothing is noted if there is no connection
pub none_noted : (places : List (Option ServedConnection)) (n : ℕ) (core : Core) → places ≡ replicate n None → AreNoted places core 0
none_noted places n core is = record {
  noted = λ i c there. absurd (empty i c there);
  below = λ i c there. absurd (empty i c there);
  apart = λ i j c d there _ _. absurd (empty i c there);
} where
  empty : (i : ℕ) (c : ServedConnection) → connection_at places i ≡ Some c → ⊥
  empty i c there = let no : None ≡ Some c = sym (ap (λ k. connection_at k i) is ∙ none_at n i) ∙ there in cc

-- what is noted stays right while no session changes
pub same_noted : (places : List (Option ServedConnection)) (old new : Core) (next : ℕ) → new.sessions ≡ old.sessions → AreNoted places old next → AreNoted places new next
same_noted places old new next same n = record {
  noted = λ i c there. n.noted i c there ∙ ap (λ sessions. held_by (session_of sessions c.id) c.state) (sym same);
  below = n.below;
  apart = n.apart;
}
