-- That the flags of a socket decide nothing of what is noted.
use Rattle.std.proofs.Common.{◌≡◌, ◌<◌, ◌≤◌, ℕ, List, length, Bool, Option, None, Some, set, inl, inr, refl, sym, ap, subst, ◌∙◌}
use Rattle.std.specs.Prelude.{option_map}
use Rattle.std.proofs.lemmas.Bool.{cases_eq, cases_lt}
use Rattle.std.proofs.lemmas.List.{get_or-set_same, get_or-set_other, get_or_past, length-set}
use Rattle.server_core.specs.Cores.{Core, session_of}
use Rattle.connection_table.specs.Holding.{held_by}
use Rattle.connection_table.specs.declared.connection.ServedConnection.{ServedConnection}
use Rattle.connection_table.specs.Places.{connection_at, noted}
use Rattle.mio_server.specs.Turns.{unflagged, OnlyFlagsChange}
use Rattle.mio_server.specs.Sessions.{AreNoted}

-- what is noted of a socket changes its flags alone
noted_flags : (readable writable : Bool) (o : Option ServedConnection) → option_map unflagged (noted readable writable o) ≡ option_map unflagged o
noted_flags readable writable None = refl
noted_flags readable writable (Some c) = refl

-- when a socket is noted, only its flags change
pub note_flags : (places : List (Option ServedConnection)) (place : ℕ) (readable writable : Bool)
    → OnlyFlagsChange places (set places place (noted readable writable (connection_at places place)))
note_flags places place readable writable = λ i.
    let new = noted readable writable (connection_at places place) in
    let P : Option ServedConnection → Type 0 = λ o. option_map unflagged o ≡ option_map unflagged (connection_at places i) in
    elim (cases_eq i place) [
      | inl e ↦ elim (cases_lt place (length places)) [
        | inl within ↦ subst P (sym (ap (connection_at (set places place new)) e ∙ get_or-set_same places place new None within))
            (noted_flags readable writable (connection_at places place) ∙ ap (λ k. option_map unflagged (connection_at places k)) (sym e))
        | inr past ↦
            let past_i : length places ≤ i = subst (λ k. length places ≤ k) (sym e) past in
            let past_set : length (set places place new) ≤ i = subst (λ n. n ≤ i) (sym (length-set places place new)) past_i in
            subst P (sym (get_or_past (set places place new) i None past_set))
            (ap (option_map unflagged) (sym (get_or_past places i None past_i)))
      ]
      | inr ne ↦ subst P (sym (get_or-set_other places place i new None ne)) refl
    ]

-- only flags change, from first to last
pub flags_go_on : (a b c : List (Option ServedConnection)) → OnlyFlagsChange a b → OnlyFlagsChange b c → OnlyFlagsChange a c
flags_go_on a b c first second = λ i. second i ∙ first i

-- the connection that is there but for its flags
pub bare_there : (o p : Option ServedConnection) (c : ServedConnection) → option_map unflagged p ≡ option_map unflagged o → p ≡ Some c
    → (d : ServedConnection) × (o ≡ Some d) × (unflagged c ≡ unflagged d)
bare_there None p c e is = let no : Some (unflagged c) ≡ None = ap (option_map unflagged) (sym is) ∙ e in cc
bare_there (Some d) p c e is =
    let both : Some (unflagged c) ≡ Some (unflagged d) = ap (option_map unflagged) (sym is) ∙ e in
    let same : unflagged c ≡ unflagged d = cc in (d, refl, same)

-- what is noted stays right if only flags change
pub flags_noted : (before after : List (Option ServedConnection)) (core : Core) (next : ℕ) → OnlyFlagsChange before after → AreNoted before core next → AreNoted after core next
flags_noted before after core next flags n = record {
  noted = λ i c is. let h = there i c is in
      subst (λ (k : ServedConnection). k.held ≡ held_by (session_of core.sessions k.id) k.state) (sym h.2) (n.noted i h.0 h.1);
  below = λ i c is. let h = there i c is in subst (λ (k : ServedConnection). k.id < next) (sym h.2) (n.below i h.0 h.1);
  apart = λ i j c d is js same. let h = there i c is in let k = there j d js in
      n.apart i j h.0 k.0 h.1 k.1 (sym (ap (λ (x : ServedConnection). x.id) h.2) ∙ (same ∙ ap (λ (x : ServedConnection). x.id) k.2));
} where
  there : (i : ℕ) (c : ServedConnection) → connection_at after i ≡ Some c → (d : ServedConnection) × (connection_at before i ≡ Some d) × (unflagged c ≡ unflagged d)
  there i c is = bare_there (connection_at before i) (connection_at after i) c (flags i) is
