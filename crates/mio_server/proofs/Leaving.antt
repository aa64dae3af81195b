-- What connections that come to places and leave them make of the others.
use Rattle.std.proofs.Common.{◌≡◌, ◌<◌, ◌≤◌, ◌-◌, ℕ, List, length, Option, None, Some, set, inl, inr, sym, ap, subst, ◌∙◌}
use Rattle.std.proofs.lemmas.Bool.{cases_eq, cases_lt}
use Rattle.std.proofs.lemmas.List.{get_or-set_same, get_or-set_other, get_or_past, length-set}
use Rattle.server_core.specs.Cores.{Core, session_of}
use Rattle.connection_turns.specs.Runs.{OthersStay, DoesToCore, Closes}
use Rattle.connection_table.specs.declared.connection.ServedConnection.{ServedConnection}
use Rattle.connection_table.specs.Places.{connection_at}
use Rattle.mio_server.specs.Turns.{OthersStayOrGo}
use Rattle.mio_server.specs.Sessions.{PutsOrEvicts, SessionsStayOrGo}

-- a place that is given a connection, or none
pub given_there : (places : List (Option ServedConnection)) (i : ℕ) (c : Option ServedConnection) → i < length places → connection_at (set places i c) i ≡ c
given_there places i c within = get_or-set_same places i c None within

-- a place that is freed is free, even one that doesn't exist
pub freed : (places : List (Option ServedConnection)) (i : ℕ) → connection_at (set places i None) i ≡ None
freed places i = elim (cases_lt i (length places)) [
  | inl within ↦ get_or-set_same places i None None within
  | inr past ↦ get_or_past (set places i None) i None (subst (λ n. n ≤ i) (sym (length-set places i None)) past)
]

-- if there is a connection there is a place
pub is_within : (places : List (Option ServedConnection)) (i : ℕ) (c : ServedConnection) → connection_at places i ≡ Some c → i < length places
is_within places i c there = elim (cases_lt i (length places)) [
  | inl within ↦ within
  | inr past ↦ let no : None ≡ Some c = sym (get_or_past places i None past) ∙ there in cc
]

-- others stay if one place is given something
pub others_stay : (places : List (Option ServedConnection)) (place : ℕ) (c : Option ServedConnection) → OthersStayOrGo place places (set places place c)
others_stay places place c = λ i ne. inl (get_or-set_other places place i c None ne)

-- others stay or go
pub goes_on : (place : ℕ) (a b c : List (Option ServedConnection)) → OthersStayOrGo place a b → OthersStayOrGo place b c → OthersStayOrGo place a c
goes_on place a b c first second = λ i ne. elim (second i ne) [
  | inl same ↦ elim (first i ne) [ inl before ↦ inl (same ∙ before) | inr gone ↦ inr (same ∙ gone) ]
  | inr gone ↦ inr gone
]

-- if any place is freed, the others stay or go
pub one_goes : (place p : ℕ) (places : List (Option ServedConnection)) → OthersStayOrGo place places (set places p None)
one_goes place p places = λ i ne. elim (cases_eq i p) [
  | inl e ↦ inr (subst (λ k. connection_at (set places p None) k ≡ None) (sym e) (freed places p))
  | inr other ↦ inl (get_or-set_other places p i None None other)
]

-- a connection that is put into a place leaves the others, but for one that may go
pub settles_others : (place : ℕ) (c : ServedConnection) (before : List (Option ServedConnection)) (old : Core) (after : List (Option ServedConnection)) (new : Core)
    → PutsOrEvicts place c before old after new → OthersStayOrGo place before after
settles_others place c before old after new (inl (is, _)) = subst (OthersStayOrGo place before) (sym is) (others_stay before place (Some c))
settles_others place c before old after new (inr (lost, goes, _)) =
    goes_on place before (set before place (Some c)) after (others_stay before place (Some c))
    (subst (OthersStayOrGo place (set before place (Some c))) (sym goes.after_is) (one_goes place goes.place (set before place (Some c))))

-- sessions stay or go
pub closes_others : (id lost : ℕ) (a b c : Core) → OthersStay id a b → DoesToCore b (Closes lost) c → SessionsStayOrGo id a c
closes_others id lost a b c stay closes = λ other ne. elim (cases_eq other lost) [
  | inl e ↦ inr (subst (λ k. session_of c.sessions k ≡ None) (sym e) closes.0)
  | inr server ↦ inl (closes.2 other server ∙ stay other ne)
]

-- a connection that is put into a place leaves the sessions, but for one that may go
pub settles_sessions : (id place : ℕ) (c : ServedConnection) (before : List (Option ServedConnection)) (first old : Core) (after : List (Option ServedConnection)) (new : Core)
    → OthersStay id first old → PutsOrEvicts place c before old after new → SessionsStayOrGo id first new
settles_sessions id place c before first old after new stay (inl (_, is)) =
    λ other ne. inl (ap (λ (k : Core). session_of k.sessions other) is ∙ stay other ne)
settles_sessions id place c before first old after new stay (inr (lost, _, closes)) = closes_others id lost.id first old new stay closes
