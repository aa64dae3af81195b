-- That no connection that was idle when its turn came stays in its place.
use Rattle.std.proofs.Common.{◌≡◌, ◌<◌, ◌≤◌, ◌+◌, ◌-◌, ℕ, Bool, true, false, List, length, Option, None, Some, IfSome, slice_get, get_or, set, inl, inr, refl, sym, ap, subst, ◌∙◌, arith}
use Rattle.std.proofs.lemmas.Bool.{cases_eq, cases_lt}
use Rattle.std.proofs.lemmas.List.{get_or-set_other, get_or_past, length-set}
use Rattle.std.proofs.lemmas.Option.{slice_get_past, slice_get-get_or}
use Rattle.std.specs.Prelude.{option_map}
use Rattle.server_core.specs.Cores.{Core}
use Rattle.connection_turns.specs.Runs.{DoesToCore, Closes}
use Rattle.connection_table.specs.declared.connection.ServedConnection.{ServedConnection}
use Rattle.connection_table.specs.declared.connection.TurnResult.{TurnResult}
use Rattle.connection_table.specs.Judging.{GoesOn, IsIdle}
use Rattle.mio_server.specs.Turns.{HasBeenIdle, unflagged, HasNoIdle, HasTurn, OnlyFlagsChange, OthersStayOrGo}
use Rattle.connection_table.specs.Places.{connection_at}
use Rattle.mio_server.specs.Sessions.{PutsOrEvicts}
use Rattle.mio_server.proofs.Leaving.{freed, given_there}
use Rattle.mio_server.proofs.Flags.{bare_there}
use Rattle.connection_table.proofs.Turned.{either_end}

-- what holds of none holds when a place is freed
pub none_is : (P : ServedConnection → Type 0) (o : Option ServedConnection) → o ≡ None → IfSome o P
none_is P o e = subst (λ (k : Option ServedConnection). IfSome k P) (sym e) tt

-- what holds of the connection in a place holds there also when one place, it or another, was freed
freed_holds : (P : ServedConnection → Type 0) (places : List (Option ServedConnection)) (p i : ℕ) → IfSome (connection_at places i) P → IfSome (connection_at (set places p None) i) P
freed_holds P places p i h = elim (cases_eq i p) [
  | inl e ↦ none_is P (connection_at (set places p None) i) (subst (λ k. connection_at (set places p None) k ≡ None) (sym e) (freed places p))
  | inr ne ↦ subst (λ (k : Option ServedConnection). IfSome k P) (sym (get_or-set_other places p i None None ne)) h
]

-- what holds of a connection that is put into a place holds there
pub settled_holds : (P : ServedConnection → Type 0) (place : ℕ) (c : ServedConnection) (before : List (Option ServedConnection)) (old : Core) (after : List (Option ServedConnection)) (new : Core)
    → place < length before → P c → PutsOrEvicts place c before old after new → IfSome (connection_at after place) P
settled_holds P place c before old after new within h (inl (is, _)) =
    subst (λ (k : List (Option ServedConnection)). IfSome (connection_at k place) P) (sym is)
    (subst (λ (k : Option ServedConnection). IfSome k P) (sym (given_there before place (Some c) within)) h)
settled_holds P place c before old after new within h (inr (lost, goes, _)) =
    subst (λ (k : List (Option ServedConnection)). IfSome (connection_at k place) P) (sym goes.after_is)
    (freed_holds P (set before place (Some c)) goes.place place
    (subst (λ (k : Option ServedConnection). IfSome k P) (sym (given_there before place (Some c) within)) h))

-- what holds of a connection that goes on holds in its place after the turn
pub concluded_holds : (P : ServedConnection → Type 0) (o : TurnResult) (place : ℕ) (d : ServedConnection) (places before : List (Option ServedConnection)) (mid : Core) (after : List (Option ServedConnection)) (new : Core)
    → before ≡ set places place None → place < length places
    → (GoesOn o → PutsOrEvicts place d before mid after new) → ((GoesOn o → ⊥) → (after ≡ before) × DoesToCore mid (Closes d.id) new)
    → (GoesOn o → P d) → IfSome (connection_at after place) P
concluded_holds P o place d places before mid after new is_freed within puts closes h = either_end (IfSome (connection_at after place) P) o
    (λ g. settled_holds P place d before mid after new
    (subst (λ (k : List (Option ServedConnection)). place < length k) (sym is_freed) (subst (λ n. place < n) (sym (length-set places place None)) within)) (h g) (puts g))
    (λ n. none_is P (connection_at after place) (ap (λ (k : List (Option ServedConnection)). connection_at k place) ((closes n).0 ∙ is_freed) ∙ freed places place))

idle_later : (idle scanned progress now : ℕ) → idle ≤ scanned - progress → progress ≤ scanned → scanned ≤ now → idle ≤ now - progress
idle_later idle scanned progress now a b c = omega (arith, a, b, c)

-- a connection that was idle at a moment is idle at each later one
pub stays_idle : (c : ServedConnection) (moment now idle : ℕ) → moment ≤ now → HasBeenIdle c moment idle → IsIdle c now idle
stays_idle c moment now idle le h = record {
  stays = h.idles.stays;
  nothing = h.idles.nothing;
  late = idle_later idle moment c.state.progress now h.idles.late h.began le;
}

bared : (c : ServedConnection) (moment idle : ℕ) → HasBeenIdle c moment idle → HasBeenIdle (unflagged c) moment idle
bared c moment idle h = record {
  idles = record { stays = h.idles.stays; nothing = h.idles.nothing; late = h.idles.late };
  began = h.began;
}

unbared : (c : ServedConnection) (moment idle : ℕ) → HasBeenIdle (unflagged c) moment idle → HasBeenIdle c moment idle
unbared c moment idle h = record {
  idles = record { stays = h.idles.stays; nothing = h.idles.nothing; late = h.idles.late };
  began = h.began;
}

bare_active : (o p : Option ServedConnection) (moment idle : ℕ) → option_map unflagged p ≡ option_map unflagged o
    → IfSome o (λ c. HasBeenIdle c moment idle → ⊥) → IfSome p (λ c. HasBeenIdle c moment idle → ⊥)
bare_active o None moment idle e h = tt
bare_active o (Some c) moment idle e h =
    let there = bare_there o (Some c) c e refl in
    let active : HasBeenIdle there.0 moment idle → ⊥ = subst (λ (k : Option ServedConnection). IfSome k (λ x. HasBeenIdle x moment idle → ⊥)) there.1 h in
    λ was. active (unbared there.0 moment idle (subst (λ (k : ServedConnection). HasBeenIdle k moment idle) there.2 (bared c moment idle was)))

-- flags decide nothing of what is idle
pub flags_active : (before after : List (Option ServedConnection)) (moment idle i : ℕ) → OnlyFlagsChange before after
    → IfSome (connection_at before i) (λ c. HasBeenIdle c moment idle → ⊥) → IfSome (connection_at after i) (λ c. HasBeenIdle c moment idle → ⊥)
flags_active before after moment idle i flags h = bare_active (connection_at before i) (connection_at after i) moment idle (flags i) h

-- no idle connection comes by a turn
pub visit_stays : (before mid after : List (Option ServedConnection)) (place moment idle : ℕ) → OthersStayOrGo place before mid → HasNoIdle mid place moment idle
    → OnlyFlagsChange mid after → (i : ℕ) → HasNoIdle before i moment idle → HasNoIdle after i moment idle
visit_stays before mid after place moment idle others here flags i h = flags_active mid after moment idle i flags (elim (cases_eq i place) [
  | inl e ↦ subst (λ k. HasNoIdle mid k moment idle) (sym e) here
  | inr ne ↦ elim (others i ne) [
    | inl same ↦ subst (λ (k : Option ServedConnection). IfSome k (λ c. HasBeenIdle c moment idle → ⊥)) (sym same) h
    | inr gone ↦ none_is (λ c. HasBeenIdle c moment idle → ⊥) (connection_at mid i) gone
  ]
])

-- what holds at each index below the end holds at each
pub each_index : (P : ℕ → Type 0) (xs : List ℕ) (n : ℕ) → length xs ≤ n → ((k : ℕ) → k < n → IfSome (slice_get xs k) P) → (k : ℕ) → IfSome (slice_get xs k) P
each_index P xs n le h k = elim (cases_lt k n) [
  | inl below ↦ h k below
  | inr past ↦ let far : length xs ≤ k = omega (arith, le, past) in
      subst (λ (o : Option ℕ). IfSome o P) (sym (slice_get_past xs k far)) tt
]

-- what holds at each place holds past the last, too
pub each_place : (places after : List (Option ServedConnection)) (n moment idle : ℕ) → length places ≤ n
    → ((i : ℕ) → HasNoIdle places i moment idle → HasNoIdle after i moment idle)
    → ((i : ℕ) → i < n → HasNoIdle after i moment idle) → (i : ℕ) → HasNoIdle after i moment idle
each_place places after n moment idle le stays h i = elim (cases_lt i n) [
  | inl below ↦ h i below
  | inr past ↦ let far : length places ≤ i = omega (arith, le, past) in
      stays i (none_is (λ c. HasBeenIdle c moment idle → ⊥) (connection_at places i) (get_or_past places i None far))
]

-- what holds of each number that is noted holds of one that is among them
pub of_noted : (P : ℕ → Type 0) (xs : List ℕ) (i k : ℕ) → slice_get xs k ≡ Some i → IfSome (slice_get xs k) P → P i
of_noted P xs i k is h = subst (λ (o : Option ℕ). IfSome o P) is h

-- a connection that has a turn has it among those that are noted, or with all
pub turn_taken : (all : Bool) (ready still : List ℕ) (P Q : ℕ → Type 0) → (all ≡ true → (i : ℕ) → P i) → ((i : ℕ) → P i → Q i)
    → (all ≡ false → still ≡ ready) → ((k : ℕ) → IfSome (slice_get still k) Q) → (i : ℕ) → HasTurn all ready i → Q i
turn_taken true ready still P Q each stays same noted i turn = stays i (each refl i)
turn_taken false ready still P Q each stays same noted i (inl never) = cc
turn_taken false ready still P Q each stays same noted i (inr (k, is)) =
    of_noted Q still i k (subst (λ (r : List ℕ). slice_get r k ≡ Some i) (sym (same refl)) is) (noted k)

-- what keeps a connection that was not idle at a moment keeps it at a moment that is the same
pub stays_moved : (before after : List (Option ServedConnection)) (s t s0 t0 : ℕ) → s ≡ s0 → t ≡ t0
    → ((i : ℕ) → HasNoIdle before i s t → HasNoIdle after i s t) → (i : ℕ) → HasNoIdle before i s0 t0 → HasNoIdle after i s0 t0
stays_moved before after s t s0 t0 es et stays i h =
    subst (λ (x : ℕ). HasNoIdle after i x t0) es (subst (λ (x : ℕ). HasNoIdle after i s x) et (stays i
    (subst (λ (x : ℕ). HasNoIdle before i x t) (sym es) (subst (λ (x : ℕ). HasNoIdle before i s0 x) (sym et) h))))

-- a connection that was not idle at a moment was not at one that is the same
pub here_moved : (after : List (Option ServedConnection)) (i s t s0 t0 : ℕ) → s ≡ s0 → t ≡ t0 → HasNoIdle after i s t → HasNoIdle after i s0 t0
here_moved after i s t s0 t0 es et h = subst (λ (x : ℕ). HasNoIdle after i x t0) es (subst (λ (x : ℕ). HasNoIdle after i s x) et h)

-- what holds of one and of all below holds of all below the next
pub below_next : (P : ℕ → Type 0) (place i : ℕ) → i < place + 1 → P place → (i < place → P i) → P i
below_next P place i lt here lower = elim (cases_lt i place) [
  | inl below ↦ lower below
  | inr past ↦ let e : i ≡ place = omega (arith, lt, past) in subst P (sym e) here
]

-- what holds of a number that is read at an index holds there
pub at_index : (P : ℕ → Type 0) (turns ready : List ℕ) (at x : ℕ) → turns ≡ ready → at < length ready → x ≡ get_or turns at x → P x → IfSome (slice_get ready at) P
at_index P turns ready at x same lt e h =
    let there : x ≡ get_or ready at x = subst (λ (xs : List ℕ). x ≡ get_or xs at x) same e in
    subst (λ (o : Option ℕ). IfSome o P) (sym (slice_get-get_or ready at x lt)) (subst P there h)

if_some : (P Q : ℕ → Type 0) (o : Option ℕ) → ((i : ℕ) → P i → Q i) → IfSome o P → IfSome o Q
if_some P Q None h p = tt
if_some P Q (Some i) h p = h i p

-- what follows of each number follows of the one at an index
pub shown_at : (P Q : ℕ → Type 0) (xs : List ℕ) (k : ℕ) → ((i : ℕ) → P i → Q i) → IfSome (slice_get xs k) P → IfSome (slice_get xs k) Q
shown_at P Q xs k h p = if_some P Q (slice_get xs k) h p
