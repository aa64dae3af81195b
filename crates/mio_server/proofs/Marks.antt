-- That each connection that is marked as one that will have its turn has it, and each one that is
-- idle is marked.
use Rattle.std.proofs.Common.{◌≡◌, ◌⊎◌, ◌<◌, ◌≤◌, ◌+◌, ◌-◌, ◌^◌, ◌++◌, ◌∷◌, ℕ, zero, suc, Bool, true, false, List, [], length, Option, None, Some, IfSome, Result, Ok, Err, OnOk, slice_get, set, replicate, inl, inr, refl, sym, ap, subst, ◌∙◌, arith}
use Rattle.std.proofs.lemmas.Bool.{cases_eq, cases_lt}
use Rattle.std.proofs.lemmas.List.{get_or-set_other, get_or_past, length-set}
use Rattle.std.proofs.lemmas.Option.{slice_get_within}
use Rattle.std.specs.Prelude.{min, unwrap_or}
use Rattle.server_core.specs.Cores.{Core}
use Rattle.connection_table.specs.declared.connection.ServedConnection.{ServedConnection}
use Rattle.mio_server.specs.Turns.{HasBeenIdle, AreMarkedNoted, AreQueued, ComesWithTurn, HasNoIdle, HasTurn, HasTurnIfMarked, OthersStayOrGo}
use Rattle.connection_table.specs.Judging.{due_of}
use Rattle.connection_table.specs.Places.{connection_at, noted}
use Rattle.mio_server.specs.Sessions.{PutsOrEvicts}
use Rattle.mio_server.proofs.Leaving.{settles_others, given_there}
use Rattle.mio_server.proofs.Idle.{none_is, settled_holds}

-- what was among numbers is so after one was added
still_there : (xs ys : List ℕ) (k i : ℕ) → slice_get xs k ≡ Some i → slice_get (xs ++ ys) k ≡ Some i
still_there [] ys k i is = let no : None ≡ Some i = is in cc
still_there (x ∷ xs) ys zero i is = is
still_there (x ∷ xs) ys (suc k) i is = still_there xs ys k i is

last_there : (xs : List ℕ) (i : ℕ) → slice_get (xs ++ i ∷ []) (length xs) ≡ Some i
last_there [] i = refl
last_there (x ∷ xs) i = last_there xs i

-- a number that was added has its turn
pub added_turn : (all : Bool) (xs ready : List ℕ) (i : ℕ) → ready ≡ xs ++ i ∷ [] → HasTurn all ready i
added_turn all xs ready i is = inr (length xs, subst (λ (r : List ℕ). slice_get r (length xs) ≡ Some i) (sym is) (last_there xs i))

-- each other one keeps its turn
pub kept_turn : (all : Bool) (xs ready : List ℕ) (p i : ℕ) → ready ≡ xs ++ p ∷ [] → HasTurn all xs i → HasTurn all ready i
kept_turn all xs ready p i is (inl h) = inl h
kept_turn all xs ready p i is (inr (k, h)) = inr (k, subst (λ (r : List ℕ). slice_get r k ≡ Some i) (sym is) (still_there xs (p ∷ []) k i h))

either_mark : (b : Bool) → (b ≡ true) ⊎ (b ≡ false)
either_mark true = inl refl
either_mark false = inr refl

-- what is marked in one place has its turn, if the place has it, or the connection was marked
-- before and had it
noted_marked : (readable writable : Bool) (o : Option ServedConnection) (A B : Type 0) → (A → B) → (IfSome o (λ c. c.queued ≡ false → B))
    → IfSome o (λ c. c.queued ≡ true → A) → IfSome (noted readable writable o) (λ c. c.queued ≡ true → B)
noted_marked readable writable None A B more new h = tt
noted_marked readable writable (Some c) A B more new h = λ _. elim (either_mark c.queued) [
  | inl on ↦ more (h on)
  | inr off ↦ new off
]

if_marked : (o : Option ServedConnection) (A B : Type 0) → (A → B) → IfSome o (λ c. c.queued ≡ true → A) → IfSome o (λ c. c.queued ≡ true → B)
if_marked None A B more h = tt
if_marked (Some c) A B more h = λ q. more (h q)

-- a place is noted: each marked connection still has its turn
pub note_marked : (places : List (Option ServedConnection)) (place : ℕ) (readable writable : Bool) (all all2 : Bool) (ready ready2 : List ℕ)
    → ((i : ℕ) → HasTurn all ready i → HasTurn all2 ready2 i)
    → IfSome (connection_at places place) (λ c. c.queued ≡ false → HasTurn all2 ready2 place)
    → (i : ℕ) → HasTurnIfMarked places all ready i
    → HasTurnIfMarked (set places place (noted readable writable (connection_at places place))) all2 ready2 i
note_marked places place readable writable all all2 ready ready2 more new i h =
    let o = noted readable writable (connection_at places place) in
    let P : Option ServedConnection → Type 0 = λ x. IfSome x (λ c. c.queued ≡ true → HasTurn all2 ready2 i) in
    elim (cases_eq i place) [
      | inl e ↦ elim (cases_lt place (length places)) [
        | inl within ↦ subst (λ (k : ℕ). IfSome (connection_at (set places place o) k) (λ c. c.queued ≡ true → HasTurn all2 ready2 k)) (sym e)
            (subst (λ (x : Option ServedConnection). IfSome x (λ c. c.queued ≡ true → HasTurn all2 ready2 place)) (sym (given_there places place o within))
            (noted_marked readable writable (connection_at places place) (HasTurn all ready place) (HasTurn all2 ready2 place) (more place) new
            (subst (λ (k : ℕ). HasTurnIfMarked places all ready k) e h)))
        | inr past ↦
            let past_i : length places ≤ i = subst (λ k. length places ≤ k) (sym e) past in
            none_is (λ c. c.queued ≡ true → HasTurn all2 ready2 i) (connection_at (set places place o) i)
            (get_or_past (set places place o) i None (subst (λ n. n ≤ i) (sym (length-set places place o)) past_i))
      ]
      | inr ne ↦ subst P (sym (get_or-set_other places place i o None ne))
          (if_marked (connection_at places i) (HasTurn all ready i) (HasTurn all2 ready2 i) (more i) h)
    ]

pair_turn : (o : Option ServedConnection) (A B : Type 0) → (A → B) → IfSome o (λ c. (c.queued ≡ true) × A) → IfSome o (λ c. (c.queued ≡ true) × B)
pair_turn None A B more h = tt
pair_turn (Some c) A B more h = (h.0, more h.1)

-- what comes, from first to last
pub comes_on : (a b c : List (Option ServedConnection)) (all all2 : Bool) (ready ready2 : List ℕ) (i : ℕ) → (HasTurn all ready i → HasTurn all2 ready2 i)
    → ComesWithTurn a b all ready i → ComesWithTurn b c all2 ready2 i → ComesWithTurn a c all2 ready2 i
comes_on a b c all all2 ready ready2 i more first (inr new) = inr new
comes_on a b c all all2 ready ready2 i more (inl before) (inl same) = inl (same ∙ before)
comes_on a b c all all2 ready ready2 i more (inr new) (inl same) = inr (subst (λ (o : Option ServedConnection). IfSome o (λ d. (d.queued ≡ true) × HasTurn all2 ready2 i)) (sym same)
    (pair_turn (connection_at b i) (HasTurn all ready i) (HasTurn all2 ready2 i) more new))

-- a connection that is marked and put into a place that has its turn
pub settled_comes : (place : ℕ) (c : ServedConnection) (before : List (Option ServedConnection)) (old : Core) (after : List (Option ServedConnection)) (new : Core) (all : Bool) (ready : List ℕ)
    → place < length before → c.queued ≡ true → HasTurn all ready place → PutsOrEvicts place c before old after new
    → (i : ℕ) → ComesWithTurn before after all ready i
settled_comes place c before old after new all ready within marked turn settles i = elim (cases_eq i place) [
  | inl e ↦ inr (subst (λ (k : ℕ). IfSome (connection_at after k) (λ d. (d.queued ≡ true) × HasTurn all ready k)) (sym e)
      (settled_holds (λ d. (d.queued ≡ true) × HasTurn all ready place) place c before old after new within (marked, turn) settles))
  | inr ne ↦ elim (settles_others place c before old after new settles i ne) [
    | inl same ↦ inl same
    | inr gone ↦ inr (none_is (λ d. (d.queued ≡ true) × HasTurn all ready i) (connection_at after i) gone)
  ]
]

of_pair : (o : Option ServedConnection) (A : Type 0) → IfSome o (λ c. (c.queued ≡ true) × A) → IfSome o (λ c. c.queued ≡ true → A)
of_pair None A h = tt
of_pair (Some c) A h = λ _. h.1

-- the connection that comes has its turn, and the others keep theirs
pub comes_marked : (before after : List (Option ServedConnection)) (all all2 : Bool) (ready ready2 : List ℕ) → ((i : ℕ) → HasTurn all ready i → HasTurn all2 ready2 i)
    → ((i : ℕ) → ComesWithTurn before after all2 ready2 i) → AreMarkedNoted before all ready → AreMarkedNoted after all2 ready2
comes_marked before after all all2 ready ready2 more comes marked i = elim (comes i) [
  | inl same ↦ subst (λ (o : Option ServedConnection). IfSome o (λ c. c.queued ≡ true → HasTurn all2 ready2 i)) (sym same)
      (if_marked (connection_at before i) (HasTurn all ready i) (HasTurn all2 ready2 i) (more i) (marked i))
  | inr new ↦ of_pair (connection_at after i) (HasTurn all2 ready2 i) new
]

-- the connection at a place is marked if it was idle at a moment
abbrev pub IsMarkedIfIdle : List (Option ServedConnection) → ℕ → ℕ → ℕ → Type 0
IsMarkedIfIdle places i moment idle = IfSome (connection_at places i) (λ c. HasBeenIdle c moment idle → c.queued ≡ true)

weaker : (o : Option ServedConnection) (moment idle : ℕ) → IfSome o (λ c. HasBeenIdle c moment idle → ⊥) → IfSome o (λ c. HasBeenIdle c moment idle → c.queued ≡ true)
weaker None moment idle h = tt
weaker (Some c) moment idle h = λ was. absurd (h was)

pair_mark : (o : Option ServedConnection) (moment idle : ℕ) (A : Type 0) → IfSome o (λ c. (c.queued ≡ true) × A) → IfSome o (λ c. HasBeenIdle c moment idle → c.queued ≡ true)
pair_mark None moment idle A h = tt
pair_mark (Some c) moment idle A h = λ _. h.0

-- after some have come, each one that was idle is marked
pub comes_idle : (before after : List (Option ServedConnection)) (all : Bool) (ready : List ℕ) (moment idle : ℕ) → ((i : ℕ) → ComesWithTurn before after all ready i)
    → ((i : ℕ) → HasNoIdle before i moment idle) → (i : ℕ) → IsMarkedIfIdle after i moment idle
comes_idle before after all ready moment idle comes none i = elim (comes i) [
  | inl same ↦ subst (λ (o : Option ServedConnection). IfSome o (λ c. HasBeenIdle c moment idle → c.queued ≡ true)) (sym same) (weaker (connection_at before i) moment idle (none i))
  | inr new ↦ pair_mark (connection_at after i) moment idle (HasTurn all ready i) new
]

due_by : (idle moment progress most : ℕ) → idle ≤ moment - progress → progress ≤ moment → min (progress + idle) most ≤ moment
due_by idle moment progress most a b = omega (arith, a, b)

-- for a connection that was idle something was due
was_due : (c : ServedConnection) (moment idle : ℕ) → HasBeenIdle c moment idle → due_of idle c ≤ moment
was_due c moment idle h = subst (λ (o : Option ℕ). unwrap_or o (min (c.state.progress + idle) (2 ^ 64 - 1)) ≤ moment) (sym h.idles.stays)
    (due_by idle moment c.state.progress (2 ^ 64 - 1) h.idles.late h.began)

if_there : (o : Option ServedConnection) (P : ServedConnection → Type 0) → ((c : ServedConnection) → o ≡ Some c → P c) → IfSome o P
if_there None P h = tt
if_there (Some c) P h = h c refl

-- after a look, each one that was idle is marked
pub look_idle : (places : List (Option ServedConnection)) (idle moment : ℕ) → AreQueued places idle moment → (i : ℕ) → IsMarkedIfIdle places i moment idle
look_idle places idle moment queued i = if_there (connection_at places i) (λ c. HasBeenIdle c moment idle → c.queued ≡ true)
    (λ c is was. queued i c is (was_due c moment idle was))

none_or_turn : (o : Option ServedConnection) (moment idle : ℕ) (A : Type 0) → IfSome o (λ c. c.queued ≡ true → A) → IfSome o (λ c. HasBeenIdle c moment idle → c.queued ≡ true)
    → IfSome o (λ c. HasBeenIdle c moment idle → ⊥) ⊎ A
none_or_turn None moment idle A turn mark = inl tt
none_or_turn (Some c) moment idle A turn mark = elim (either_mark c.queued) [
  | inl on ↦ inr (turn on)
  | inr off ↦ inl (λ was. let bad : true ≡ false = sym (mark was) ∙ off in cc)
]

-- a connection that was idle has its turn, and goes by it
pub all_taken : (places after : List (Option ServedConnection)) (all : Bool) (ready : List ℕ) (moment idle : ℕ) → AreMarkedNoted places all ready
    → ((i : ℕ) → IsMarkedIfIdle places i moment idle) → ((i : ℕ) → HasTurn all ready i → HasNoIdle after i moment idle)
    → ((i : ℕ) → HasNoIdle places i moment idle → HasNoIdle after i moment idle) → (i : ℕ) → HasNoIdle after i moment idle
all_taken places after all ready moment idle marked idles taken stays i = elim (none_or_turn (connection_at places i) moment idle (HasTurn all ready i) (marked i) (idles i)) [
  | inl none ↦ stays i none
  | inr turn ↦ taken i turn
]

unmarked_turn : (o : Option ServedConnection) (A : Type 0) → IfSome o (λ c. c.queued ≡ false) → IfSome o (λ c. c.queued ≡ true → A)
unmarked_turn None A h = tt
unmarked_turn (Some c) A h = λ on. let bad : true ≡ false = sym on ∙ h in cc

-- a connection that is not marked needs no turn
pub turn_marked : (mid : List (Option ServedConnection)) (place : ℕ) (all : Bool) (ready : List ℕ) → IfSome (connection_at mid place) (λ c. c.queued ≡ false)
    → HasTurnIfMarked mid all ready place
turn_marked mid place all ready h = unmarked_turn (connection_at mid place) (HasTurn all ready place) h

-- after a turn that leaves its place unmarked, and the others as they were or free, a connection
-- that had its turn if marked has it still
pub turn_marks_stay : (before mid : List (Option ServedConnection)) (place : ℕ) (all : Bool) (ready : List ℕ) → IfSome (connection_at mid place) (λ c. c.queued ≡ false)
    → OthersStayOrGo place before mid → (i : ℕ) → HasTurnIfMarked before all ready i → HasTurnIfMarked mid all ready i
turn_marks_stay before mid place all ready here others i h = elim (cases_eq i place) [
  | inl e ↦ subst (λ (k : ℕ). HasTurnIfMarked mid all ready k) (sym e) (turn_marked mid place all ready here)
  | inr ne ↦ elim (others i ne) [
    | inl same ↦ subst (λ (o : Option ServedConnection). IfSome o (λ c. c.queued ≡ true → HasTurn all ready i)) (sym same) h
    | inr gone ↦ none_is (λ c. c.queued ≡ true → HasTurn all ready i) (connection_at mid i) gone
  ]
]

-- what holds at each place below the end holds past it, too
pub all_marked : (places after : List (Option ServedConnection)) (n : ℕ) (all all2 : Bool) (ready ready2 : List ℕ) → length places ≤ n
    → ((i : ℕ) → HasTurnIfMarked places all ready i → HasTurnIfMarked after all2 ready2 i)
    → ((i : ℕ) → i < n → HasTurnIfMarked after all2 ready2 i) → AreMarkedNoted after all2 ready2
all_marked places after n all all2 ready ready2 le stays h i = elim (cases_lt i n) [
  | inl below ↦ h i below
  | inr past ↦ let far : length places ≤ i = omega (arith, le, past) in
      stays i (none_is (λ c. c.queued ≡ true → HasTurn all ready i) (connection_at places i) (get_or_past places i None far))
]

first_of : (o : Option ServedConnection) (all : Bool) (ready : List ℕ) (i : ℕ) (B : Type 0) → IfSome o (λ c. c.queued ≡ true → HasTurn all ready i)
    → IfSome o (λ c. c.queued ≡ true → (all ≡ true) ⊎ B) ⊎ ((k : ℕ) × (0 ≤ k) × (slice_get ready k ≡ Some i))
first_of None all ready i B h = inl tt
first_of (Some c) all ready i B h = elim (either_mark c.queued) [
  | inl on ↦ elim (h on) [
    | inl each ↦ inl (λ _. inl each)
    | inr (k, is) ↦ inr (k, omega arith, is)
  ]
  | inr off ↦ inl (λ on. let bad : true ≡ false = sym on ∙ off in cc)
]

-- before the first turn each marked connection has one, or is among those to come
pub turns_begin : (places : List (Option ServedConnection)) (all : Bool) (ready none : List ℕ) → AreMarkedNoted places all ready
    → (i : ℕ) → HasTurnIfMarked places all none i ⊎ ((k : ℕ) × (0 ≤ k) × (slice_get ready k ≡ Some i))
turns_begin places all ready none marked i = first_of (connection_at places i) all ready i ((k : ℕ) × (slice_get none k ≡ Some i)) (marked i)

same_some : (ready : List ℕ) (k at i place : ℕ) → slice_get ready k ≡ Some i → k ≡ at → IfSome (slice_get ready at) (λ x. x ≡ place) → i ≡ place
same_some ready k at i place is e there = subst (λ (o : Option ℕ). IfSome o (λ x. x ≡ place)) (ap (slice_get ready) (sym e) ∙ is) there

-- one turn later
pub turns_go_on : (P Q : ℕ → Type 0) (ready : List ℕ) (at place : ℕ) → IfSome (slice_get ready at) (λ x. x ≡ place) → Q place → ((i : ℕ) → P i → Q i)
    → (i : ℕ) → P i ⊎ ((k : ℕ) × (at ≤ k) × (slice_get ready k ≡ Some i)) → Q i ⊎ ((k : ℕ) × (at + 1 ≤ k) × (slice_get ready k ≡ Some i))
turns_go_on P Q ready at place there here stays i (inl h) = inl (stays i h)
turns_go_on P Q ready at place there here stays i (inr (k, le, is)) = elim (cases_eq k at) [
  | inl e ↦ inl (subst Q (sym (same_some ready k at i place is e there)) here)
  | inr ne ↦ inr (k, omega (arith, le, ne), is)
]

-- after the last turn there is none to come
pub turns_end : (P : ℕ → Type 0) (ready : List ℕ) (at : ℕ) → length ready ≤ at → (i : ℕ) → P i ⊎ ((k : ℕ) × (at ≤ k) × (slice_get ready k ≡ Some i)) → P i
turns_end P ready at end i (inl h) = h
turns_end P ready at end i (inr (k, le, is)) = let within = slice_get_within ready k i is in absurd (omega (arith, within, le, end))

none_at : (n i : ℕ) → connection_at (replicate n None) i ≡ None
none_at zero i = refl
none_at (suc n) zero = refl
none_at (suc n) (suc i) = none_at n i

-- what holds of no connection holds if all places are free
pub free_holds : (P : ServedConnection → Type 0) (places : List (Option ServedConnection)) (n : ℕ) → places ≡ replicate n None → (i : ℕ) → IfSome (connection_at places i) P
free_holds P places n is i = none_is P (connection_at places i) (ap (λ (k : List (Option ServedConnection)). connection_at k i) is ∙ none_at n i)

-- what holds anyhow holds of a connection that is not marked
pub anyhow : (o : Option ServedConnection) (A : Type 0) → A → IfSome o (λ c. c.queued ≡ false → A)
anyhow None A h = tt
anyhow (Some c) A h = λ _. h

-- a turn is still one if what is noted is the same
pub turn_moved : (all all2 : Bool) (ready ready2 : List ℕ) (i : ℕ) → all2 ≡ all → ready2 ≡ ready → HasTurn all ready i → HasTurn all2 ready2 i
turn_moved all all2 ready ready2 i same still h =
    subst (λ (r : List ℕ). HasTurn all2 r i) (sym still) (subst (λ (b : Bool). HasTurn b ready i) (sym same) h)

-- a connection that has its turn if marked has it also if places and what is noted are the same
pub marked_moved : (a b : List (Option ServedConnection)) (all all2 : Bool) (ready ready2 : List ℕ) (i : ℕ) → b ≡ a → all2 ≡ all → ready2 ≡ ready
    → HasTurnIfMarked a all ready i → HasTurnIfMarked b all2 ready2 i
marked_moved a b all all2 ready ready2 i is same still h = subst (λ (k : List (Option ServedConnection)). HasTurnIfMarked k all2 ready2 i) (sym is)
    (if_marked (connection_at a i) (HasTurn all ready i) (HasTurn all2 ready2 i) (turn_moved all all2 ready ready2 i same still) h)

-- what follows whether each place has a turn or not
pub either_way : (all : Bool) (P Q : Type 0) → (all ≡ true → Q) → (all ≡ false → P → Q) → P → Q
either_way true P Q each some h = each refl
either_way false P Q each some h = some refl h

-- a connection that is marked if idle at a moment is so at one that is the same
pub idle_moved : (places : List (Option ServedConnection)) (i s t s2 t2 : ℕ) → s2 ≡ s → t2 ≡ t → IsMarkedIfIdle places i s t → IsMarkedIfIdle places i s2 t2
idle_moved places i s t s2 t2 es et h = subst (λ (x : ℕ). IsMarkedIfIdle places i x t2) (sym es) (subst (λ (x : ℕ). IsMarkedIfIdle places i s x) (sym et) h)

-- what follows of four facts on success
pub four_ok : {T E A B C D Q : Type 0} (r : Result T E) → OnOk r A → OnOk r B → OnOk r C → OnOk r D → (A → B → C → D → Q) → OnOk r Q
four_ok (Ok x) a b c d h = h a b c d
four_ok (Err e) a b c d h = tt

turn_stays : (all all2 : Bool) (ready ready2 : List ℕ) (i : ℕ) → (all ≡ true → all2 ≡ true) → ready2 ≡ ready → HasTurn all ready i → HasTurn all2 ready2 i
turn_stays all all2 ready ready2 i each same (inl is) = inl (each is)
turn_stays all all2 ready ready2 i each same (inr (k, at)) = inr (k, subst (λ (r : List ℕ). slice_get r k ≡ Some i) (sym same) at)

-- a connection that has its turn if marked has it also if each one has a turn, or what is noted is
-- the same
pub marks_stay : (a b : List (Option ServedConnection)) (all all2 : Bool) (ready ready2 : List ℕ) → b ≡ a → (all ≡ true → all2 ≡ true) → ready2 ≡ ready
    → AreMarkedNoted a all ready → AreMarkedNoted b all2 ready2
marks_stay a b all all2 ready ready2 places each same h = λ i. subst (λ (k : List (Option ServedConnection)). HasTurnIfMarked k all2 ready2 i) (sym places)
    (if_marked (connection_at a i) (HasTurn all ready i) (HasTurn all2 ready2 i) (turn_stays all all2 ready ready2 i each same) (h i))
