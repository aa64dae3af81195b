-- Entries of changed records.
use Rattle.std.proofs.Common.{◌≡◌, ℕ, zero, suc, ◌+◌, ◌-◌, ◌*◌, ◌%◌, ◌<◌, ◌≤◌, Bool, true, false, List, [], ◌∷◌, length, take, drop, get_or, Option, Some, refl, sym, ap, ◌∙◌, arith, add-one}
use Rattle.std.specs.Prelude.{map, nat_le, nat_lt, ◌&&◌, ◌==◌, cond}
use Rattle.std.specs.List.{list_all}
use Rattle.std.proofs.Math.Bool.{and-false}
use Rattle.std.proofs.lemmas.Bool.{and_parts, and_from, eq-eqb, eqb-true, lt-ltb, le-leb}
use Rattle.std.proofs.lemmas.List.{length-map, get_or-map}
use Rattle.std.proofs.lemmas.List.Folds.{list_all_at}
use Rattle.matrix_u32.specs.Matrix.{WordMatrix}
use Rattle.matrix_u32.proofs.Products.{length-list_of, at-list_of_any}
use Rattle.digit_pack.specs.Layout.{Shape, IsLayout, is_layout}
use Rattle.digit_pack.proofs.Layouts.{layout_means}
use Rattle.digit_pack.proofs.RecordLemmas.{shape_of_layout}
use Rattle.hint_changes.specs.Changes.{ChangedRecord, LeadTo, changes_between, moved}
use Rattle.hint_changes.specs.Entries.{AreEntries, change_in, changes_in, entry_count, entry_len, index_in}
use Rattle.hint_changes.proofs.Between.{between_lead}
use Rattle.hint_changes.proofs.NetChanges.{changes_lead}
use Rattle.pir_schemes.specs.declared.plan.Plan.{Plan}
use Rattle.pir_schemes.specs.declared.scheme.Scheme.TheVariants.{Simple}
use Rattle.pir_schemes.specs.Plans.{shape_at, is_slot_of, first_public}
use Rattle.client_core.specs.declared.state.ClientState.{ClientState}
use Rattle.client_core.specs.declared.state.ServerInfo.{ServerInfo}
use Rattle.client_core.specs.declared.state.Hint.{Hint}
use Rattle.client_core.specs.declared.state.Call.{Call}
use Rattle.client_core.specs.declared.state.Call.TheVariants.{Changes}
use Rattle.client_core.specs.declared.state.Event.TheVariants.{Synced}
use Rattle.client_core.specs.declared.state.ClientFault.TheVariants.{BadReply}
use Rattle.client_core.specs.Replies.{faulty, ended, is_current, with_current, are_ascending, are_entries, have_slots, is_changes, hint_with_entries, reaction_to_changes}
use Rattle.client_core.specs.Kinds.{takes_changes}
use Rattle.client_core.specs.Laws.{ChangesMakeTheHint, hint_of_slots}
use Rattle.client_core.proofs.MovedRows.{ascending_here, ascending_below}

-- ---- numbers that ascend

-- each number is below the one after it
ascending_grows : (from limit : ℕ) (is : List ℕ) (j : ℕ) → are_ascending from limit is ≡ true → suc j < length is →
    get_or is j 0 < get_or is (suc j) 0
ascending_grows from limit [] j h lt = absurd (omega arith)
ascending_grows from limit (i ∷ []) j h lt = absurd (omega arith)
ascending_grows from limit (i ∷ i2 ∷ is) zero h lt =
    let here : (from ≤ i) × (i < limit) × (are_ascending (i + 1) limit (i2 ∷ is) ≡ true) = ascending_here from limit i (i2 ∷ is) h in
    let next : (i + 1 ≤ i2) × (i2 < limit) × (are_ascending (i2 + 1) limit is ≡ true) = ascending_here (i + 1) limit i2 is here.2 in
    omega (arith, next.0)
ascending_grows from limit (i ∷ i2 ∷ is) (suc j) h lt =
    ascending_grows (i + 1) limit (i2 ∷ is) j (ascending_here from limit i (i2 ∷ is) h).2 (omega arith)

-- numbers that are each below the limit and the one after it ascend
they_ascend : (from limit : ℕ) (is : List ℕ) → ((j : ℕ) → j < length is → get_or is j 0 < limit) →
    ((j : ℕ) → suc j < length is → get_or is j 0 < get_or is (suc j) 0) → (0 < length is → from ≤ get_or is 0 0) →
    are_ascending from limit is ≡ true
unfolding are_ascending
they_ascend from limit [] inside grow first = refl
they_ascend from limit (i ∷ is) inside grow first =
    and_from (nat_le from i && nat_lt i limit) (are_ascending (i + 1) limit is)
    (and_from (nat_le from i) (nat_lt i limit) (le-leb from i (first (omega arith))) (lt-ltb i limit (inside 0 (omega arith))))
    (they_ascend (i + 1) limit is (λ j lt. inside (suc j) (omega arith)) (λ j lt. grow (suc j) (omega arith))
    (λ lt. let h : i < get_or is 0 0 = grow 0 (omega arith) in omega (arith, h)))

-- ---- the test of entries

abbrev numbers : ℕ → List ℕ → List ℕ
numbers len bytes = map (λ c. c.index) (changes_in len bytes)

length-numbers : (len : ℕ) (bytes : List ℕ) → length (numbers len bytes) ≡ entry_count len bytes
length-numbers len bytes = length-map (changes_in len bytes) (λ c. c.index) ∙ length-list_of (entry_count len bytes) (change_in len bytes)

numbers-at : (len : ℕ) (bytes : List ℕ) (k : ℕ) → k < entry_count len bytes → get_or (numbers len bytes) k 0 ≡ index_in len bytes k
numbers-at len bytes k lt =
    get_or-map (λ c. c.index) (changes_in len bytes) k (change_in len bytes k) 0
    (omega (arith, length-list_of (entry_count len bytes) (change_in len bytes)))
    ∙ ap (λ (c : ChangedRecord). c.index) (at-list_of_any (entry_count len bytes) (change_in len bytes) k (change_in len bytes k) lt)

pub entries_mean : (l : Shape) (bytes : List ℕ) → are_entries l bytes ≡ true → AreEntries l bytes
unfolding are_entries
entries_mean l bytes h =
    let len : ℕ = l.record_len in
    let parts = and_parts (length bytes % entry_len len == 0) (are_ascending 0 l.count (numbers len bytes)) h in
    record {
      whole = eqb-true (length bytes % entry_len len) 0 parts.0;
      inside = λ k lt. rw (← numbers-at len bytes k lt)
          (ascending_below 0 l.count (numbers len bytes) k 0 parts.1 (omega (arith, length-numbers len bytes)));
      ascending = λ k lt.
          let grows : get_or (numbers len bytes) k 0 < get_or (numbers len bytes) (suc k) 0 =
          ascending_grows 0 l.count (numbers len bytes) k parts.1 (omega (arith, length-numbers len bytes)) in
          let here : get_or (numbers len bytes) k 0 ≡ index_in len bytes k = numbers-at len bytes k (omega arith) in
          let next : get_or (numbers len bytes) (suc k) 0 ≡ index_in len bytes (k + 1) =
          ap (λ (n : ℕ). get_or (numbers len bytes) n 0) (sym (add-one k)) ∙ numbers-at len bytes (k + 1) lt in
          omega (arith, grows, here, next);
    }

pub entries_pass : (l : Shape) (bytes : List ℕ) → AreEntries l bytes → are_entries l bytes ≡ true
unfolding are_entries
entries_pass l bytes e =
    let len : ℕ = l.record_len in
    let count : length (numbers len bytes) ≡ entry_count len bytes = length-numbers len bytes in
    and_from (length bytes % entry_len len == 0) (are_ascending 0 l.count (numbers len bytes)) (eq-eqb (length bytes % entry_len len) 0 e.whole)
    (they_ascend 0 l.count (numbers len bytes)
    (λ j lt. let here : get_or (numbers len bytes) j 0 ≡ index_in len bytes j = numbers-at len bytes j (omega (arith, count)) in
    omega (arith, here, e.inside j (omega (arith, count))))
    (λ j lt.
    let here : get_or (numbers len bytes) j 0 ≡ index_in len bytes j = numbers-at len bytes j (omega (arith, count)) in
    let next : get_or (numbers len bytes) (suc j) 0 ≡ index_in len bytes (j + 1) =
    ap (λ (n : ℕ). get_or (numbers len bytes) n 0) (sym (add-one j)) ∙ numbers-at len bytes (j + 1) (omega (arith, count)) in
    omega (arith, here, next, e.ascending j (omega (arith, count))))
    (λ lt. omega arith))

pub entries_fail : (l : Shape) (bytes : List ℕ) → ¬ AreEntries l bytes → are_entries l bytes ≡ false
entries_fail l bytes denied = by (are_entries l bytes) refl
  where
    by : (b : Bool) → are_entries l bytes ≡ b → are_entries l bytes ≡ false
    by true e = absurd (denied (entries_mean l bytes e))
    by false e = e

-- ---- the test of slots

-- the old and the new bytes of a change are those of a record
abbrev pub has_slots : Plan → ChangedRecord → Bool
has_slots p c = is_slot_of p c.old && is_slot_of p c.new

pub slots_pass : (p : Plan) (bytes : List ℕ) → ((k : ℕ) → k < entry_count p.record_len bytes → has_slots p (change_in p.record_len bytes k) ≡ true) →
    have_slots p bytes ≡ true
unfolding have_slots
slots_pass p bytes each =
    let len : ℕ = p.record_len in
    let count : length (changes_in len bytes) ≡ entry_count len bytes = length-list_of (entry_count len bytes) (change_in len bytes) in
    all (changes_in len bytes) (λ k lt. ap (has_slots p) (at-list_of_any (entry_count len bytes) (change_in len bytes) k (change_in len bytes 0) (omega (arith, count)))
    ∙ each k (omega (arith, count)))
  where
    all : (cs : List ChangedRecord) → ((k : ℕ) → k < length cs → has_slots p (get_or cs k (change_in p.record_len bytes 0)) ≡ true) →
        list_all (has_slots p) cs ≡ true
    all [] each = refl
    all (c ∷ cs) each = and_from (has_slots p c) (list_all (has_slots p) cs) (each 0 (omega arith)) (all cs (λ k lt. each (suc k) (omega arith)))

pub slots_fail : (p : Plan) (bytes : List ℕ) (k : ℕ) → k < entry_count p.record_len bytes → has_slots p (change_in p.record_len bytes k) ≡ false →
    have_slots p bytes ≡ false
unfolding have_slots
slots_fail p bytes k lt denied =
    let len : ℕ = p.record_len in
    let d : ChangedRecord = change_in len bytes k in
    list_all_at (has_slots p) (changes_in len bytes) k d (omega (arith, length-list_of (entry_count len bytes) (change_in len bytes)))
    (ap (has_slots p) (at-list_of_any (entry_count len bytes) (change_in len bytes) k d lt) ∙ denied)

-- the old bytes of an entry, as they are read
pub old_bytes_read : (len size k : ℕ) (bytes : List ℕ) → size ≡ entry_len len →
    take (k * size + 4 + len - (k * size + 4)) (drop (k * size + 4) bytes) ≡ (change_in len bytes k).old
old_bytes_read len size k bytes e =
    let cut : k * size + 4 + len - (k * size + 4) ≡ len = omega arith in
    ap (λ (n : ℕ). take n (drop (k * size + 4) bytes)) cut ∙ ap (λ (n : ℕ). take len (drop (k * n + 4) bytes)) e

-- the new bytes of an entry, as they are read
pub new_bytes_read : (len size k : ℕ) (bytes : List ℕ) → size ≡ entry_len len →
    take (k * size + 4 + len + len - (k * size + 4 + len)) (drop (k * size + 4 + len) bytes) ≡ (change_in len bytes k).new
new_bytes_read len size k bytes e =
    let cut : k * size + 4 + len + len - (k * size + 4 + len) ≡ len = omega arith in
    let place : k * size + 4 + len ≡ k * size + (4 + len) = omega arith in
    ap (λ (n : ℕ). take n (drop (k * size + 4 + len) bytes)) cut
    ∙ ap (λ (n : ℕ). take len (drop n bytes)) place
    ∙ ap (λ (n : ℕ). take len (drop (k * n + (4 + len)) bytes)) e

-- a change one of whose bytes are no record's
pub old_fails : (p : Plan) (c : ChangedRecord) → is_slot_of p c.old ≡ false → has_slots p c ≡ false
old_fails p c e = ap (λ (b : Bool). b && is_slot_of p c.new) e

pub new_fails : (p : Plan) (c : ChangedRecord) → is_slot_of p c.new ≡ false → has_slots p c ≡ false
new_fails p c e = ap (λ (b : Bool). is_slot_of p c.old && b) e ∙ and-false (is_slot_of p c.old)

-- ---- changes that were asked for

pub record AreAsked (k : ServerInfo) (asked since now count : ℕ) (entries : List ℕ) : Type 0 where
  pub since_is : since ≡ asked
  pub current : is_current k now count ≡ true
  pub entries_are : AreEntries (shape_at k.plan count) entries
  pub slots : have_slots k.plan entries ≡ true

pub changes_asked : (k : ServerInfo) (asked since now count : ℕ) (entries : List ℕ) → is_changes k asked since now count entries ≡ true →
    AreAsked k asked since now count entries
changes_asked k asked since now count entries h =
    let l : Shape = shape_at k.plan count in
    let a = and_parts (since == asked) (is_current k now count && (are_entries l entries && have_slots k.plan entries)) h in
    let b = and_parts (is_current k now count) (are_entries l entries && have_slots k.plan entries) a.1 in
    let d = and_parts (are_entries l entries) (have_slots k.plan entries) b.1 in
    record { since_is = eqb-true since asked a.0; current = b.0; entries_are = entries_mean l entries d.0; slots = d.1 }

pub they_are_asked : (k : ServerInfo) (asked since now count : ℕ) (entries : List ℕ) → AreAsked k asked since now count entries →
    is_changes k asked since now count entries ≡ true
they_are_asked k asked since now count entries a =
    let l : Shape = shape_at k.plan count in
    and_from (since == asked) (is_current k now count && (are_entries l entries && have_slots k.plan entries)) (eq-eqb since asked a.since_is)
    (and_from (is_current k now count) (are_entries l entries && have_slots k.plan entries) a.current
    (and_from (are_entries l entries) (have_slots k.plan entries) (entries_pass l entries a.entries_are) a.slots))

pub they_are_not : (k : ServerInfo) (asked since now count : ℕ) (entries : List ℕ) → ¬ AreAsked k asked since now count entries →
    is_changes k asked since now count entries ≡ false
they_are_not k asked since now count entries denied = by (is_changes k asked since now count entries) refl
  where
    by : (b : Bool) → is_changes k asked since now count entries ≡ b → is_changes k asked since now count entries ≡ false
    by true e = absurd (denied (changes_asked k asked since now count entries e))
    by false e = e

-- a version that can be has a layout
pub current_layout : (k : ServerInfo) (version count : ℕ) → is_current k version count ≡ true → IsLayout (shape_at k.plan count)
current_layout k version count h =
    layout_means (shape_at k.plan count) (and_parts (nat_lt 0 version) (is_layout (shape_at k.plan count)) h).1

-- ---- changes of one hint

-- what Changes that were asked for lead to
pub changes_taken : (c : ClientState) (k : ServerInfo) (h : Hint) (asked since now count : ℕ) (entries : List ℕ) → c.call ≡ Changes asked →
    c.known ≡ Some k → c.hint ≡ Some h → is_changes k asked since now count entries ≡ true →
    takes_changes c.call c since now count entries
    ≡ ended (record c { known = Some (with_current k now count); hint = Some (hint_with_entries k.plan h now count entries) }) (Synced Simple now)
changes_taken c k h asked since now count entries call known held is =
    ap (λ (x : Call). takes_changes x c since now count entries) call
    ∙ ap (λ (x : Option ServerInfo). reaction_to_changes x c.hint c asked since now count entries) known
    ∙ ap (λ (x : Option Hint). reaction_to_changes (Some k) x c asked since now count entries) held
    ∙ ap (λ (x : Bool). cond x
    (ended (record c { known = Some (with_current k now count); hint = Some (hint_with_entries k.plan h now count entries) }) (Synced Simple now))
    (faulty c BadReply)) is

pub changes_make_it : ChangesMakeTheHint
changes_make_it c k h since now count entries before after known held asked is says long room made =
    let l : Shape = shape_at k.plan count in
    let a1 : WordMatrix = first_public l k.plan.dimension k.plan.seed in
    let ok : IsLayout l = current_layout k now count (changes_asked k since since now count entries is).current in
    let lead : LeadTo l (changes_between before after) before after = between_lead l before after long room in
    let matrix : moved l a1 (changes_in k.plan.record_len entries) h.matrix ≡ hint_of_slots k.plan count after =
    ap (λ (cs : List ChangedRecord). moved l a1 cs h.matrix) says
    ∙ ap (moved l a1 (changes_between before after)) made
    ∙ changes_lead l (changes_between before after) before after a1 (shape_of_layout l ok) (omega arith) lead in
    changes_taken c k h since since now count entries asked known held is
    ∙ ap (λ (x : WordMatrix). ended (record c { known = Some (with_current k now count); hint = Some (record h { version = now; matrix = x }) })
    (Synced Simple now)) matrix
