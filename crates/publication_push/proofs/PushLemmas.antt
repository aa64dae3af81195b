-- Pushes: orders that can be sent, and what comes of replies.
use Rattle.std.proofs.Common.{◌≡◌, ◌≤◌, ◌∙◌, ap, sym, subst, refl, arith, ℕ, List, [], ◌∷◌, ◌++◌, length, Bool, true, false, cond, Option, Some, None, Result, Ok, Err}
use Rattle.std.specs.Prelude.{nat_lt, slice_get, MatchBool}
use Rattle.std.proofs.lemmas.Bool.{eq-eqb, ne_eqb}
use Rattle.publication_log.specs.declared.changes.Publication.{Publication}
use Rattle.publication_log.specs.Publications.{Placed, AreChanges}
use Rattle.client_core.specs.declared.state.Event.{Event}
use Rattle.client_core.specs.declared.state.Event.TheVariants as event
use Rattle.client_core.specs.declared.state.ClientFault.{ClientFault}
use Rattle.client_core.specs.Feeding.{Client}
use Rattle.publication_push.specs.declared.fault.PushFault.{PushFault}
use Rattle.publication_push.specs.declared.fault.PushFault.TheVariants as fault
use Rattle.publication_push.specs.declared.orders.Orders.{Orders}
use Rattle.publication_push.specs.declared.push.PushStep.{PushStep}
use Rattle.publication_push.specs.declared.push.PushStep.TheVariants.{Waits}
use Rattle.publication_push.specs.Orders.{Ordered, Edits, Appends, Publishes, change_order, change_orders, AreOrders, HasOrders}
use Rattle.publication_push.specs.Pushes.{Pushing, order_bytes, IsUnsent, IsNextSent, SendsNext, Takes, TakesFirst, ComesOf, OnlyAnswers}

-- ---- the bytes of an order are those of a record

bytes_of_change : (count : ℕ) (c : Placed) → order_bytes (change_order count c) ≡ c.bytes
bytes_of_change count c = by_place (nat_lt c.place count)
  where
    by_place : (b : Bool) → order_bytes (cond b (Edits c.place c.bytes) (Appends c.bytes)) ≡ c.bytes
    by_place true = refl
    by_place false = refl

first_of : (o p : Ordered) (os ps : List Ordered) → o ∷ os ≡ p ∷ ps → o ≡ p
first_of o p os ps e = cc

first_short : (cs : List Placed) (low count version : ℕ) (o : Ordered) (others tail : List Ordered) → AreChanges low cs →
    o ∷ others ≡ change_orders count cs ++ (Publishes version ∷ tail) → length (order_bytes o) ≤ 65535
first_short [] low count version o others tail each e =
    let none : length (order_bytes o) ≡ 0 = ap (λ (p : Ordered). length (order_bytes p)) (first_of o (Publishes version) others tail e) in
    omega (arith, none)
first_short (c ∷ cs) low count version o others tail each e =
    let same : length (order_bytes o) ≡ length c.bytes =
    ap (λ (p : Ordered). length (order_bytes p)) (first_of o (change_order count c) others _ e) ∙ ap length (bytes_of_change count c) in
    let few = each.0.len in
    omega (arith, same, few)

no_orders : (o : Ordered) (others : List Ordered) → o ∷ others ≡ [] → ⊥
no_orders o others e = cc

short_orders : (count : ℕ) (begun : Option Publication) (rest : List ℕ) (o : Ordered) (others : List Ordered) → AreOrders count begun rest (o ∷ others) →
    length (order_bytes o) ≤ 65535
short_orders count None rest o others ([], entries, e) = absurd (no_orders o others e)
short_orders count None rest o others (p ∷ ps, entries, e) = first_short p.changes 0 count p.version o others _ entries.each.0.changes e
short_orders count (Some p) rest o others (cs, ps, left, entries, e) = first_short cs left.low count p.version o others _ left.each e

-- ---- what is next

-- an order that was not sent is one that the client refused
pub unsent_ends : (orders : Orders) (client : Client) (awaited : ℕ) (new : Pushing) (left : List Ordered) (o : Ordered) (others : List Ordered) (why : PushFault) →
    HasOrders orders left → left ≡ o ∷ others → IsUnsent client o why new.client → new.client.reader ≡ client.reader → SendsNext client awaited left (Err why) new
unsent_ends orders client awaited new left o others why has e unsent reader =
    let P : List Ordered → Type 0 = λ os. SendsNext client awaited os (Err why) new in
    subst P (sym e) (by_cause why unsent, reader)
  where
    short : length (order_bytes o) ≤ 65535
    short = short_orders orders.count orders.begun orders.rest.rest.now o others (subst (HasOrders orders) e has)

    by_cause : (f : PushFault) → IsUnsent client o f new.client → IsNextSent client awaited o others (Err f) new
    by_cause (fault.Call f) is = is
    by_cause fault.BadLog is = absurd (let no : ⊥ = omega (arith, is.1, short) in no)
    by_cause (fault.Refused code) is = absurd is
    by_cause (fault.WrongVersion awaited named) is = absurd is
    by_cause fault.NotDone is = absurd is
    by_cause (fault.Client f) is = absurd is

-- ---- what comes of replies

pub awaited_done : (old new : Pushing) (left : List Ordered) (named : ℕ) (result : Result PushStep PushFault) → named ≡ old.awaited →
    SendsNext old.client old.awaited left result new → Takes old left (event.Done named) result new
awaited_done old new left named result e goes =
    let P : Bool → Type 0 = λ b. MatchBool b (SendsNext old.client old.awaited left result new) (OnlyAnswers old (Err (fault.WrongVersion old.awaited named)) result new) in
    subst P (sym (eq-eqb named old.awaited e)) goes

pub other_done : (old : Pushing) (left : List Ordered) (named : ℕ) → (named ≡ old.awaited → ⊥) →
    Takes old left (event.Done named) (Err (fault.WrongVersion old.awaited named)) old
other_done old left named other =
    let wrong : Result PushStep PushFault = Err (fault.WrongVersion old.awaited named) in
    let P : Bool → Type 0 = λ b. MatchBool b (SendsNext old.client old.awaited left wrong old) (OnlyAnswers old wrong wrong old) in
    subst P (sym (ne_eqb named old.awaited other)) (refl, refl)

pub other_event : (old : Pushing) (left : List Ordered) (e : Event) → ((v : ℕ) → e ≡ event.Welcomed v → ⊥) → ((v : ℕ) → e ≡ event.Done v → ⊥) →
    ((code : ℕ) → e ≡ event.Refused code → ⊥) → Takes old left e (Err fault.NotDone) old
other_event old left (event.Welcomed v) welcomed done refused = absurd (welcomed v refl)
other_event old left (event.Done v) welcomed done refused = absurd (done v refl)
other_event old left (event.Refused code) welcomed done refused = absurd (refused code refl)
other_event old left (event.Synced scheme v) welcomed done refused = (refl, refl)
other_event old left (event.Retrieved index v bytes) welcomed done refused = (refl, refl)
other_event old left (event.Unreadable index v) welcomed done refused = (refl, refl)
other_event old left (event.Stale v) welcomed done refused = (refl, refl)

-- ---- what comes of a piece

pub fault_ends : (old : Pushing) (left : List Ordered) (events : List Event) (why : Option ClientFault) (f : ClientFault) → why ≡ Some f →
    ComesOf old left events why (Err (fault.Client f)) old
fault_ends old left events why f e = let P : Option ClientFault → Type 0 = λ w. ComesOf old left events w (Err (fault.Client f)) old in subst P (sym e) (refl, refl)

pub nothing_comes : (old : Pushing) (left : List Ordered) (events : List Event) (why : Option ClientFault) → why ≡ None → slice_get events 0 ≡ None →
    ComesOf old left events why (Ok Waits) old
nothing_comes old left events why e none =
    let P : Option ClientFault → Type 0 = λ w. ComesOf old left events w (Ok Waits) old in
    subst P (sym e) (by_events events none)
  where
    by_events : (es : List Event) → slice_get es 0 ≡ None → TakesFirst old left es (Ok Waits) old
    by_events [] none = (refl, refl)
    by_events (event ∷ es) none = absurd (let no : ⊥ = cc in no)

pub first_comes : (old new : Pushing) (left : List Ordered) (events : List Event) (why : Option ClientFault) (first : Event) (result : Result PushStep PushFault) →
    why ≡ None → slice_get events 0 ≡ Some first → Takes old left first result new → ComesOf old left events why result new
first_comes old new left events why first result e some takes =
    let P : Option ClientFault → Type 0 = λ w. ComesOf old left events w result new in
    subst P (sym e) (by_events events some)
  where
    by_events : (es : List Event) → slice_get es 0 ≡ Some first → TakesFirst old left es result new
    by_events [] some = absurd (let no : ⊥ = cc in no)
    by_events (event ∷ es) some =
        let same : first ≡ event = cc in
        let Q : Event → Type 0 = λ x. Takes old left x result new in
        subst Q same takes
