-- Orders that are handed out one after another.
use Rattle.std.proofs.Common.{◌≡◌, ℕ, ◌+◌, ap, ◌∙◌, sym, refl, subst, Some, List, [], ◌∷◌}
use Rattle.publication_log.specs.declared.changes.Changes.{Changes}
use Rattle.publication_log.specs.declared.changes.Publication.{Publication}
use Rattle.publication_log.specs.declared.reading.Publications.{Publications}
use Rattle.publication_log.specs.Publications.{Placed, Published, changes_bytes, body_bytes, IsPlaced, IsPublished}
use Rattle.publication_log.specs.Entries.{chain_bytes, next_link}
use Rattle.publication_log.specs.Logs.{bodies_of}
use Rattle.log_replay.specs.Replays.{count_after}
use Rattle.publication_push.specs.declared.orders.Orders.{Orders}
use Rattle.publication_push.specs.Orders.{Ordered, change_order, orders_of, AreLeft, AreEntriesOf, HasOrders, begun_orders}

-- a change by its place and its bytes
abbrev placed : ℕ → List ℕ → Placed
placed place bytes = record { place = place; bytes = bytes }

-- the first of the changes that are left was read, and the others are left
pub record BeginsWith (count version place : ℕ) (first rest : List ℕ) (cs : List Placed) (ps : List Published) : Type 0 where
  pub others : List Placed
  pub others_left : AreLeft rest others
  pub orders : begun_orders count version cs ps ≡ change_order count (placed place first) ∷ begun_orders (count_after count (placed place first)) version others ps

pub change_first : (count version : ℕ) (bytes : List ℕ) (cs : List Placed) (ps : List Published) (place : ℕ) (first rest : List ℕ) → AreLeft bytes cs →
    ((c : Placed) (others : List Placed) → IsPlaced c → bytes ≡ changes_bytes (c ∷ others) → (place ≡ c.place) × (first ≡ c.bytes) × (rest ≡ changes_bytes others)) →
    (bytes ≡ [] → ⊥) → BeginsWith count version place first rest cs ps
change_first count version bytes [] ps place first rest left some none = absurd (none left.bytes_are)
change_first count version bytes (c ∷ cs) ps place first rest left some none =
    let found = some c cs left.each.0 left.bytes_are in
    let same : c ≡ placed place first = sym (ap (λ (n : ℕ). placed n first) found.0 ∙ ap (placed c.place) found.1) in
    record {
      others = cs;
      others_left = record { low = c.place + 1; each = left.each.2; bytes_are = found.2 };
      orders = ap (λ (d : Placed). change_order count d ∷ begun_orders (count_after count d) version cs ps) same;
    }

-- the order of the first change was handed out, and the orders after it are left
pub change_given : (count version : ℕ) (c : Placed) (changes : Changes) (after : Publications) (cs : List Placed) (ps : List Published) (o : Ordered) (new : Orders) →
    BeginsWith count version c.place c.bytes changes.rest.now cs ps → AreEntriesOf after.rest.now ps → o ≡ change_order count c →
    new ≡ record { count = count_after count c; begun = Some (record { version = version; changes = changes }); rest = after } →
    (others : List Ordered) × HasOrders new others × (begun_orders count version cs ps ≡ o ∷ others)
change_given count version c changes after cs ps o new first entries order e =
    let others : List Ordered = begun_orders (count_after count c) version first.others ps in (
      others,
      subst (λ (x : Orders). HasOrders x others) (sym e) (first.others, ps, first.others_left, entries, refl {a = others}),
      first.orders ∙ ap (λ (p : Ordered). p ∷ others) (sym order),
    )

-- no change is left
pub no_change : (bytes : List ℕ) (cs : List Placed) → AreLeft bytes cs → ((c : Placed) (others : List Placed) → IsPlaced c → bytes ≡ changes_bytes (c ∷ others) → ⊥) →
    cs ≡ []
no_change bytes [] left none = refl
no_change bytes (c ∷ cs) left none = absurd (none c cs left.each.0 left.bytes_are)

-- the first of the publications was read, and the others are left
pub record PublishesFirst (count : ℕ) (publication : Publication) (rest : List ℕ) (ps : List Published) : Type 0 where
  pub changes : List Placed
  pub others : List Published
  pub changes_left : AreLeft publication.changes.rest.now changes
  pub others_left : AreEntriesOf rest others
  pub orders : orders_of count ps ≡ begun_orders count publication.version changes others

pub publication_first : (count : ℕ) (bytes : List ℕ) (ps : List Published) (publication : Publication) (rest : List ℕ) → AreEntriesOf bytes ps →
    ((link : List ℕ) (p : Published) (others : List Published) → IsPublished p → bytes ≡ chain_bytes link (bodies_of (p ∷ others)) →
    (publication.version ≡ p.version) × (publication.changes.rest.now ≡ changes_bytes p.changes)
    × (rest ≡ chain_bytes (next_link link (body_bytes p)) (bodies_of others))) →
    (bytes ≡ [] → ⊥) → PublishesFirst count publication rest ps
publication_first count bytes [] publication rest left some none = absurd (none left.bytes_are)
publication_first count bytes (p ∷ ps) publication rest left some none =
    let found = some left.link p ps left.each.0 left.bytes_are in
    record {
      changes = p.changes;
      others = ps;
      changes_left = record { low = 0; each = left.each.0.changes; bytes_are = found.1 };
      others_left = record { link = next_link left.link (body_bytes p); version = left.version + 1; each = left.each.2; bytes_are = found.2 };
      orders = ap (λ (n : ℕ). begun_orders count n p.changes ps) (sym found.0);
    }

-- what is given of a publication that is begun
abbrev pub Gives : ℕ → Publication → List ℕ → Ordered → Orders → Type 0
Gives count publication rest o new = (cs : List Placed) (ps : List Published) → AreLeft publication.changes.rest.now cs → AreEntriesOf rest ps →
    (others : List Ordered) × HasOrders new others × (begun_orders count publication.version cs ps ≡ o ∷ others)

-- the first order of the first publication was handed out, and the orders after it are left
pub publication_given : (count : ℕ) (publication : Publication) (rest : List ℕ) (ps : List Published) (left : List Ordered) (o : Ordered) (new : Orders) →
    left ≡ orders_of count ps → PublishesFirst count publication rest ps → Gives count publication rest o new →
    (others : List Ordered) × (left ≡ o ∷ others) × HasOrders new others
publication_given count publication rest ps left o new e first gives =
    let given = gives first.changes first.others first.changes_left first.others_left in
    (given.0, e ∙ first.orders ∙ given.2, given.1)

-- no publication is left
pub no_publication : (bytes : List ℕ) (ps : List Published) → AreEntriesOf bytes ps →
    ((link : List ℕ) (p : Published) (others : List Published) → IsPublished p → bytes ≡ chain_bytes link (bodies_of (p ∷ others)) → ⊥) → ps ≡ []
no_publication bytes [] left none = refl
no_publication bytes (p ∷ ps) left none = absurd (none left.link p ps left.each.0 left.bytes_are)
