use Rattle.std.proofs.Common.{ap, refl, ℕ, List}
use Rattle.publication_log.specs.Publications.{Placed}
use Rattle.publication_push.specs.Orders.{orders_of, placed_of, begun_orders}
use Rattle.publication_push.proofs.OrderLemmas.{change_first, change_given, no_change}
use Rattle.publication_push.proofs.orders.Orders.next_of.Goals as goal

pub returns-in_default : goal.returns-in_default
returns-in_default c = λ cs ps left entries.
    let count : ℕ = c.args.self.now.count in
    let none = no_change c.args.publication.changes.rest.now cs left c.in_default.ensures.some in (
      orders_of count ps,
      (ps, entries, refl),
      ap (λ (ds : List Placed). begun_orders count c.args.publication.version ds ps) none,
    )

pub returns : goal.returns
returns c = λ cs ps left entries.
    let count : ℕ = c.args.self.now.count in
    let version : ℕ = c.args.publication.version in
    let first = change_first count version c.args.publication.changes.rest.now cs ps c.in-Some.change.place c.in-Some.change.bytes.now c.in-Some.changes.rest.now left
    c.in-Some.ensures.some (λ none. absurd (let bad = c.in-Some.ensures.none none in cc)) in
    change_given count version (placed_of c.in-Some.change) c.in-Some.changes c.args.self.now.rest cs ps _ c.order_of.new.self first entries c.order_of.ensures.order
    c.order_of.ensures.count
