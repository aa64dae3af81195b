use Rattle.std.proofs.Common.{◌∙◌, ap, subst, Option}
use Rattle.publication_log.specs.declared.changes.Publication.{Publication}
use Rattle.publication_push.specs.Orders.{orders_of, AreOrders}
use Rattle.publication_push.proofs.OrderLemmas.{publication_first, publication_given, no_publication}
use Rattle.publication_push.proofs.orders.Orders.next.Goals as goal

pub returns-in-Some-clause-some : goal.returns-in-Some-clause-some
returns-in-Some-clause-some c = λ left has.
    let P : Option Publication → Type 0 = λ b. AreOrders c.args.self.now.count b c.args.self.now.rest.rest.now left in
    let it = subst P c.in-Some.is has in
    let found = c.next_of.ensures it.0 it.1 it.2 it.3 in
    (found.0, it.4 ∙ found.2, found.1)

pub returns-in_default-split_first-clause-none : goal.returns-in_default-split_first-clause-none
returns-in_default-split_first-clause-none c = λ left has.
    let P : Option Publication → Type 0 = λ b. AreOrders c.args.self.now.count b c.args.self.now.rest.rest.now left in
    let it = subst P c.in_default.is has in
    it.2 ∙ ap (orders_of c.args.self.now.count) (no_publication c.args.self.now.rest.rest.now it.0 it.1 c.in_default-split_first.ensures.some)

pub returns-clause-some : goal.returns-clause-some
returns-clause-some c = λ left has.
    let P : Option Publication → Type 0 = λ b. AreOrders c.args.self.now.count b c.args.self.now.rest.rest.now left in
    let it = subst P c.in_default.is has in
    let first = publication_first c.args.self.now.count c.args.self.now.rest.rest.now it.0 c.in-Some-split_first.publication c.in-Some-split_first.rest.rest.now it.1
    c.in-Some-split_first.ensures.some (λ none. absurd (let bad = c.in-Some-split_first.ensures.none none in cc)) in
    publication_given c.args.self.now.count c.in-Some-split_first.publication c.in-Some-split_first.rest.rest.now it.0 left _ c.next_of-2.new.self it.2 first
    c.next_of-2.ensures
