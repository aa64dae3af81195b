use Rattle.std.proofs.Common.{◌≡◌, ◌∙◌, sym, subst, ap, List, Ok, Err, Some, None}
use Rattle.std.specs.Prelude.{slice_get}
use Rattle.client_core.specs.declared.state.Event.{Event}
use Rattle.publication_push.specs.declared.fault.PushFault.TheVariants as fault
use Rattle.publication_push.specs.declared.push.PushStep.TheVariants.{Waits}
use Rattle.publication_push.specs.Orders.{HasOrders}
use Rattle.publication_push.specs.Pushes.{Pushing, IsFed}
use Rattle.publication_push.proofs.PushLemmas.{fault_ends, nothing_comes, first_comes}
use Rattle.publication_push.proofs.push.Push.feed.Goals as goal

pub returns-in-Some : goal.returns-in-Some
returns-in-Some g c = λ left has.
    let fed : Pushing = record { client = c.feed-fed.new.self; orders = c.self.inside.orders; awaited = c.self.inside.awaited } in
    let P : Pushing → Type 0 = λ p. IsFed p left c.args.piece.now (Err (fault.Client c.in-Some.fault)) fed in
    subst P c.self.view_is record {
      out = c.feed-fed.result.out.items;
      events = c.feed-fed.result.events.items;
      why = c.feed-fed.result.fault;
      client = c.feed-fed.new.self;
      fed = c.feed-fed.ensures;
      comes = fault_ends fed left _ _ c.in-Some.fault c.in-Some.is;
    }

pub returns-in-None : goal.returns-in-None
returns-in-None g c = λ left has.
    let fed : Pushing = record { client = c.feed-fed.new.self; orders = c.self.inside.orders; awaited = c.self.inside.awaited } in
    let events : List Event = c.feed-fed.result.events.items in
    let none : slice_get events 0 ≡ None = ap (λ (es : List Event). slice_get es 0) (sym c.deref.ensures.value) ∙ sym c.in-None.ensures.value in
    let P : Pushing → Type 0 = λ p. IsFed p left c.args.piece.now (Ok Waits) fed in
    subst P c.self.view_is record {
      out = c.feed-fed.result.out.items;
      events = events;
      why = c.feed-fed.result.fault;
      client = c.feed-fed.new.self;
      fed = c.feed-fed.ensures;
      comes = nothing_comes fed left events _ c.in_default.is none;
    }

pub returns : goal.returns
returns g c = λ left has.
    let fed : Pushing = record { client = c.feed-fed.new.self; orders = c.self.inside.orders; awaited = c.self.inside.awaited } in
    let events : List Event = c.feed-fed.result.events.items in
    let first : Event = c.in-Some-first.event.now in
    let some : slice_get events 0 ≡ Some first = ap (λ (es : List Event). slice_get es 0) (sym c.deref.ensures.value) ∙ sym c.in-Some-first.ensures.value in
    let P : Pushing → Type 0 = λ p. HasOrders p.orders left → IsFed p left c.args.piece.now c.take.result c.take.new.self in
    subst P c.self.view_is (λ inside. record {
      out = c.feed-fed.result.out.items;
      events = events;
      why = c.feed-fed.result.fault;
      client = c.feed-fed.new.self;
      fed = c.feed-fed.ensures;
      comes = first_comes fed c.take.new.self left events _ first c.take.result c.in_default.is some (c.take.ensures left inside);
    }) has
