use Rattle.std.proofs.Common.{subst, Err}
use Rattle.publication_push.specs.Orders.{HasOrders}
use Rattle.publication_push.specs.Pushes.{Pushing, SendsNext}
use Rattle.publication_push.proofs.PushLemmas.{unsent_ends}
use Rattle.publication_push.proofs.push.Push.go_on.Goals as goal

pub returns-in-Err : goal.returns-in-Err
returns-in-Err g c = λ left has.
    let new : Pushing = record { client = c.ask.new.client; orders = c.next.new.self; awaited = c.self.inside.awaited } in
    let P : Pushing → Type 0 = λ p. HasOrders p.orders left → SendsNext p.client p.awaited left (Err c.in-Err.fault) new in
    subst P c.self.view_is (λ inside.
    let next = c.in-Some.ensures.some left inside in
    unsent_ends c.self.inside.orders c.self.inside.client c.self.inside.awaited new left _ next.0 c.in-Err.fault inside next.1 c.in-Err.ensures.unsent
    c.in-Err.ensures.reader) has
