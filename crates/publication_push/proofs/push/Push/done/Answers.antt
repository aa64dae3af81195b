use Rattle.std.proofs.Common.{◌∙◌, ap, subst, Err}
use Rattle.publication_push.specs.declared.fault.PushFault.TheVariants as fault
use Rattle.client_core.specs.declared.state.Event.TheVariants as event
use Rattle.publication_push.specs.Pushes.{Pushing, Takes}
use Rattle.publication_push.proofs.PushLemmas.{awaited_done, other_done}
use Rattle.publication_push.proofs.push.Push.done.Goals as goal

pub returns-then-named-self : goal.returns-then-named-self
returns-then-named-self g c = λ left has.
    let named = c.args.named in
    let P : Pushing → Type 0 = λ p. Takes p left (event.Done named) (Err (fault.WrongVersion c.self.inside.awaited named)) p in
    subst P c.self.view_is (other_done _ left named c.if-named-self.true)

pub returns : goal.returns
returns g c = λ left has.
    awaited_done c.args.self.now c.go_on.new.self left c.args.named c.go_on.result (c.if-named-self.false ∙ ap (λ (p : Pushing). p.awaited) c.self.view_is)
    (c.go_on.ensures left has)
