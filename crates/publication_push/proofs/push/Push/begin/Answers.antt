use Rattle.std.proofs.Common.{◌∙◌, sym, subst, Option}
use Rattle.client_core.specs.declared.state.ServerInfo.{ServerInfo}
use Rattle.client_core.specs.Feeding.{Client}
use Rattle.publication_push.specs.Orders.{orders_of}
use Rattle.publication_push.specs.Pushes.{Pushing, BeginsPush}
use Rattle.publication_push.proofs.push.Push.begin.Goals as goal

pub returns : goal.returns
returns g c = λ link version ps each e.
    let client : Client = c.self.inside.client in
    let goes = c.go_on.ensures (orders_of c.in-Some.known.count ps) (c.new-self-inside.ensures link version ps each e) in
    let P : Option ServerInfo → Type 0 = λ known. BeginsPush client known ps c.go_on.result c.go_on.new.self in
    let Q : Pushing → Type 0 = λ p. BeginsPush p.client p.client.state.known ps c.go_on.result c.go_on.new.self in
    subst Q c.self.view_is (subst P (sym c.in-Some.is ∙ c.known.ensures) goes)
