use Rattle.std.proofs.Common.{◌≡◌, OnOk, ap, subst}
use Rattle.version_store.specs.Histories.{StoreState, held_published}
use Rattle.server_core.specs.Cores.{Core}
use Rattle.server_core.proofs.server.ServerCore.publish.Goals as goal

pub returns-clause-done : goal.returns-clause-done
returns-clause-done g c =
    subst (λ (s : StoreState). OnOk c.publish.result (c.publish.new.self ≡ held_published s))
    (ap (λ (x : Core). x.store) c.self.view_is) c.publish.ensures.done
