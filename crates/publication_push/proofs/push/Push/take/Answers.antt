use Rattle.std.proofs.Common.{subst, sym, refl, Err}
use Rattle.client_core.specs.declared.state.Event.{Event}
use Rattle.publication_push.specs.declared.fault.PushFault.TheVariants as fault
use Rattle.publication_push.specs.Pushes.{Takes}
use Rattle.publication_push.proofs.PushLemmas.{other_event}
use Rattle.publication_push.proofs.push.Push.take.Goals as goal

pub returns-in-Welcomed : goal.returns-in-Welcomed
returns-in-Welcomed g c = λ left has.
    let P : Event → Type 0 = λ e. Takes c.args.self.now left e c.greeted.result c.args.self.now in
    subst P (sym c.in-Welcomed.is) (c.greeted.ensures, refl)

pub returns-in-Refused : goal.returns-in-Refused
returns-in-Refused g c = λ left has.
    let P : Event → Type 0 = λ e. Takes c.args.self.now left e (Err (fault.Refused c.in-Refused.code)) c.args.self.now in
    subst P (sym c.in-Refused.is) (refl, refl)

pub returns-in_default : goal.returns-in_default
returns-in_default g c = λ left has. other_event c.args.self.now left c.args.event.now c.in_default.not-Welcomed c.in_default.not-Done c.in_default.not-Refused
