use Rattle.std.proofs.Common.{◌≡◌, ℕ, Option, IfSome, inr, sym, subst}
use Rattle.service_status.specs.Stopping.{stopping_from}
use Rattle.mio_server.proofs.serving.Service.stop_at_end.Goals as goal

pub returns-in_ok-now-in-Ended-clause-phase : goal.returns-in_ok-now-in-Ended-clause-phase
returns-in_ok-now-in-Ended-clause-phase c =
    inr (
      c.in_ok-now-in-Ended.now,
      subst (λ (o : Option ℕ). IfSome o (λ g. c.stop.new.self.phase ≡ stopping_from c.in_ok-now-in-Ended.now g c.args.self.now.phase))
          (sym c.in-Some.is) c.stop.ensures.phase,
    )
