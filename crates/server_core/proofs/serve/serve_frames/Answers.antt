use Rattle.std.proofs.Common.{◌∙◌, sym}
use Rattle.version_store.specs.Histories.{History, StandsFor}
use Rattle.server_core.specs.Serving.{Serves, setting_of}
use Rattle.server_core.proofs.Runs.{serves_one, drops_one, at_err}
use Rattle.server_core.proofs.serve.serve_frames.Goals as goal
use Rattle.server_core.proofs.serve.serve_frames.Goals.{then-not-is_closed+in_ok-standing, else-not-is_closed}

pub loop-frame-preserved : goal.loop-frame-preserved
loop-frame-preserved g c h s = elim c.if-not-is_closed.branch [
  | then-not-is_closed+in_ok-standing w ↦
      let step : (h1 : History) → StandsFor c.loop-frame.store h1 →
      Serves (setting_of c.loop-frame.store) h1 c.loop-frame.standing c.frame-item.result w.serve_frame.new.store w.in_ok-standing.standing
      c.loop-frame.out.items w.serve_frame.new.out.items = w.in_ok-standing.ensures.ok in
      rw (w.store-is, w.standing-is, w.out-is)
      (serves_one (setting_of c.args.store.now) h c.args.standing c.args.frames.now c.loop-frame.frame-index c.loop-frame.store c.loop-frame.standing
      c.args.out.now.items c.loop-frame.out.items _ _ _ c.loop-frame-test.true c.frame-item.result c.frame-item.is (sym c.is_closed.ensures
      ∙ w.if-not-is_closed.true) (c.loop-frame.invariant h s) step)
  | else-not-is_closed w ↦ rw (w.store-is, w.standing-is, w.out-is)
      (drops_one (setting_of c.args.store.now) h c.args.standing c.args.frames.now c.loop-frame.frame-index c.loop-frame.store c.loop-frame.standing
      c.args.out.now.items c.loop-frame.out.items c.loop-frame-test.true (sym c.is_closed.ensures ∙ w.if-not-is_closed.false) (c.loop-frame.invariant h s))
]

pub returns-in_err-standing-clause-err : goal.returns-in_err-standing-clause-err
returns-in_err-standing-clause-err g c =
    at_err c.from_residual.result (λ h s.
    rw (c.in_err-standing.ensures.err.0, c.in_err-standing.ensures.err.1) (record {
      count = c.loop-frame.frame-index;
      after = c.loop-frame.standing;
      within = c.loop-frame-test.true;
      goes_on = sym c.is_closed.ensures ∙ c.if-not-is_closed.true;
      served_all = c.loop-frame.invariant h s;
    }))
