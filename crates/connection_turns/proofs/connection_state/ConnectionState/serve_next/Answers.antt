use Rattle.std.proofs.Common.{◌∙◌, ◌-◌, List, length, ap, ℕ}
use Rattle.std.specs.Prelude.{cond}
use Rattle.server_core.specs.Serving.{setting_of}
use Rattle.connection_turns.specs.Connections.{ConnectionSeen, is_progress}
use Rattle.connection_turns.specs.declared.connection_state.LastProgress.{LastProgress}
use Rattle.connection_turns.proofs.Steps.{serves_next, stops_given, Saw}
use Rattle.connection_turns.proofs.connection_state.ConnectionState.serve_next.Goals as goal

pub returns-in-Ok-clause-served : goal.returns-in-Ok-clause-served
returns-in-Ok-clause-served g c h stands s is =
    let old : ConnectionSeen = record {
      unserved = c.self.inside.unserved;
      owed = c.self.inside.owed;
      live = c.self.inside.live;
      ended = c.self.inside.ended;
      progress = c.self.inside.last.moment;
      awaited = c.self.inside.last.awaited;
    } in
    let fed = rw (c.as_slice.ensures, c.take_out-out.ensures.taken) at (c.in-Ok.ensures.fed h stands s is) in
    let owed : List ℕ = c.feed_frame.new.out.items in
    let saw : Saw old c.feed_frame.new.self c.args.id c.args.now owed c.is_open-self-inside.result c.progress_after-self-inside.result
    c.saturating_sub-replied.result =
    record {
      live_is = c.is_open-self-inside.ensures;
      replied_is = c.saturating_sub-replied.ensures ∙ ap (λ (n : ℕ). n - c.len-owed.result) (c.len.ensures ∙ ap length c.put_back.ensures)
          ∙ ap (λ (n : ℕ). length owed - n) c.len-owed.ensures;
      last_is = c.progress_after-self-inside.ensures
          ∙ ap (λ (n : ℕ). let p : LastProgress = cond (is_progress c.self.inside.last.awaited c.saturating_sub-replied.result c.is_open-self-inside.result)
          (record { moment = c.args.now; awaited = n }) c.self.inside.last in p) (c.len-awaited.ensures ∙ ap length c.put_back.ensures);
    } in
    rw (← c.self.view_is, c.skip.ensures, c.put_back.ensures) (serves_next (setting_of c.args.core.now.store) h s c.args.id c.args.now old c.feed_frame.new.self
    c.in-Ok.count owed c.is_open-self-inside.result c.progress_after-self-inside.result c.saturating_sub-replied.result
    (rw c.as_slice.ensures at c.in-Ok.ensures.within) fed saw)

pub returns-in-Err-clause-stopped : goal.returns-in-Err-clause-stopped
returns-in-Err-clause-stopped g c h stands s is =
    let old : ConnectionSeen = record {
      unserved = c.self.inside.unserved;
      owed = c.self.inside.owed;
      live = c.self.inside.live;
      ended = c.self.inside.ended;
      progress = c.self.inside.last.moment;
      awaited = c.self.inside.last.awaited;
    } in
    rw (← c.self.view_is, c.put_back-in-Err.ensures) (stops_given (setting_of c.args.core.now.store) h s c.args.id old c.feed_frame.new.self
    c.in-Err.field-0 c.as_slice.result.now c.take_out-out.result.items c.feed_frame.new.out.items c.as_slice.ensures c.take_out-out.ensures.taken
    (c.in-Err.ensures.fed h stands s is) c.in-Err.ensures.refused.1)
