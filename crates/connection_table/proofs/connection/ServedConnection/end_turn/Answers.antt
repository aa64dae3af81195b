use Rattle.std.proofs.Common.{◌∙◌, ap}
use Rattle.connection_table.specs.declared.connection.ServedConnection.{ServedConnection}
use Rattle.connection_table.proofs.Turned.{judged_active, stays_noted, stays_over}
use Rattle.connection_table.proofs.connection.ServedConnection.end_turn.Goals as goal

pub returns : goal.returns
returns g c = record {
  id = c.retired-outcome.ensures.id ∙ ap (λ (k : ServedConnection). k.id) c.note_held.ensures;
  held = stays_noted c.args.server.now.core c.args.self.now c.note_held.new.self c.retired-outcome.new.self c.note_held.ensures
      c.retired-outcome.ensures.held c.retired-outcome.ensures.id c.retired-outcome.ensures.state;
  queued = c.retired-outcome.ensures.queued ∙ ap (λ (k : ServedConnection). k.queued) c.note_held.ensures;
  active = judged_active c.retired-outcome.result c.close_if_idle.result c.retired-outcome.new.self c.args.now c.args.idle c.close_if_idle.ensures.idle c.close_if_idle.ensures.over;
  over = stays_over c.args.outcome c.retired-outcome.result c.close_if_idle.result (λ n. (c.retired-outcome.ensures.over n).1) c.close_if_idle.ensures.over;
}
