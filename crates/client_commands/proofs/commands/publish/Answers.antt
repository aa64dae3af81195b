use Rattle.client_commands.specs.Transcripts.{publish_steps}
use Rattle.client_commands.proofs.Numbers.{AreNoAsks, no_asks_spend_none}
use Rattle.client_commands.proofs.commands.publish.Goals as goal

pub returns-clause-number : goal.returns-clause-number
unfolding AreNoAsks
returns-clause-number g c =
    let t = c.publish_draft.ensures.transcript in
    no_asks_spend_none (publish_steps c.args.key) _ c.publish_draft.result t.0 t.1 _ _ (tt, (tt, tt)) t.4
