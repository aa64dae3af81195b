use Rattle.client_commands.specs.Transcripts.{append_steps}
use Rattle.client_commands.proofs.Numbers.{AreNoAsks, no_asks_spend_none}
use Rattle.client_commands.proofs.commands.append.Goals as goal

pub returns-clause-number : goal.returns-clause-number
unfolding AreNoAsks
returns-clause-number g c =
    let t = c.append_record.ensures.transcript in
    no_asks_spend_none (append_steps c.args.key c.args.bytes.now) _ c.append_record.result t.0 t.1 _ _ (tt, (tt, tt)) t.4
