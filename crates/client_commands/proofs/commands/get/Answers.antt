use Rattle.client_commands.proofs.Numbers.{retrieval_spends}
use Rattle.client_commands.proofs.Sendings.{retrieval_has_sent}
use Rattle.client_commands.proofs.commands.get.Goals as goal

pub returns-in-Ok-Retrieved-clause-sends : goal.returns-in-Ok-Retrieved-clause-sends
returns-in-Ok-Retrieved-clause-sends g c =
    let t = c.in-Ok-Retrieved.ensures.transcript in
    retrieval_has_sent c.args.least c.args.scheme c.args.index _ _ t.0 t.1 _ _ _ _ c.in-Ok-Retrieved.ensures.bare t.3 t.4

pub returns-in-Ok-Retrieved-clause-spends : goal.returns-in-Ok-Retrieved-clause-spends
returns-in-Ok-Retrieved-clause-spends g c =
    let t = c.in-Ok-Retrieved.ensures.transcript in
    retrieval_spends c.args.least c.args.scheme c.args.index _ _ t.0 t.1 _ _ t.4

pub returns-in-Err-clause-spends_no_more : goal.returns-in-Err-clause-spends_no_more
returns-in-Err-clause-spends_no_more g c =
    let t = c.in-Err.ensures.transcript in
    retrieval_spends c.args.least c.args.scheme c.args.index _ _ t.0 t.1 _ _ t.4
