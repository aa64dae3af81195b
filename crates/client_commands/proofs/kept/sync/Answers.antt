use Rattle.client_core.specs.Calls.{Sync}
use Rattle.client_commands.proofs.Speaking.{called}
use Rattle.client_commands.proofs.Numbers.{calm_call, call_keeps_seed}
use Rattle.client_commands.proofs.kept.sync.Goals as goal

pub returns-clause-transcript : goal.returns-clause-transcript
returns-clause-transcript g c =
    called (Sync c.args.scheme) _ _ c.sync-sent.result c.exchange.result _ _ _ _ _ c.sync-sent.ensures.accepted c.sync-sent.ensures.refused
    c.sync-sent.ensures.reader c.exchange.ensures

pub returns-clause-number : goal.returns-clause-number
returns-clause-number g c =
    let t =
    called (Sync c.args.scheme) _ _ c.sync-sent.result c.exchange.result _ _ _ _ _ c.sync-sent.ensures.accepted c.sync-sent.ensures.refused
    c.sync-sent.ensures.reader c.exchange.ensures in
    calm_call _ (Sync c.args.scheme) c.exchange.result t.0 t.1 _ _ tt t.4

pub returns-clause-seed : goal.returns-clause-seed
returns-clause-seed g c =
    let t =
    called (Sync c.args.scheme) _ _ c.sync-sent.result c.exchange.result _ _ _ _ _ c.sync-sent.ensures.accepted c.sync-sent.ensures.refused
    c.sync-sent.ensures.reader c.exchange.ensures in
    call_keeps_seed _ (Sync c.args.scheme) c.exchange.result t.0 t.1 _ _ t.4
