use Rattle.client_core.specs.Calls.{Ask}
use Rattle.client_commands.proofs.Speaking.{called}
use Rattle.client_commands.proofs.Endings.{ask_ends}
use Rattle.client_commands.proofs.Numbers.{ask_number, call_keeps_seed}
use Rattle.client_commands.proofs.kept.ask.Goals as goal

pub returns-clause-transcript : goal.returns-clause-transcript
returns-clause-transcript g c =
    called (Ask c.args.index) _ _ c.ask-sent.result c.exchange.result _ _ _ _ _ c.ask-sent.ensures.accepted c.ask-sent.ensures.refused
    c.ask-sent.ensures.reader c.exchange.ensures

pub returns-clause-number : goal.returns-clause-number
returns-clause-number g c =
    let t =
    called (Ask c.args.index) _ _ c.ask-sent.result c.exchange.result _ _ _ _ _ c.ask-sent.ensures.accepted c.ask-sent.ensures.refused
    c.ask-sent.ensures.reader c.exchange.ensures in
    ask_number _ c.args.index c.exchange.result t.0 t.1 _ _ t.4

pub returns-clause-record : goal.returns-clause-record
returns-clause-record g c =
    let t =
    called (Ask c.args.index) _ _ c.ask-sent.result c.exchange.result _ _ _ _ _ c.ask-sent.ensures.accepted c.ask-sent.ensures.refused
    c.ask-sent.ensures.reader c.exchange.ensures in
    ask_ends c.args.index _ c.exchange.result t.0 t.1 _ _ t.4

pub returns-clause-seed : goal.returns-clause-seed
returns-clause-seed g c =
    let t =
    called (Ask c.args.index) _ _ c.ask-sent.result c.exchange.result _ _ _ _ _ c.ask-sent.ensures.accepted c.ask-sent.ensures.refused
    c.ask-sent.ensures.reader c.exchange.ensures in
    call_keeps_seed _ (Ask c.args.index) c.exchange.result t.0 t.1 _ _ t.4
