use Rattle.std.proofs.Common.{replicate}
use Rattle.client_core.specs.Calls.{Hello}
use Rattle.client_commands.proofs.Speaking.{called}
use Rattle.client_commands.proofs.Numbers.{calm_call, call_keeps_seed}
use Rattle.client_commands.proofs.kept.greet.Goals as goal

pub returns-clause-transcript : goal.returns-clause-transcript
returns-clause-transcript g c =
    called (Hello (replicate 32 0)) _ _ c.hello-sent.result c.exchange.result _ _ _ _ _ c.hello-sent.ensures.accepted c.hello-sent.ensures.refused
    c.hello-sent.ensures.reader c.exchange.ensures

pub returns-clause-number : goal.returns-clause-number
returns-clause-number g c =
    let t =
    called (Hello (replicate 32 0)) _ _ c.hello-sent.result c.exchange.result _ _ _ _ _ c.hello-sent.ensures.accepted c.hello-sent.ensures.refused
    c.hello-sent.ensures.reader c.exchange.ensures in
    calm_call _ (Hello (replicate 32 0)) c.exchange.result t.0 t.1 _ _ tt t.4

pub returns-clause-seed : goal.returns-clause-seed
returns-clause-seed g c =
    let t =
    called (Hello (replicate 32 0)) _ _ c.hello-sent.result c.exchange.result _ _ _ _ _ c.hello-sent.ensures.accepted c.hello-sent.ensures.refused
    c.hello-sent.ensures.reader c.exchange.ensures in
    call_keeps_seed _ (Hello (replicate 32 0)) c.exchange.result t.0 t.1 _ _ t.4
