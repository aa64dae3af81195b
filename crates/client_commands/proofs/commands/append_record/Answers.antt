use Rattle.std.proofs.Common.{[], ◌∷◌, Ok, Err}
use Rattle.std.proofs.lemmas.Result.{err_from_is_err_and}
use Rattle.client_core.specs.Calls.{Hello, Append}
use Rattle.client_commands.specs.Transcripts.{Calls}
use Rattle.client_commands.proofs.Speaking.{called, last_call, after_call, end}
use Rattle.client_commands.proofs.Endings.{addition_ends}
use Rattle.client_commands.proofs.commands.append_record.Goals as goal

pub returns-in_err-exchange-clause-transcript : goal.returns-in_err-exchange-clause-transcript
returns-in_err-exchange-clause-transcript g c =
    let p = err_from_is_err_and c.from_residual.result c.from_residual.ensures.1 in
    let hello = called (Hello c.args.key) _ _ c.hello-sent.result (Err c.in_err-exchange.field-0.0) _ _ _ _ _ c.hello-sent.ensures.accepted
    c.hello-sent.ensures.refused c.hello-sent.ensures.reader c.in_err-exchange.ensures in
    rw (p.1, p.2) (last_call (Hello c.args.key) (Calls (Append c.args.bytes.now) ∷ []) _ _ _ _ _ (Err c.in_err-exchange.field-0.0) _ tt hello)

pub returns-clause-transcript : goal.returns-clause-transcript
returns-clause-transcript g c =
    let hello = called (Hello c.args.key) _ _ c.hello-sent.result (Ok c.in_ok-exchange.field-0) _ _ _ _ _ c.hello-sent.ensures.accepted
    c.hello-sent.ensures.refused c.hello-sent.ensures.reader c.in_ok-exchange.ensures in
    let then =
    called (Append c.args.bytes.now) _ _ c.append-sent.result c.exchange-2.result _ _ _ _ _ c.append-sent.ensures.accepted c.append-sent.ensures.refused
    c.append-sent.ensures.reader c.exchange-2.ensures in
    after_call (Hello c.args.key) (Calls (Append c.args.bytes.now) ∷ []) _ _ _ _ _ _ _ c.in_ok-exchange.field-0 _ c.exchange-2.result _ hello
    (last_call (Append c.args.bytes.now) [] _ _ _ _ _ c.exchange-2.result _ (end c.exchange-2.result) then)

pub returns-clause-done : goal.returns-clause-done
returns-clause-done g c =
    let then =
    called (Append c.args.bytes.now) _ _ c.append-sent.result c.exchange-2.result _ _ _ _ _ c.append-sent.ensures.accepted c.append-sent.ensures.refused
    c.append-sent.ensures.reader c.exchange-2.ensures in
    addition_ends c.args.bytes.now _ c.exchange-2.result then.0 then.1 _ _ then.4
