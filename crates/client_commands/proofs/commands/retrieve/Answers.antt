use Rattle.std.proofs.Common.{[], ◌∷◌, Ok, Err, replicate}
use Rattle.std.proofs.lemmas.Result.{err_from_is_err_and}
use Rattle.client_core.specs.Calls.{Hello, Sync, Ask}
use Rattle.client_commands.specs.Transcripts.{Calls, Judges}
use Rattle.client_commands.proofs.Speaking.{called, last_call, after_call, last_look, after_look, end}
use Rattle.client_commands.proofs.Endings.{ask_ends}
use Rattle.client_commands.proofs.Sendings.{bare_before, on_answer}
use Rattle.client_commands.proofs.commands.retrieve.Goals as goal

pub returns-in_err-exchange-clause-transcript : goal.returns-in_err-exchange-clause-transcript
returns-in_err-exchange-clause-transcript g c =
    let p = err_from_is_err_and c.from_residual.result c.from_residual.ensures.1 in
    let hello = called (Hello (replicate 32 0)) _ _ c.hello-sent.result (Err c.in_err-exchange.field-0.0) _ _ _ _ _ c.hello-sent.ensures.accepted
    c.hello-sent.ensures.refused c.hello-sent.ensures.reader c.in_err-exchange.ensures in
    rw (p.1, p.2) (last_call (Hello (replicate 32 0)) (Judges c.args.least ∷ (Calls (Sync c.args.scheme) ∷ (Calls (Ask c.args.index) ∷ []))) _ _ _ _ _
    (Err c.in_err-exchange.field-0.0) _ tt hello)

pub returns-in_err-check_dimension-clause-transcript : goal.returns-in_err-check_dimension-clause-transcript
returns-in_err-check_dimension-clause-transcript g c =
    let p = err_from_is_err_and c.from_residual-in_err-check_dimension.result c.from_residual-in_err-check_dimension.ensures.1 in
    let hello = called (Hello (replicate 32 0)) _ _ c.hello-sent.result (Ok c.in_ok-exchange.field-0) _ _ _ _ _ c.hello-sent.ensures.accepted
    c.hello-sent.ensures.refused c.hello-sent.ensures.reader c.in_ok-exchange.ensures in
    let looked = last_look c.args.least (Calls (Sync c.args.scheme) ∷ (Calls (Ask c.args.index) ∷ [])) _ _ _ c.in_err-check_dimension.field-0.0 c.in_err-check_dimension.ensures.0
    c.in_err-check_dimension.ensures.1 in
    rw (p.1, p.2) (after_call (Hello (replicate 32 0)) (Judges c.args.least ∷ (Calls (Sync c.args.scheme) ∷ (Calls (Ask c.args.index) ∷ []))) _ _ _ _ _ _ _
    c.in_ok-exchange.field-0 _ (Err c.in_err-check_dimension.field-0.0) _ hello looked)

pub returns-in_err-exchange-2-clause-transcript : goal.returns-in_err-exchange-2-clause-transcript
returns-in_err-exchange-2-clause-transcript g c =
    let p = err_from_is_err_and c.from_residual-in_err-exchange-2.result c.from_residual-in_err-exchange-2.ensures.1 in
    let hello = called (Hello (replicate 32 0)) _ _ c.hello-sent.result (Ok c.in_ok-exchange.field-0) _ _ _ _ _ c.hello-sent.ensures.accepted
    c.hello-sent.ensures.refused c.hello-sent.ensures.reader c.in_ok-exchange.ensures in
    let sync = called (Sync c.args.scheme) _ _ c.sync-sent.result (Err c.in_err-exchange-2.field-0.0) _ _ _ _ _ c.sync-sent.ensures.accepted
    c.sync-sent.ensures.refused c.sync-sent.ensures.reader c.in_err-exchange-2.ensures in
    let ended = last_call (Sync c.args.scheme) (Calls (Ask c.args.index) ∷ []) _ _ _ _ _ (Err c.in_err-exchange-2.field-0.0) _ tt sync in
    let looked = after_look c.args.least (Calls (Sync c.args.scheme) ∷ (Calls (Ask c.args.index) ∷ [])) _ _ _ _ _ (Err c.in_err-exchange-2.field-0.0) _
    c.in_ok-check_dimension.ensures ended in
    rw (p.1, p.2) (after_call (Hello (replicate 32 0)) (Judges c.args.least ∷ (Calls (Sync c.args.scheme) ∷ (Calls (Ask c.args.index) ∷ []))) _ _ _ _ _ _ _
    c.in_ok-exchange.field-0 _ (Err c.in_err-exchange-2.field-0.0) _ hello looked)

pub returns-clause-transcript : goal.returns-clause-transcript
returns-clause-transcript g c =
    let hello = called (Hello (replicate 32 0)) _ _ c.hello-sent.result (Ok c.in_ok-exchange.field-0) _ _ _ _ _ c.hello-sent.ensures.accepted
    c.hello-sent.ensures.refused c.hello-sent.ensures.reader c.in_ok-exchange.ensures in
    let sync = called (Sync c.args.scheme) _ _ c.sync-sent.result (Ok c.in_ok-exchange-2.field-0) _ _ _ _ _ c.sync-sent.ensures.accepted
    c.sync-sent.ensures.refused c.sync-sent.ensures.reader c.in_ok-exchange-2.ensures in
    let ask = called (Ask c.args.index) _ _ c.ask-sent.result c.exchange-3.result _ _ _ _ _ c.ask-sent.ensures.accepted
    c.ask-sent.ensures.refused c.ask-sent.ensures.reader c.exchange-3.ensures in
    let asked = last_call (Ask c.args.index) [] _ _ _ _ _ c.exchange-3.result _ (end c.exchange-3.result) ask in
    let synced = after_call (Sync c.args.scheme) (Calls (Ask c.args.index) ∷ []) _ _ _ _ _ _ _ c.in_ok-exchange-2.field-0 _ c.exchange-3.result _ sync asked in
    let looked = after_look c.args.least (Calls (Sync c.args.scheme) ∷ (Calls (Ask c.args.index) ∷ [])) _ _ _ _ _ c.exchange-3.result _
    c.in_ok-check_dimension.ensures synced in
    after_call (Hello (replicate 32 0)) (Judges c.args.least ∷ (Calls (Sync c.args.scheme) ∷ (Calls (Ask c.args.index) ∷ []))) _ _ _ _ _ _ _
    c.in_ok-exchange.field-0 _ c.exchange-3.result _ hello looked

pub returns-clause-record : goal.returns-clause-record
returns-clause-record g c =
    let ask = called (Ask c.args.index) _ _ c.ask-sent.result c.exchange-3.result _ _ _ _ _ c.ask-sent.ensures.accepted
    c.ask-sent.ensures.refused c.ask-sent.ensures.reader c.exchange-3.ensures in
    ask_ends c.args.index _ c.exchange-3.result ask.0 ask.1 _ _ ask.4

pub returns-clause-bare : goal.returns-clause-bare
returns-clause-bare g c =
    let e = c.in_ok-exchange.ensures in
    on_answer c.exchange-3.result _
    (bare_before (replicate 32 0) c.args.client.now c.hello-sent.new.self c.hello-sent.result c.in_ok-exchange.field-0 e.0 e.1 _ _ c.hello-sent.ensures.accepted
    c.hello-sent.ensures.hint e.4)
