use Rattle.std.proofs.Common.{[], None, Some, Ok, Err, sym, ◌∙◌}
use Rattle.std.proofs.KnownBytes.{Appends-nil, Consumes-nil}
use Rattle.client_commands.specs.declared.fault.CommandError.TheVariants.{Conversation}
use Rattle.client_commands.proofs.Speaking.{event_is_told, call_is_answered, refusal_is_told}
use Rattle.client_commands.proofs.connection.exchange.Goals as goal

pub returns-in-Err : goal.returns-in-Err
returns-in-Err g c = ([], [], Consumes-nil _, Appends-nil _, refusal_is_told _ c.args.sent c.in-Err.fault _ c.in-Err.is)

pub returns-in-Err-converse : goal.returns-in-Err-converse
returns-in-Err-converse g c =
    let e = c.in-Err-converse.ensures in (
      e.0,
      e.1,
      e.2,
      e.3,
      call_is_answered _ c.args.sent c.in-Ok.first c.deref.result.now (Err (Conversation c.in-Err-converse.fault)) e.0 e.1 _ _ c.in-Ok.is
          c.deref.ensures.value e.5,
    )

pub returns-in-None : goal.returns-in-None
returns-in-None g c =
    let e = c.in-Ok-converse.ensures in
    let told = event_is_told _ c.deref.result.now c.in-Ok-converse.event None e.0 e.1 None _ (sym c.failure_of_event.ensures ∙ c.in-None.is) e.5 in (
      e.0,
      e.1,
      e.2,
      e.3,
      call_is_answered _ c.args.sent c.in-Ok.first c.deref.result.now (Ok c.in-Ok-converse.event)
          e.0 e.1 _ _ c.in-Ok.is c.deref.ensures.value told,
    )

pub returns : goal.returns
returns g c =
    let e = c.in-Ok-converse.ensures in
    let told =
    event_is_told _ c.deref.result.now c.in-Ok-converse.event (Some c.in-Some.failure) e.0 e.1 (g.R.Read.remaining c.converse.new.reader) _
    (sym c.failure_of_event.ensures ∙ c.in-Some.is) e.5 in (
      e.0,
      e.1,
      e.2,
      e.3,
      call_is_answered _ c.args.sent c.in-Ok.first c.deref.result.now (Err c.in-Some.failure)
          e.0 e.1 _ _ c.in-Ok.is c.deref.ensures.value told,
    )
