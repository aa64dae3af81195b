use Rattle.std.proofs.Common.{◌∷◌, [], ◌++◌, length, Ok, inr, arith, subst, ◌∙◌}
use Rattle.std.proofs.lemmas.List.{length-append}
use Rattle.blocking_io.specs.ServingTurns.{ServesTurn}
use Rattle.blocking_io.proofs.Turns.{goes_on_more, stops_by}
use Rattle.blocking_io.proofs.serving.serve_opened.Goals as goal

pub turns-preserved : goal.turns-preserved
turns-preserved g c =
    let i = c.turns.invariant in
    let t = subst (λ o. ServesTurn g.C.Connection.does c.args.id c.turns.core c.turns.connection (Ok o) c.serve_turn.new.core c.serve_turn.new.connection)
    c.in-Ok-None.field-0-is c.in-Ok-None.ensures.turn in
    record {
      before = i.before ++ t.0 ∷ [];
      begun = goes_on_more g.C.Connection.does c.args.id c.args.core.now c.args.connection.now i.before c.turns.core c.turns.connection t.0
          c.serve_turn.new.core c.serve_turn.new.connection i.begun t.1;
      count = omega (arith, length-append i.before (t.0 ∷ []), i.count);
      within = omega (arith, c.turns-test.true);
      open_ = t.1.is_so;
      others = λ other e. c.in-Ok-None.ensures.others other e ∙ i.others other e;
      room = c.in-Ok-None.ensures.room;
    }

pub returns-in-Err-clause-turns : goal.returns-in-Err-clause-turns
returns-in-Err-clause-turns g c =
    let i = c.turns.invariant in
    inr (record {
      before = i.before;
      core = c.turns.core;
      middle = c.turns.connection;
      begun = i.begun;
      ends = stops_by g.C.Connection.does c.args.id c.args.turns (length i.before) c.turns.core c.turns.connection c.in-Err.fault c.serve_turn.new.core
          c.serve_turn.new.connection (omega (arith, i.count, c.turns-test.true)) c.in-Err.ensures.turn;
    })
