use Rattle.std.proofs.Common.{◌∷◌, [], ◌++◌, Ok, arith, subst}
use Rattle.std.proofs.lemmas.List.{length-append}
use Rattle.blocking_io.specs.ConversingTurns.{ReceivesTurn}
use Rattle.blocking_io.proofs.Turns.{receives_more}
use Rattle.blocking_io.proofs.conversing.read_until_event.Goals as goal

pub turns-preserved : goal.turns-preserved
turns-preserved g c =
    let i = c.turns.invariant in
    let t = subst (λ o. ReceivesTurn g.C.Connection.does c.turns.client c.turns.connection (Ok o) c.converse_turn.new.client c.converse_turn.new.connection)
    c.in-Ok-None.field-0-is c.in-Ok-None.ensures.turn in
    record {
      before = i.before ++ t.0 ∷ [];
      begun = receives_more g.C.Connection.does c.args.client.now c.args.connection.now i.before c.turns.client c.turns.connection t.0
          c.converse_turn.new.client c.converse_turn.new.connection i.begun t.1;
      count = omega (arith, length-append i.before (t.0 ∷ []), i.count);
      within = omega (arith, c.turns-test.true);
      room = c.in-Ok-None.ensures.room;
    }
