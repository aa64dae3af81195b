use Rattle.std.proofs.Common.{Ok, Err, rules}
use Rattle.once_session.proofs.OverPairs.{finally_answered}
use Rattle.once_session.proofs.session.once_with.Goals as goal

pub returns-in-Ok : goal.returns-in-Ok
returns-in-Ok g c =
    finally_answered g.R.Read.remaining g.W.Write.contents c.args.turns c.new-pair.result (Ok tt) c.once_over.new.connection
    c.args.reader.now _ c.args.writer.now _ c.in-Ok.ensures c.new-pair.ensures.reader.1 c.new-pair.ensures.writer.1 (search rules) (search rules)

pub returns-in-Err : goal.returns-in-Err
returns-in-Err g c =
    finally_answered g.R.Read.remaining g.W.Write.contents c.args.turns c.new-pair.result (Err c.in-Err.fault) c.once_over.new.connection
    c.args.reader.now _ c.args.writer.now _ c.in-Err.ensures c.new-pair.ensures.reader.1 c.new-pair.ensures.writer.1 (search rules) (search rules)
