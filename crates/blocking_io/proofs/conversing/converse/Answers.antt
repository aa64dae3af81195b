use Rattle.std.proofs.Common.{Ok, Err, rules}
use Rattle.blocking_io.proofs.ConversingPairs.{finally_heard}
use Rattle.blocking_io.proofs.conversing.converse.Goals as goal

pub returns-in-Ok : goal.returns-in-Ok
returns-in-Ok g c =
    finally_heard g.R.Read.remaining g.W.Write.contents c.args.turns c.args.client.now c.args.first.now c.new-pair.result
    (Ok c.in-Ok.event) c.converse_over.new.client c.converse_over.new.connection
    c.args.reader.now _ c.args.writer.now _ c.in-Ok.ensures c.new-pair.ensures.reader.1 c.new-pair.ensures.writer.1 (search rules) (search rules)

pub returns-in-Err : goal.returns-in-Err
returns-in-Err g c =
    finally_heard g.R.Read.remaining g.W.Write.contents c.args.turns c.args.client.now c.args.first.now c.new-pair.result
    (Err c.in-Err.fault) c.converse_over.new.client c.converse_over.new.connection
    c.args.reader.now _ c.args.writer.now _ c.in-Err.ensures c.new-pair.ensures.reader.1 c.new-pair.ensures.writer.1 (search rules) (search rules)
