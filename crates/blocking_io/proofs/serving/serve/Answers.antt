use Rattle.std.proofs.Common.{Ok, Err, rules}
use Rattle.blocking_io.proofs.ServingPairs.{finally_served}
use Rattle.blocking_io.proofs.serving.serve.Goals as goal

pub returns-in-Ok-clause-served : goal.returns-in-Ok-clause-served
returns-in-Ok-clause-served g c =
    finally_served g.R.Read.remaining g.W.Write.contents c.args.id c.args.turns c.args.core.now c.new-pair.result
    (Ok c.in-Ok.ending) c.serve_over.new.core c.serve_over.new.connection
    c.args.reader.now _ c.args.writer.now _ c.in-Ok.ensures.turns c.new-pair.ensures.reader.1 c.new-pair.ensures.writer.1 (search rules) (search rules)

pub returns-in-Err-clause-served : goal.returns-in-Err-clause-served
returns-in-Err-clause-served g c =
    finally_served g.R.Read.remaining g.W.Write.contents c.args.id c.args.turns c.args.core.now c.new-pair.result
    (Err c.in-Err.fault) c.serve_over.new.core c.serve_over.new.connection
    c.args.reader.now _ c.args.writer.now _ c.in-Err.ensures.turns c.new-pair.ensures.reader.1 c.new-pair.ensures.writer.1 (search rules) (search rules)
