use Rattle.std.proofs.Common.{rules}
use Rattle.frame_codec.proofs.Queries.{no_query_next}
use Rattle.frame_codec.proofs.reader.Reader.query_next.Goals as goal

pub returns-clause-none : goal.returns-clause-none
returns-clause-none c =
    no_query_next c.query_head.result c.deref.result.now c.args.piece.now c.args.self.now
    (search (rules, c.self.view_is, c.if-self.false, c.deref.ensures.value)) c.query_head.ensures.none
