use Rattle.frame_codec.proofs.Takings.{takes_frame}
use Rattle.frame_codec.proofs.reader.advance.Goals as goal

pub returns-in-Some-clause-ok : goal.returns-in-Some-clause-ok
returns-in-Some-clause-ok c =
    let found = rw c.in-Some.is at c.in_ok-finish.ensures.whole in
    takes_frame c.args.wide c.args.pending.now.items c.args.piece.now c.in-Some.rest.now c.finish.new.pending.items c.in-Some.frame c.requires found.0 found.1 found.2
    found.3
