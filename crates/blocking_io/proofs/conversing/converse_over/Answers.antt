use Rattle.std.proofs.Common.{refl, take, inl}
use Rattle.blocking_io.proofs.Streams.{cut_taken}
use Rattle.blocking_io.proofs.conversing.converse_over.Goals as goal

pub returns-in_default-send : goal.returns-in_default-send
returns-in_default-send g c =
    let f = c.in_default-send.ensures.prefix in
    inl (refl {a = c.args.client.now}, take f.0 c.args.first.now, cut_taken f.0 c.args.first.now f.1, f.2)
