use Rattle.std.proofs.lemmas.Result.{err_from_is_err_and}
use Rattle.frame_codec.proofs.Pieces.{filled_stops}
use Rattle.frame_codec.proofs.reader.finish.Goals as goal

pub returns-in_err-frame-clause-err : goal.returns-in_err-frame-clause-err
returns-in_err-frame-clause-err c =
    let p = err_from_is_err_and c.from_residual-in_err-frame.result c.from_residual-in_err-frame.ensures.1 in
    rw (p.1, p.2)
    (filled_stops c.args.wide c.in_err-frame.field-0.0 c.args.pending.now.items c.args.piece.now c.fill.new.pending.items c.in_ok-rest.rest.now
    c.in_ok-rest.ensures.whole
    (rw c.deref.ensures.value at c.in_err-frame.ensures.fault) (rw c.deref.ensures.value at c.in_err-frame.ensures.memory))
