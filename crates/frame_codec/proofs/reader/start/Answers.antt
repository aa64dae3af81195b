use Rattle.std.proofs.Common.{[], true, arith}
use Rattle.std.proofs.lemmas.Result.{err_from_is_err_and}
use Rattle.frame_codec.proofs.Pieces.{partial_stops}
use Rattle.frame_codec.proofs.Prefixes.{nothing_partial}
use Rattle.frame_codec.proofs.Takings.{takes_frame}
use Rattle.frame_codec.proofs.reader.start.Goals as goal

pub returns-in_err-extend_from_slice-in-None-clause-err : goal.returns-in_err-extend_from_slice-in-None-clause-err
returns-in_err-extend_from_slice-in-None-clause-err c =
    let r = c.from_residual-in_err-extend_from_slice-in-None in
    let p = err_from_is_err_and r.result r.ensures.1 in
    rw (p.1, p.2) (partial_stops c.args.wide c.args.piece.now (rw c.in-None.is at c.in_ok-frame_at.ensures.partial))

pub returns-in-Some-clause-ok : goal.returns-in-Some-clause-ok
returns-in-Some-clause-ok c =
    let found = rw c.in-Some.is at c.in_ok-frame_at.ensures.whole in
    takes_frame c.args.wide [] c.args.piece.now c.in-Some.rest.now c.args.pending.now.items c.in-Some.frame (nothing_partial true) found.0 found.1 (omega (arith, found.2))
    c.requires
