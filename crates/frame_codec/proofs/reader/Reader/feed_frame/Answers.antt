use Rattle.std.proofs.Common.{rules}
use Rattle.std.specs.Prelude.{IsOk}
use Rattle.frame_codec.proofs.Takings.{keeps_partial}
use Rattle.frame_codec.proofs.reader.Reader.feed_frame.Goals as goal

pub invariant_of-self-else-is_err : goal.invariant_of-self-else-is_err
invariant_of-self-else-is_err c =
    let ok : IsOk c.advance-answer.result = search rules in
    (λ e. keeps_partial c.args.wide _ c.args.piece.now c.advance-answer.result _ c.advance-answer.ensures.ok ok, λ e. absurd cc)
