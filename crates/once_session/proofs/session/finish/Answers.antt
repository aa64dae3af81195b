use Rattle.std.proofs.Common.{List, ℕ, subst, Some, false, IsTrue, take, ap, ◌∙◌}
use Rattle.frame_codec.specs.declared.frame.Frame.TheVariants.{Refused}
use Rattle.frame_codec.specs.Frames.{encoding}
use Rattle.once_session.specs.OnceTurns.{SendsBefore}
use Rattle.once_session.proofs.RunLemmas.{finish_cut}
use Rattle.once_session.proofs.session.finish.Goals as goal

pub returns-in-Err : goal.returns-in-Err
returns-in-Err g c rest e =
    let part = c.in-Err.ensures.prefix in (
      take part.0 (encoding (Refused 1)),
      subst (λ (b : List ℕ). SendsBefore g.C.Connection.does c.in-Err.fault c.args.connection.now (take part.0 b) c.refuse.new.connection) c.requires part.1,
      finish_cut c.in-Err.fault rest part.0 (λ r. let no : IsTrue false = c.if-is_between_frames.ensures.1 (e ∙ ap Some r) in cc) c.in-Err.ensures.fault,
    )
