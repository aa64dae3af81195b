use Rattle.std.proofs.Common.{sym, ◌∙◌, inl, inr}
use Rattle.server_core.specs.Serving.{setting_of}
use Rattle.server_core.proofs.Pieces.{stopped_after, on_err, both_err}
use Rattle.server_core.proofs.session.serve_completed.Goals as goal

pub returns-clause-err : goal.returns-clause-err
returns-clause-err g c =
    on_err c.end_piece.result c.end_piece.ensures.err
    (λ e h s. stopped_after (setting_of c.args.store.now) h c.args.standing c.args.frames.now c.args.read c.serve_frames.new.store c.in-Ok.middle
    c.args.out.now.items c.serve_frames.new.out.items c.end_piece.new.out.items (sym c.is_closed.ensures ∙ c.if-is_closed.false)
    (c.in-Ok.ensures.ok h s) e.0 e.1)

pub returns-clause-full : goal.returns-clause-full
returns-clause-full g c =
    both_err c.end_piece.result c.end_piece.ensures.full c.end_piece.ensures.err
    (λ full e. elim full [
      | inl is_full ↦ inl is_full
      | inr unjudged ↦ inr (
        unjudged,
        λ h s. record {
          middle = c.in-Ok.middle;
          goes_on = sym c.is_closed.ensures ∙ c.if-is_closed.false;
          frames_are = rw e.1 (c.in-Ok.ensures.ok h s);
        },
      )
    ])
