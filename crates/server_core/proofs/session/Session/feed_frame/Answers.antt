use Rattle.std.proofs.Common.{◌≡◌, [], ◌∷◌, ◌∙◌, ap, refl, sym, subst}
use Rattle.frame_codec.specs.declared.frame.Frame.TheVariants.{Publish}
use Rattle.version_store.specs.Histories.{StoreState, StandsFor}
use Rattle.server_core.specs.Serving.{setting_of, MayPublish}
use Rattle.server_core.specs.Sessions.{Session, frames_taken, WouldPublish}
use Rattle.server_core.proofs.Firsts.{first_well, first_short, used_some}
use Rattle.server_core.proofs.Publications.{publishes_since, taken_publish}
use Rattle.server_core.proofs.session.Session.feed_frame.Goals as goal

pub returns-clause-fed : goal.returns-clause-fed
returns-clause-fed g c h s =
    rw (← c.self.view_is, c.bytes_consumed-count.ensures c.args.piece.now refl)
    (first_well (setting_of c.args.store.now) h (record { standing = c.self.inside.standing; unfinished = c.self.inside.reader })
    c.args.piece.now c.serve_read.new.store c.in-Ok.standing c.feed_frame-read.new.self c.args.out.now.items c.serve_read.new.out.items c.feed_frame-read.result
    (sym c.is_closed.ensures ∙ c.if-is_closed.false) (rw c.has_wide_frames.ensures at c.feed_frame-read.ensures) (c.in-Ok.ensures.ok h s))

pub returns-in_default-clause-fed : goal.returns-in_default-clause-fed
returns-in_default-clause-fed g c h s =
    rw (← c.self.view_is) (first_short (setting_of c.args.store.now) h (record { standing = c.self.inside.standing; unfinished = c.self.inside.reader })
    c.args.piece.now _ c.serve_read.new.store c.feed_frame-read.new.self c.args.out.now.items c.serve_read.new.out.items c.feed_frame-read.result
    (sym c.is_closed.ensures ∙ c.if-is_closed.false) (rw c.has_wide_frames.ensures at c.feed_frame-read.ensures) c.in_default.ensures.stop (ap setting_of c.in_default.ensures.same)
    (subst (λ (y : StoreState). StandsFor y h) (sym c.in_default.ensures.same) s) c.in_default.ensures.none)

pub returns-clause-some : goal.returns-clause-some
returns-clause-some g c lt =
    rw (c.bytes_consumed-count.ensures c.args.piece.now refl)
    (used_some c.has_wide_frames.result c.self.inside.reader c.args.piece.now c.feed_frame-read.result c.feed_frame-read.new.self c.feed_frame-read.ensures lt)

pub returns-clause-version : goal.returns-clause-version
returns-clause-version g c =
    let s : Session = record { standing = c.self.inside.standing; unfinished = c.self.inside.reader } in
    rw (← c.self.view_is) (publishes_since
    (λ (p : (frames_taken c.feed_frame-read.result ≡ Publish ∷ []) × MayPublish c.self.inside.standing c.args.store.now).
    let w : WouldPublish s c.args.piece.now c.args.store.now = record {
      next = taken_publish c.has_wide_frames.result c.self.inside.reader c.args.piece.now c.feed_frame-read.result c.feed_frame-read.new.self c.feed_frame-read.ensures p.0;
      may = p.1;
    } in w)
    c.args.store.now.version c.serve_read.new.store.version c.serve_read.ensures.version)
