use Rattle.std.proofs.Common.{◌≡◌, List, refl, sym, ◌∙◌, inl, inr}
use Rattle.frame_codec.specs.declared.frame.Frame.{Frame}
use Rattle.server_core.specs.Serving.{setting_of}
use Rattle.server_core.specs.Sessions.{ServedFrames, ServedOpen}
use Rattle.server_core.proofs.Pieces.{fed_well, stays_live, unread_after}
use Rattle.server_core.proofs.session.Session.feed.Goals as goal

pub invariant_of-self : goal.invariant_of-self
invariant_of-self g c =
    let frames : List Frame = c.feed-read.ensures.0 in
    stays_live c.has_wide_frames.result c.self.inside.reader c.args.piece.now c.feed-read.result frames c.feed-read.new.self c.in-Ok.standing c.feed-read.ensures.2
    c.in-Ok.ensures.live

pub returns-in-Ok-clause-fed : goal.returns-in-Ok-clause-fed
returns-in-Ok-clause-fed g c h s =
    let frames : List Frame = c.feed-read.ensures.0 in
    let seen : c.deref.result.now ≡ frames = c.deref.ensures.value ∙ c.feed-read.ensures.1 ∙ rw c.new-frames.ensures.items refl in
    let served : ServedFrames (setting_of c.args.store.now) h c.self.inside.standing frames c.feed-read.result c.serve_completed.new.store c.in-Ok.standing
    c.args.out.now.items c.serve_completed.new.out.items = rw (← seen) (c.in-Ok.ensures.ok h s) in
    rw (← c.self.view_is) (fed_well (setting_of c.args.store.now) h (record { standing = c.self.inside.standing; unfinished = c.self.inside.reader })
    c.args.piece.now tt c.serve_completed.new.store c.in-Ok.standing c.feed-read.new.self c.args.out.now.items c.serve_completed.new.out.items c.feed-read.result
    frames (sym c.is_closed.ensures ∙ c.if-is_closed.false) (rw c.has_wide_frames.ensures at c.feed-read.ensures.2) served)

pub returns-clause-full : goal.returns-clause-full
returns-clause-full g c h s = elim c.in-Err.ensures.full [
  | inl is_full ↦ inl is_full
  | inr unread ↦ inr (
      let frames : List Frame = c.feed-read.ensures.0 in
      let seen : c.deref.result.now ≡ frames = c.deref.ensures.value ∙ c.feed-read.ensures.1 ∙ rw c.new-frames.ensures.items refl in
      let served : ServedOpen (setting_of c.args.store.now) h c.self.inside.standing frames c.serve_completed.new.store
      c.args.out.now.items c.serve_completed.new.out.items = rw (← seen) (unread.1 h s) in
      rw (← c.self.view_is) (unread_after (setting_of c.args.store.now) h
      (record { standing = c.self.inside.standing; unfinished = c.self.inside.reader }) c.args.piece.now c.in-Err.fault c.serve_completed.new.store
      c.feed-read.new.self c.args.out.now.items c.serve_completed.new.out.items c.feed-read.result frames (sym c.is_closed.ensures ∙ c.if-is_closed.false)
      c.self.invariant (rw c.has_wide_frames.ensures at c.feed-read.ensures.2) unread.0 served))
]
