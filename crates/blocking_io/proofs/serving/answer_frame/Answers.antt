use Rattle.std.proofs.Common.{List, ℕ, take, subst}
use Rattle.connection_io.specs.Calls.{Sends}
use Rattle.blocking_io.specs.Prefixes.{IsCutOff}
use Rattle.blocking_io.proofs.Streams.{cut_taken}
use Rattle.blocking_io.proofs.Frames.{first_fed, first_any, first_short}
use Rattle.blocking_io.proofs.serving.answer_frame.Goals as goal

pub returns-in_default-clause-served : goal.returns-in_default-clause-served
returns-in_default-clause-served g c =
    let f = c.in_default.ensures.prefix in
    let bytes : List ℕ = take f.0 c.deref.result.now in (
      bytes,
      f.2,
      λ h s old e.
          let fed = c.feed_frame-fed.ensures.fed h s old e in
          let a = first_any _ h old c.args.piece.now c.feed_frame-fed.result _ fed.0 _ _ c.clear.ensures.items fed.2 in
          (fed.0, a.0, c.feed_frame-fed.new.out.items, a.1, subst (λ (b : List ℕ). IsCutOff bytes b) c.deref.ensures.value (cut_taken f.0 c.deref.result.now f.1)),
    )

pub returns-in-Ok-fed-clause-served : goal.returns-in-Ok-fed-clause-served
returns-in-Ok-fed-clause-served g c = (
  c.feed_frame-fed.new.out.items,
  subst (λ (b : List ℕ). Sends g.C.Connection.does c.args.connection.now b c.send.new.connection) c.deref.ensures.value c.in-Ok.ensures.all,
  λ h s old e.
      let fed = c.in-Ok-fed.ensures.fed h s old e in
      (fed.0, fed.1, first_fed _ h old c.args.piece.now _ _ fed.0 _ _ c.clear.ensures.items fed.2),
)

pub returns-in-Err-Memory-clause-served : goal.returns-in-Err-Memory-clause-served
returns-in-Err-Memory-clause-served g c = (
  c.feed_frame-fed.new.out.items,
  subst (λ (b : List ℕ). Sends g.C.Connection.does c.args.connection.now b c.send.new.connection) c.deref.ensures.value c.in-Ok.ensures.all,
  λ h s old e.
      let fed = c.feed_frame-fed.ensures.fed h s old e in
      let a = first_short _ h old c.args.piece.now c.feed_frame-fed.result _ _ fed.0 _ _ c.in-Err-Memory.is c.clear.ensures.items fed.2 in
      (fed.0, a.0, a.1),
)
