use Rattle.std.proofs.Common.{◌≡◌, ℕ, ◌+◌, ◌<◌, List, [], ◌∷◌, ◌++◌, length, take, drop, arith, ap, ◌∙◌, sym, subst, get_or}
use Rattle.connection_io.specs.Calls.{Sends}
use Rattle.connection_io.proofs.Parts.{sends_both}
use Rattle.std.proofs.lemmas.List.{take_more, take-append-drop}
use Rattle.frame_codec.specs.declared.frame.Frame.{Frame}
use Rattle.once_session.specs.declared.stage.Stage.{Stage}
use Rattle.once_session.specs.Courses.{next, reply, work_reply_bytes, replies_to, stage_after, encodings}
use Rattle.once_session.specs.Outputs.{IsPrefixOf}
use Rattle.once_session.proofs.CourseLemmas.{stage_after-append, output-append, output-more, prefix_after, prefix_ahead, prefix_taken}
use Rattle.once_session.proofs.TurnLemmas.{sends_before}
use Rattle.once_session.proofs.engine.answer_frames.Goals as goal

-- the frames up to one and this one
one_more : (frames : List Frame) (k : ℕ) (f : Frame) → k < length frames → f ≡ get_or frames k f → take (k + 1) frames ≡ take k frames ++ f ∷ []
one_more frames k f h e = take_more frames k f h ∙ ap (λ x. take k frames ++ x ∷ []) (sym e)

pub loop-frame-preserved : goal.loop-frame-preserved
loop-frame-preserved g c =
    let st : Stage = c.args.stage.now in
    let k : ℕ = c.loop-frame.frame-index in
    let f : Frame = c.frame-item.result in
    let fs : List Frame = take k c.args.frames.now in
    let more : take (k + 1) c.args.frames.now ≡ fs ++ f ∷ [] = one_more c.args.frames.now k f (omega arith) c.frame-item.is in
    let bytes : encodings (replies_to st fs) ++ work_reply_bytes (reply c.loop-frame.stage f) ≡ encodings (replies_to st (take (k + 1) c.args.frames.now)) =
    ap (λ s. encodings (replies_to st fs) ++ work_reply_bytes (reply s f)) c.loop-frame.invariant.stage
    ∙ sym (ap (λ gs. encodings (replies_to st gs)) more ∙ output-more st fs f) in
    record {
      stage = c.in_default.ensures.stage.0 ∙ ap (λ s. next s f) c.loop-frame.invariant.stage
          ∙ sym (ap (stage_after st) more ∙ stage_after-append st fs (f ∷ []));
      table = c.in_default.ensures.stage.1;
      written = subst (λ (b : List ℕ). Sends g.C.Connection.does c.args.connection.now b c.answer_frame.new.connection) bytes
          (sends_both g.C.Connection.does c.args.connection.now c.loop-frame.connection c.answer_frame.new.connection _ _ c.loop-frame.invariant.written
          c.in_default.ensures.all);
    }

pub returns-in-Err-clause-prefix : goal.returns-in-Err-clause-prefix
returns-in-Err-clause-prefix g c =
    let st : Stage = c.args.stage.now in
    let k : ℕ = c.loop-frame.frame-index in
    let f : Frame = c.frame-item.result in
    let fs : List Frame = take k c.args.frames.now in
    let more : take (k + 1) c.args.frames.now ≡ fs ++ f ∷ [] = one_more c.args.frames.now k f (omega arith) c.frame-item.is in
    let one : List ℕ = work_reply_bytes (reply c.loop-frame.stage f) in
    let part = c.in-Err.ensures.prefix in
    let before : List ℕ = encodings (replies_to st fs) in
    let later : List ℕ = encodings (replies_to (stage_after st (take (k + 1) c.args.frames.now)) (drop (k + 1) c.args.frames.now)) in
    let all : (before ++ one) ++ later ≡ encodings (replies_to st c.args.frames.now) =
    ap (λ (b : List ℕ). b ++ later) (ap (λ s. before ++ work_reply_bytes (reply s f)) c.loop-frame.invariant.stage
    ∙ sym (ap (λ gs. encodings (replies_to st gs)) more ∙ output-more st fs f))
    ∙ sym (output-append st (take (k + 1) c.args.frames.now) (drop (k + 1) c.args.frames.now))
    ∙ ap (λ gs. encodings (replies_to st gs)) (take-append-drop (k + 1) c.args.frames.now) in (
      before ++ take part.0 one,
      sends_before g.C.Connection.does c.in-Err.fault c.args.connection.now c.loop-frame.connection c.answer_frame.new.connection _ _
          c.loop-frame.invariant.written part.1,
      subst (IsPrefixOf (before ++ take part.0 one)) all
          (prefix_ahead (before ++ take part.0 one) (before ++ one) later (prefix_after before (take part.0 one) one (prefix_taken part.0 one))),
    )
