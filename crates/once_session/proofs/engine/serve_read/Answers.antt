use Rattle.std.proofs.Common.{◌≡◌, ◌++◌, List, ℕ, true, false, Some, Result, Ok, Err, sym, ap, subst, refl, ◌∙◌}
use Rattle.connection_io.proofs.Parts.{sends_both}
use Rattle.frame_codec.specs.declared.frame.Frame.{Frame}
use Rattle.frame_codec.specs.declared.frame.Frame.TheVariants.{Refused}
use Rattle.frame_codec.specs.declared.reader.ReadFault.{ReadFault}
use Rattle.frame_codec.specs.Frames.{encoding}
use Rattle.frame_codec.specs.Streams.{Feeds}
use Rattle.frame_codec.proofs.Feedings.{some_begin}
use Rattle.once_session.specs.declared.stage.Stage.{Stage}
use Rattle.once_session.specs.Courses.{replies_to, stage_after, encodings}
use Rattle.once_session.specs.Outputs.{takes_frames}
use Rattle.once_session.proofs.TurnLemmas.{turn_over, turn_on, turn_refused, frames_failed, stop_failed}
use Rattle.once_session.proofs.engine.serve_read.Goals as goal

pub returns-in-Ok-stop-clause-turned : goal.returns-in-Ok-stop-clause-turned
returns-in-Ok-stop-clause-turned g c rest piece codec e =
    let old : Stage = c.args.stage.now in
    let fs : List Frame = c.args.frames.now in
    let fed : Feeds false (Some rest) piece (Err c.in-Err-read.fault) fs codec =
    subst (λ (r : Result (Unit {0}) ReadFault). Feeds false (Some rest) piece r fs codec) c.in-Err-read.is e in
    let going : takes_frames (stage_after old fs) ≡ true = ap takes_frames (sym c.in_default.ensures.stage.0) ∙ sym c.goes_on.ensures ∙ c.if-not-goes_on.false in
    let out : List ℕ = encodings (replies_to old fs) ++ encoding (Refused 1) in (
      out,
      sends_both g.C.Connection.does c.args.connection.now c.answer_frames.new.connection c.stop.new.connection _ _ c.in_default.ensures.all
          c.in-Ok-stop.ensures.all,
      turn_refused old c.stop.new.stage (rest ++ piece) fs fed.0.0 c.in-Err-read.fault codec out fed.0.1 fed.0.2 c.in-Ok-stop.ensures.refused.0 going
          c.in-Ok-stop.ensures.refused.1 refl,
    )

pub returns-in-Err-stop-clause-turned : goal.returns-in-Err-stop-clause-turned
returns-in-Err-stop-clause-turned g c rest piece codec e =
    let old : Stage = c.args.stage.now in
    let fs : List Frame = c.args.frames.now in
    let fed : Feeds false (Some rest) piece (Err c.in-Err-read.fault) fs codec =
    subst (λ (r : Result (Unit {0}) ReadFault). Feeds false (Some rest) piece r fs codec) c.in-Err-read.is e in
    let going : takes_frames (stage_after old fs) ≡ true = ap takes_frames (sym c.in_default.ensures.stage.0) ∙ sym c.goes_on.ensures ∙ c.if-not-goes_on.false in
    stop_failed g.C.Connection.does c.in-Err-stop.broken old (rest ++ piece) fs fed.0.0 c.in-Err-read.fault c.stop.new.stage codec c.args.connection.now
    c.answer_frames.new.connection c.stop.new.connection c.in-Err-stop.ensures.fault fed.0.1 fed.0.2 going c.in_default.ensures.all
    c.in-Err-stop.ensures.prefix c.in-Err-stop.ensures.judged c.in-Err-stop.ensures.memory

pub returns-in-Err-clause-turned : goal.returns-in-Err-clause-turned
returns-in-Err-clause-turned g c rest piece codec e =
    let begins = some_begin false rest piece c.args.read c.args.frames.now codec e in
    frames_failed g.C.Connection.does c.in-Err.fault c.args.stage.now (rest ++ piece) c.args.frames.now begins.0 c.answer_frames.new.stage codec
    c.args.connection.now c.answer_frames.new.connection c.in-Err.ensures.fault begins.1 c.in-Err.ensures.prefix c.in-Err.ensures.memory

pub returns-then-not-goes_on-clause-turned : goal.returns-then-not-goes_on-clause-turned
returns-then-not-goes_on-clause-turned g c rest piece codec e =
    let old : Stage = c.args.stage.now in
    let fs : List Frame = c.args.frames.now in
    let begins = some_begin false rest piece c.args.read fs codec e in
    let out : List ℕ = encodings (replies_to old fs) in (
      out,
      c.in_default.ensures.all,
      turn_over old c.answer_frames.new.stage (rest ++ piece) fs begins.0 codec out begins.1 c.in_default.ensures.stage.0
          (sym c.goes_on.ensures ∙ c.if-not-goes_on.true) refl,
    )

pub returns-in-Ok-clause-turned : goal.returns-in-Ok-clause-turned
returns-in-Ok-clause-turned g c rest piece codec e =
    let old : Stage = c.args.stage.now in
    let fs : List Frame = c.args.frames.now in
    let fed : Feeds false (Some rest) piece (Ok tt) fs codec =
    subst (λ (r : Result (Unit {0}) ReadFault). Feeds false (Some rest) piece r fs codec) c.in-Ok.is e in
    let out : List ℕ = encodings (replies_to old fs) in (
      out,
      c.in_default.ensures.all,
      turn_on old c.answer_frames.new.stage rest piece fs codec out fed c.in_default.ensures.stage.0
          (sym c.goes_on.ensures ∙ c.if-not-goes_on.false) refl,
    )
