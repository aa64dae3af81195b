use Rattle.std.proofs.Common.{◌≡◌, ◌++◌, ◌∙◌, ◌<◌, false, [], List, ℕ, Err, length, take, sym, ap, subst, arith}
use Rattle.std.proofs.lemmas.List.{length-append}
use Rattle.connection_io.proofs.Parts.{sends_both}
use Rattle.server_core.specs.Cores.{session_of, is_open}
use Rattle.server_core.specs.Serving.{setting_of}
use Rattle.blocking_io.specs.Serving.{ServesStreamPiece}
use Rattle.blocking_io.proofs.Frames.{reached_more, reached_fault, reached_end, writes_on, some_part, shut_is, whole_on, some_bytes, no_bytes}
use Rattle.blocking_io.proofs.serving.answer_piece.Goals as goal

pub returns-in-Err-clause-served : goal.returns-in-Err-clause-served
returns-in-Err-clause-served g c =
    let i = c.frames.invariant in
    let t = c.in-Err.ensures.served in (
      i.bytes ++ t.0,
      writes_on g.C.Connection.does c.in-Err.fault c.args.connection.now c.frames.connection c.answer_frame.new.connection i.bytes t.0 i.sent t.1,
      λ h s old is.
          subst (λ (p : List ℕ). ServesStreamPiece (setting_of c.args.core.now.store) h old p (Err c.in-Err.fault) c.answer_frame.new.core.store
          (session_of c.answer_frame.new.core.sessions c.args.id) (i.bytes ++ t.0)) (sym i.whole)
          (reached_fault c.args.id c.args.core.now c.frames.core c.answer_frame.new.core i.part i.bytes c.frames.rest.now t.0 c.requires.open i.open_ i.reached
          c.in-Err.fault t.2 h s old is),
    )

pub returns-then-not-is_open-clause-served : goal.returns-then-not-is_open-clause-served
returns-then-not-is_open-clause-served g c =
    let i = c.frames.invariant in
    let t = c.in-Ok.ensures.served in
    let n : ℕ = c.in-Ok.count in
    let some : 0 < n = c.in-Ok.ensures.some (some_bytes c.frames.rest.now c.is_empty.result c.is_empty.ensures c.frames-test.true) in
    let le = c.in-Ok.ensures.within in
    let shut : is_open (session_of c.answer_frame.new.core.sessions c.args.id) ≡ false = sym c.is_open.ensures ∙ c.if-not-is_open.true in (
      i.bytes ++ t.0,
      sends_both g.C.Connection.does c.args.connection.now c.frames.connection c.answer_frame.new.connection i.bytes t.0 i.sent t.1,
      reached_end c.args.id c.args.core.now c.answer_frame.new.core (i.part ++ take n c.frames.rest.now) c.split_at.result.1.now (i.bytes ++ t.0) c.args.piece.now
          (reached_more c.args.id c.args.core.now c.frames.core c.answer_frame.new.core i.part i.bytes c.frames.rest.now t.0 c.requires.open i.open_ i.reached n t.2)
          (whole_on c.args.piece.now i.part c.frames.rest.now c.split_at.result.1.now n i.whole c.split_at.ensures.back)
          (some_part i.part c.frames.rest.now n some le)
          (λ s is open_. absurd (shut_is (session_of c.answer_frame.new.core.sessions c.args.id) s is shut open_)),
    )

pub frames-preserved : goal.frames-preserved
frames-preserved g c =
    let i = c.frames.invariant in
    let t = c.in-Ok.ensures.served in
    let n : ℕ = c.in-Ok.count in
    record {
      part = i.part ++ take n c.frames.rest.now;
      bytes = i.bytes ++ t.0;
      whole = whole_on c.args.piece.now i.part c.frames.rest.now c.split_at.result.1.now n i.whole c.split_at.ensures.back;
      sent = sends_both g.C.Connection.does c.args.connection.now c.frames.connection c.answer_frame.new.connection i.bytes t.0 i.sent t.1;
      reached = reached_more c.args.id c.args.core.now c.frames.core c.answer_frame.new.core i.part i.bytes c.frames.rest.now t.0 c.requires.open i.open_ i.reached
          n t.2;
      open_ = sym c.is_open.ensures ∙ c.if-not-is_open.false;
      others = λ o e. c.in-Ok.ensures.others o e ∙ i.others o e;
    }

pub returns-clause-served : goal.returns-clause-served
returns-clause-served g c =
    let i = c.frames.invariant in
    let empty : c.frames.rest.now ≡ [] = no_bytes c.frames.rest.now c.is_empty.result c.is_empty.ensures c.frames-test.false in (
      i.bytes,
      i.sent,
      reached_end c.args.id c.args.core.now c.frames.core i.part c.frames.rest.now i.bytes c.args.piece.now i.reached i.whole
          (λ e. absurd (omega (arith, ap length i.whole, length-append i.part c.frames.rest.now, ap length e, ap length empty, c.requires.some)))
          (λ s is open_. empty),
    )
