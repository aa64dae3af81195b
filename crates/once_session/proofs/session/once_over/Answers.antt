use Rattle.std.proofs.Common.{◌≡◌, ◌≤◌, ◌++◌, ◌∷◌, List, ℕ, [], Option, Ok, true, length, take, arith, refl, sym, ap, subst, ◌∙◌, inr}
use Rattle.std.proofs.lemmas.List.{length-append}
use Rattle.connection_io.specs.Calls.{Read}
use Rattle.connection_io.specs.Turns.{CallTurn}
use Rattle.connection_io.proofs.Parts.{reads_piece}
use Rattle.once_session.specs.Outputs.{Turns, takes_frames}
use Rattle.once_session.proofs.RunLemmas.{turned_on}
use Rattle.once_session.proofs.OverLemmas.{one_more, end_found, piece_failed, piece_ended}
use Rattle.once_session.proofs.session.once_over.Goals as goal

pub turns-init : goal.turns-init
turns-init g c = record {
  before = [];
  unfinished = [];
  codec_is = c.new-codec.ensures;
  begun = refl;
  count = refl;
  within = omega arith;
  going = refl;
  table = tt;
  room = c.in-Ok.ensures;
}

pub serve_chunk-requires-clause-table : goal.serve_chunk-requires-clause-table
serve_chunk-requires-clause-table g c = c.turns.invariant.table

pub serve_chunk-requires-clause-open : goal.serve_chunk-requires-clause-open
serve_chunk-requires-clause-open g c = c.turns.invariant.going

pub returns : goal.returns
returns g c =
    let i = c.turns.invariant in
    inr (record {
      before = i.before;
      work = record { stage = c.turns.stage; unfinished = i.unfinished };
      middle = c.turns.connection;
      begun = i.begun;
      ends =
          (omega (arith, i.count, i.within, c.turns-test.false), refl);
    })

pub returns-in_default-receive : goal.returns-in_default-receive
returns-in_default-receive g c =
    let i = c.turns.invariant in
    inr (record {
      before = i.before;
      work = record { stage = c.turns.stage; unfinished = i.unfinished };
      middle = c.turns.connection;
      begun = i.begun;
      ends = (omega (arith, i.count, c.turns-test.true), c.in_default-receive.ensures.did);
    })

pub returns-then-n-eq0 : goal.returns-then-n-eq0
returns-then-n-eq0 g c =
    let i = c.turns.invariant in
    let f = c.finish.ensures i.unfinished i.codec_is in
    let room : length c.receive.new.buffer.items ≡ 65536 = c.receive.ensures.room ∙ i.room in
    let did = subst (λ (n : ℕ). g.C.Connection.does c.turns.connection
    (Read (length c.receive.new.buffer.items) (take n c.receive.new.buffer.items)) c.receive.new.connection) c.if-n-eq0.true c.in-Ok-receive.ensures.did in
    inr (record {
      before = i.before;
      work = record { stage = c.turns.stage; unfinished = i.unfinished };
      middle = c.turns.connection;
      begun = i.begun;
      ends = end_found g.C.Connection.does c.args.turns (length i.before) (record { stage = c.turns.stage; unfinished = i.unfinished }) c.turns.connection
          c.finish.result c.finish.new.connection (omega (arith, i.count, c.turns-test.true))
          c.receive.new.connection (subst (λ (k : ℕ). g.C.Connection.does c.turns.connection (Read k []) c.receive.new.connection) room did) f.0 f.1 f.2;
    })

pub returns-in-Err : goal.returns-in-Err
returns-in-Err g c =
    let i = c.turns.invariant in
    let t = c.in-Err.ensures.turned i.unfinished i.codec_is in
    let buffer : List ℕ = c.deref-in-turns-2.result.now in
    let did = subst (λ (x : List ℕ). g.C.Connection.does c.turns.connection (Read (length x) (take c.in-Ok-receive.n x)) c.receive.new.connection)
    (sym c.deref-in-turns-2.ensures.value) c.in-Ok-receive.ensures.did in
    let within = subst (λ (x : List ℕ). c.in-Ok-receive.n ≤ length x) (sym c.deref-in-turns-2.ensures.value) c.in-Ok-receive.ensures.within in
    inr (record {
      before = i.before;
      work = record { stage = c.turns.stage; unfinished = i.unfinished };
      middle = c.turns.connection;
      begun = i.begun;
      ends = piece_failed g.C.Connection.does c.args.turns (length i.before) (record { stage = c.turns.stage; unfinished = i.unfinished }) c.turns.connection
          c.in-Err.fault c.serve_chunk.new.connection (omega (arith, i.count, c.turns-test.true))
          (record { piece = take c.in-Ok-receive.n buffer; output = t.0 }) c.serve_chunk.new.stage c.serve_chunk.new.codec c.in-Err.ensures.fault
          (record {
            middle = c.receive.new.connection;
            reads = reads_piece g.C.Connection.does c.turns.connection c.receive.new.connection buffer c.in-Ok-receive.n did (ap length c.deref-in-turns-2.ensures.value
                ∙ c.receive.ensures.room ∙ i.room) c.if-n-eq0.false within;
            writes = t.1;
            turned = t.2;
          });
    })

pub returns-then-not-goes_on : goal.returns-then-not-goes_on
returns-then-not-goes_on g c =
    let i = c.turns.invariant in
    let t = c.in_default-serve_chunk.ensures.turned i.unfinished i.codec_is in
    let buffer : List ℕ = c.deref-in-turns-2.result.now in
    let did = subst (λ (x : List ℕ). g.C.Connection.does c.turns.connection (Read (length x) (take c.in-Ok-receive.n x)) c.receive.new.connection)
    (sym c.deref-in-turns-2.ensures.value) c.in-Ok-receive.ensures.did in
    let within = subst (λ (x : List ℕ). c.in-Ok-receive.n ≤ length x) (sym c.deref-in-turns-2.ensures.value) c.in-Ok-receive.ensures.within in
    inr (record {
      before = i.before;
      work = record { stage = c.turns.stage; unfinished = i.unfinished };
      middle = c.turns.connection;
      begun = i.begun;
      ends = piece_ended g.C.Connection.does c.args.turns (length i.before) (record { stage = c.turns.stage; unfinished = i.unfinished }) c.turns.connection
          c.ended.result c.serve_chunk.new.connection (omega (arith, i.count, c.turns-test.true))
          (record { piece = take c.in-Ok-receive.n buffer; output = t.0 }) c.serve_chunk.new.stage c.serve_chunk.new.codec c.ended.ensures.well
          c.ended.ensures.ill (sym c.goes_on.ensures ∙ c.if-not-goes_on.true)
          (record {
            middle = c.receive.new.connection;
            reads = reads_piece g.C.Connection.does c.turns.connection c.receive.new.connection buffer c.in-Ok-receive.n did (ap length c.deref-in-turns-2.ensures.value
                ∙ c.receive.ensures.room ∙ i.room) c.if-n-eq0.false within;
            writes = t.1;
            turned = t.2;
          });
    })

pub turns-preserved : goal.turns-preserved
turns-preserved g c =
    let i = c.turns.invariant in
    let t = c.in_default-serve_chunk.ensures.turned i.unfinished i.codec_is in
    let buffer : List ℕ = c.deref-in-turns-2.result.now in
    let did = subst (λ (x : List ℕ). g.C.Connection.does c.turns.connection (Read (length x) (take c.in-Ok-receive.n x)) c.receive.new.connection)
    (sym c.deref-in-turns-2.ensures.value) c.in-Ok-receive.ensures.did in
    let within = subst (λ (x : List ℕ). c.in-Ok-receive.n ≤ length x) (sym c.deref-in-turns-2.ensures.value) c.in-Ok-receive.ensures.within in
    let piece : List ℕ = take c.in-Ok-receive.n buffer in
    let going : takes_frames c.serve_chunk.new.stage ≡ true = sym c.goes_on.ensures ∙ c.if-not-goes_on.false in
    let w = turned_on c.turns.stage c.serve_chunk.new.stage (i.unfinished ++ piece) t.0 c.serve_chunk.new.codec going t.2 in
    let turn : CallTurn = record { piece = piece; output = t.0 } in
    record {
      before = i.before ++ turn ∷ [];
      unfinished = w.rest;
      codec_is = w.codec_is;
      begun = one_more g.C.Connection.does c.args.connection.now i.before (record { stage = c.turns.stage; unfinished = i.unfinished }) c.turns.connection
          turn (record { stage = c.serve_chunk.new.stage; unfinished = w.rest }) c.serve_chunk.new.connection i.begun
          (record {
            takes = record {
              middle = c.receive.new.connection;
              reads = reads_piece g.C.Connection.does c.turns.connection c.receive.new.connection buffer c.in-Ok-receive.n did
                  (ap length c.deref-in-turns-2.ensures.value ∙ c.receive.ensures.room ∙ i.room) c.if-n-eq0.false within;
              writes = t.1;
              turned = subst (λ (o : Option (List ℕ)). Turns (Ok tt) c.turns.stage (i.unfinished ++ piece) c.serve_chunk.new.stage o t.0) w.codec_is t.2;
            };
            going = going;
          });
      count = omega (arith, length-append i.before (turn ∷ []), i.count);
      within = omega (arith, c.turns-test.true);
      going = going;
      table = c.in_default-serve_chunk.ensures.table;
      room = c.receive.ensures.room ∙ i.room;
    }
