use Rattle.std.proofs.Common.{◌≤◌, List, ℕ, length, take, ap, sym, subst, ◌∙◌}
use Rattle.connection_io.specs.Calls.{Read}
use Rattle.connection_io.specs.Turns.{CallTurn}
use Rattle.connection_io.proofs.Parts.{reads_piece}
use Rattle.blocking_io.proofs.Turns.{faulty_turn}
use Rattle.blocking_io.proofs.serving.serve_turn.Goals as goal

pub returns-in-Err-clause-turn : goal.returns-in-Err-clause-turn
returns-in-Err-clause-turn g c =
    let t = c.in-Err.ensures.served in
    let buffer : List ℕ = c.deref.result.now in
    let did = subst (λ (x : List ℕ). g.C.Connection.does c.args.connection.now (Read (length x) (take c.in-Ok.n x)) c.receive.new.connection)
    (sym c.deref.ensures.value) c.in-Ok.ensures.did in
    let within = subst (λ (x : List ℕ). c.in-Ok.n ≤ length x) (sym c.deref.ensures.value) c.in-Ok.ensures.within in
    let turn : CallTurn = record { piece = take c.in-Ok.n buffer; output = t.0 } in
    faulty_turn g.C.Connection.does c.args.id c.args.core.now c.args.connection.now c.in-Err.fault turn c.answer_piece.new.core c.answer_piece.new.connection
    c.in-Err.ensures.fault
    (record {
      middle = c.receive.new.connection;
      reads = reads_piece g.C.Connection.does c.args.connection.now c.receive.new.connection buffer c.in-Ok.n did (ap length c.deref.ensures.value
          ∙ c.receive.ensures.room ∙ c.requires.room) c.if-n-eq0.false within;
      writes = t.1;
      served = t.2;
    })

pub returns-then-is_open-clause-turn : goal.returns-then-is_open-clause-turn
returns-then-is_open-clause-turn g c =
    let t = c.in_default-answer_piece.ensures.served in
    let buffer : List ℕ = c.deref.result.now in
    let did = subst (λ (x : List ℕ). g.C.Connection.does c.args.connection.now (Read (length x) (take c.in-Ok.n x)) c.receive.new.connection)
    (sym c.deref.ensures.value) c.in-Ok.ensures.did in
    let within = subst (λ (x : List ℕ). c.in-Ok.n ≤ length x) (sym c.deref.ensures.value) c.in-Ok.ensures.within in (
      record { piece = take c.in-Ok.n buffer; output = t.0 },
      record {
        takes = record {
          middle = c.receive.new.connection;
          reads = reads_piece g.C.Connection.does c.args.connection.now c.receive.new.connection buffer c.in-Ok.n did (ap length c.deref.ensures.value
              ∙ c.receive.ensures.room ∙ c.requires.room) c.if-n-eq0.false within;
          writes = t.1;
          served = t.2;
        };
        is_so = sym c.is_open.ensures ∙ c.if-is_open.true;
      },
    )

pub returns-else-is_open-clause-turn : goal.returns-else-is_open-clause-turn
returns-else-is_open-clause-turn g c =
    let t = c.in_default-answer_piece.ensures.served in
    let buffer : List ℕ = c.deref.result.now in
    let did = subst (λ (x : List ℕ). g.C.Connection.does c.args.connection.now (Read (length x) (take c.in-Ok.n x)) c.receive.new.connection)
    (sym c.deref.ensures.value) c.in-Ok.ensures.did in
    let within = subst (λ (x : List ℕ). c.in-Ok.n ≤ length x) (sym c.deref.ensures.value) c.in-Ok.ensures.within in (
      record { piece = take c.in-Ok.n buffer; output = t.0 },
      record {
        takes = record {
          middle = c.receive.new.connection;
          reads = reads_piece g.C.Connection.does c.args.connection.now c.receive.new.connection buffer c.in-Ok.n did (ap length c.deref.ensures.value
              ∙ c.receive.ensures.room ∙ c.requires.room) c.if-n-eq0.false within;
          writes = t.1;
          served = t.2;
        };
        is_so = sym c.is_open.ensures ∙ c.if-is_open.false;
      },
    )
