use Rattle.std.proofs.Common.{◌≤◌, List, ℕ, length, take, ap, sym, subst, ◌∙◌}
use Rattle.connection_io.specs.Calls.{Read}
use Rattle.connection_io.specs.Turns.{CallTurn}
use Rattle.connection_io.proofs.Parts.{reads_piece}
use Rattle.blocking_io.proofs.Turns.{deaf_turn}
use Rattle.blocking_io.proofs.conversing.converse_turn.Goals as goal

pub returns-in-Ok-feed_client-clause-turn : goal.returns-in-Ok-feed_client-clause-turn
returns-in-Ok-feed_client-clause-turn g c =
    let t = c.in-Ok-feed_client.ensures in
    let buffer : List ℕ = c.deref.result.now in
    let did = subst (λ (x : List ℕ). g.C.Connection.does c.args.connection.now (Read (length x) (take c.in-Ok.n x)) c.receive.new.connection)
    (sym c.deref.ensures.value) c.in-Ok.ensures.did in
    let within = subst (λ (x : List ℕ). c.in-Ok.n ≤ length x) (sym c.deref.ensures.value) c.in-Ok.ensures.within in (
      record { piece = take c.in-Ok.n buffer; output = t.0 },
      record {
        middle = c.receive.new.connection;
        reads = reads_piece g.C.Connection.does c.args.connection.now c.receive.new.connection buffer c.in-Ok.n did (ap length c.deref.ensures.value
            ∙ c.receive.ensures.room ∙ c.requires) c.if-n-eq0.false within;
        writes = t.1;
        heard = t.2;
      },
    )

pub returns-in-Err-clause-turn : goal.returns-in-Err-clause-turn
returns-in-Err-clause-turn g c =
    let t = c.in-Err.ensures in
    let buffer : List ℕ = c.deref.result.now in
    let did = subst (λ (x : List ℕ). g.C.Connection.does c.args.connection.now (Read (length x) (take c.in-Ok.n x)) c.receive.new.connection)
    (sym c.deref.ensures.value) c.in-Ok.ensures.did in
    let within = subst (λ (x : List ℕ). c.in-Ok.n ≤ length x) (sym c.deref.ensures.value) c.in-Ok.ensures.within in
    let turn : CallTurn = record { piece = take c.in-Ok.n buffer; output = t.0 } in
    deaf_turn g.C.Connection.does c.args.client.now c.args.connection.now c.in-Err.fault turn c.feed_client.new.client c.feed_client.new.connection
    (record {
      middle = c.receive.new.connection;
      reads = reads_piece g.C.Connection.does c.args.connection.now c.receive.new.connection buffer c.in-Ok.n did (ap length c.deref.ensures.value
          ∙ c.receive.ensures.room ∙ c.requires) c.if-n-eq0.false within;
      writes = t.1;
      heard = t.2;
    })
