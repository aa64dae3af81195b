use Rattle.std.proofs.Common.{arith, List, ℕ, take, subst}
use Rattle.std.proofs.lemmas.Grind.{common_steps}
use Rattle.blocking_io.specs.Prefixes.{IsCutOff}
use Rattle.blocking_io.proofs.Streams.{cut_taken}
use Rattle.blocking_io.proofs.Turns.{fault_answered}
use Rattle.blocking_io.proofs.conversing.feed_client.Goals as goal

pub returns-in_default : goal.returns-in_default
returns-in_default g c =
    let f = c.in_default.ensures.prefix in
    let bytes : List ℕ = take f.0 c.deref.result.now in (
      bytes,
      f.2,
      (
        c.feed-fed.result.out.items,
        c.feed-fed.result.events.items,
        c.feed-fed.result.fault,
        c.feed-fed.ensures,
        subst (λ (b : List ℕ). IsCutOff bytes b) c.deref.ensures.value (cut_taken f.0 c.deref.result.now f.1),
      ),
    )

pub returns : goal.returns
returns g c =
    fault_answered g.C.Connection.does c.args.client.now c.args.connection.now c.args.piece.now c.deref.result.now c.feed-fed.result.out.items
    c.feed-fed.result.events.items c.feed-fed.result.fault c.in-Some-fault.fault c.fault_of.result
    c.feed-fed.new.self c.send.new.connection c.fault_of.ensures c.deref.ensures.value c.in-Ok.ensures.all c.feed-fed.ensures
    (grind (arith, common_steps)) c.in-Some-fault.is
