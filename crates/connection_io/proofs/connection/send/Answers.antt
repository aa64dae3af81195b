use Rattle.std.proofs.Common.{◌≤◌, length, take, drop, arith}
use Rattle.std.proofs.Math.Seq.{take-add}
use Rattle.std.proofs.lemmas.List.{take_rest, length-drop}
use Rattle.connection_io.specs.Calls.{Write}
use Rattle.connection_io.proofs.Parts.{sends_more}
use Rattle.connection_io.proofs.connection.send.Goals as goal

pub loop-at-preserved : goal.loop-at-preserved
loop-at-preserved g c =
    let n : c.in-Ok.n ≤ length (drop c.loop-at.at c.args.bytes.now) = rw take_rest at c.in-Ok.ensures.within in
    let one : g.C.Connection.does c.loop-at.connection (Write (take c.in-Ok.n (drop c.loop-at.at c.args.bytes.now))) c.write.new.self =
    rw take_rest at c.in-Ok.ensures.did in
    record {
      within = omega (arith, n, length-drop c.loop-at.at c.args.bytes.now);
      sent = rw take-add (sends_more g.C.Connection.does c.args.connection.now c.loop-at.connection c.write.new.self _ _ c.loop-at.invariant.sent one);
    }
