use Rattle.std.proofs.Common.{◌≤◌, length, take, drop, arith}
use Rattle.std.specs.Io.KnownBytes.{Appends}
use Rattle.std.proofs.Math.Seq.{take-add}
use Rattle.std.proofs.lemmas.List.{take_rest, length-drop}
use Rattle.std.proofs.KnownBytes.{Appends-trans}
use Rattle.connection_io.proofs.pieces.write_out.Goals as goal

pub loop-at-preserved : goal.loop-at-preserved
loop-at-preserved g c =
    let n : c.in-Ok.n ≤ length (drop c.loop-at.at c.args.bytes.now) = rw take_rest at c.in-Ok.ensures.bound in
    let one : Appends (g.W.Write.contents c.loop-at.writer) (g.W.Write.contents c.write.new.self) (take c.in-Ok.n (drop c.loop-at.at c.args.bytes.now)) =
    rw take_rest at c.in-Ok.ensures.bytes in
    record {
      within = omega (arith, n, length-drop c.loop-at.at c.args.bytes.now);
      written = rw take-add (Appends-trans (g.W.Write.contents c.args.writer.now) (g.W.Write.contents c.loop-at.writer)
          (g.W.Write.contents c.write.new.self) _ _ c.loop-at.invariant.written one);
    }
