use Rattle.std.proofs.Common.{Ok, Err, refl, arith}
use Rattle.world_script.specs.declared.progress.Progress.TheVariants as progress
use Rattle.world_script.proofs.Playing.{IsPlayed-start, IsPlayed-more, IsPlayed-stops, IsPlayed-ends}
use Rattle.world_script.proofs.play.play.Goals as goal

pub loop-text-init : goal.loop-text-init
loop-text-init g c = record {
  played = IsPlayed-start c.args.script.now progress.Start (g.W.Write.contents c.args.writer.now) refl;
  room = omega arith;
}

pub returns-in-Err : goal.returns-in-Err
returns-in-Err g c =
    IsPlayed-stops c.args.script.now c.loop-text.rest.now c.in-Some.text.now c.in-Some.after.now c.loop-text.progress c.loop-text.number
    (g.W.Write.contents c.args.writer.now) (g.W.Write.contents c.loop-text.writer) (g.W.Write.contents c.play_line.new.writer) c.in-Err.stop
    c.loop-text.invariant.played c.in-Some.ensures.0
    (c.in-Err.ensures c.loop-text.invariant.played.place c.loop-text.invariant.played.at)

pub loop-text-smaller : goal.loop-text-smaller
loop-text-smaller g c = c.in-Some.ensures.1

pub loop-text-preserved : goal.loop-text-preserved
loop-text-preserved g c = record {
  played = IsPlayed-more c.args.script.now c.loop-text.rest.now c.in-Some.text.now c.in-Some.after.now c.loop-text.progress c.in-Ok.next c.loop-text.number
      (g.W.Write.contents c.args.writer.now) (g.W.Write.contents c.loop-text.writer) (g.W.Write.contents c.play_line.new.writer)
      c.loop-text.invariant.played c.in-Some.ensures.0
      (c.in-Ok.ensures c.loop-text.invariant.played.place c.loop-text.invariant.played.at);
  room = omega (arith, c.in-Some.ensures.1, c.loop-text.invariant.room);
}

pub returns-in-Ok-end : goal.returns-in-Ok-end
returns-in-Ok-end g c =
    IsPlayed-ends c.args.script.now c.loop-text.rest.now c.loop-text.progress c.loop-text.number
    (g.W.Write.contents c.args.writer.now) (g.W.Write.contents c.loop-text.writer) (Ok tt)
    c.loop-text.invariant.played c.in_default.ensures
    (c.in-Ok-end.ensures c.loop-text.invariant.played.place c.loop-text.invariant.played.at)

pub returns-in-Err-end : goal.returns-in-Err-end
returns-in-Err-end g c =
    IsPlayed-ends c.args.script.now c.loop-text.rest.now c.loop-text.progress c.loop-text.number
    (g.W.Write.contents c.args.writer.now) (g.W.Write.contents c.loop-text.writer) (Err c.in-Err-end.stop)
    c.loop-text.invariant.played c.in_default.ensures
    (c.in-Err-end.ensures c.loop-text.invariant.played.place c.loop-text.invariant.played.at)
