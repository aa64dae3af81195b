use Rattle.std.proofs.Common.{arith}
use Rattle.hint_changes.proofs.Rows.{none_moved, one_moved}
use Rattle.hint_changes.proofs.moving.move_rows.Goals as goal

pub loop-d-init : goal.loop-d-init
loop-d-init g c = none_moved c.args.hint.now c.args.public.now c.args.first c.args.old.now c.args.new.now c.rows.ensures.whole

pub loop-d-preserved : goal.loop-d-preserved
loop-d-preserved g c =
    one_moved c.args.hint.now c.loop-d.hint c.update_simple.new.hint c.args.public.now c.args.first c.loop-d.d c.args.old.now c.args.new.now
    c.loop-d.invariant (omega (arith, c.requires.rows)) c.update_simple.ensures.others
    (λ k h. c.update_simple.ensures.changed k (omega (arith, h, c.requires.cols)))
