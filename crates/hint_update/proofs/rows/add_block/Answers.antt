use Rattle.std.proofs.Common.{arith}
use Rattle.hint_update.proofs.Blocks.{more_added}
use Rattle.hint_update.proofs.rows.add_block.Goals as goal

pub loop-t-init : goal.loop-t-init
loop-t-init g c = record { within = omega (arith, c.min-t.ensures); adds = c.add_passing.ensures }

pub loop-t-preserved : goal.loop-t-preserved
loop-t-preserved g c = record {
  within = omega (arith, c.loop-t-test.true, c.min-some.ensures);
  adds = more_added c.args.client_hint.now c.loop-t.client_hint c.add_passing-in-loop-t.new.client_hint c.args.factors.now c.args.public.now c.args.block.first
      c.args.block.count c.loop-t.t c.min-some.result c.requires.block c.loop-t.invariant.adds c.add_passing-in-loop-t.ensures;
}
