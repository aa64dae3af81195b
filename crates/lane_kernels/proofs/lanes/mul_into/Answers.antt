use Rattle.std.proofs.Common.{arith}
use Rattle.lane_kernels.proofs.BlockSums.{zero_so_far, block_more, blocks_end}
use Rattle.lane_kernels.proofs.lanes.mul_into.Goals as goal

pub loop-start-init : goal.loop-start-init
loop-start-init c = record { within = omega arith; so_far = rw (c.clear.ensures, c.requires.rows, c.requires.cols) (zero_so_far c.args.a.now c.args.b.now) }

pub loop-start-preserved : goal.loop-start-preserved
loop-start-preserved c = record {
  within = omega arith;
  so_far = block_more _ _ c.loop-start.out _ c.loop-start.start _ c.add_block.ensures c.loop-start.invariant.so_far;
}

pub returns : goal.returns
returns c = blocks_end _ _ _ c.loop-start.start (omega arith) c.requires.fits c.loop-start.invariant.so_far
