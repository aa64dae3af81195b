use Rattle.std.proofs.Common.{arith, length}
use Rattle.lane_kernels.proofs.PackedSums.{piece_fits}
use Rattle.lane_kernels.proofs.packed.add_part_singly.Goals as goal

pub piece-requires : goal.piece-requires
piece-requires c = piece_fits c.loop-r.r (length c.args.out.now) c.args.words c.args.start (length c.args.x.now.a.now) _ (omega arith)
    (omega arith) c.requires.rows_fit
