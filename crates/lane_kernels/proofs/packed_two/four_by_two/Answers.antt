use Rattle.std.proofs.Common.{◌+◌, length, arith}
use Rattle.lane_kernels.proofs.PackedSums.{rows_fit}
use Rattle.lane_kernels.proofs.packed_two.four_by_two.Goals as goal

pub piece-p-requires : goal.piece-p-requires
piece-p-requires c = rows_fit 4 c.args.row c.args.row c.args.words c.args.start (length c.args.x.now.a.now) _ (omega arith) c.requires.inside c.requires.rows

pub piece-q-requires : goal.piece-q-requires
piece-q-requires c = rows_fit 4 (c.args.row + 1) c.args.row c.args.words c.args.start (length c.args.x.now.a.now) _ (omega arith) c.requires.inside c.requires.rows

pub piece-r-requires : goal.piece-r-requires
piece-r-requires c = rows_fit 4 (c.args.row + 2) c.args.row c.args.words c.args.start (length c.args.x.now.a.now) _ (omega arith) c.requires.inside c.requires.rows

pub piece-s-requires : goal.piece-s-requires
piece-s-requires c = rows_fit 4 (c.args.row + 3) c.args.row c.args.words c.args.start (length c.args.x.now.a.now) _ (omega arith) c.requires.inside c.requires.rows
