use Rattle.std.proofs.Common.{◌+◌, length, arith}
use Rattle.lane_kernels.proofs.PackedSums.{rows_fit}
use Rattle.lane_kernels.proofs.packed.eight_sums.Goals as goal

pub piece-p-requires : goal.piece-p-requires
piece-p-requires c = rows_fit 8 c.args.row c.args.row c.args.words c.args.start (length c.args.x.now.a.now) _ (omega arith) c.requires.inside c.requires.rows

pub piece-q-requires : goal.piece-q-requires
piece-q-requires c = rows_fit 8 (c.args.row + 1) c.args.row c.args.words c.args.start (length c.args.x.now.a.now) _ (omega arith) c.requires.inside c.requires.rows

pub piece-r-requires : goal.piece-r-requires
piece-r-requires c = rows_fit 8 (c.args.row + 2) c.args.row c.args.words c.args.start (length c.args.x.now.a.now) _ (omega arith) c.requires.inside c.requires.rows

pub piece-s-requires : goal.piece-s-requires
piece-s-requires c = rows_fit 8 (c.args.row + 3) c.args.row c.args.words c.args.start (length c.args.x.now.a.now) _ (omega arith) c.requires.inside c.requires.rows

pub piece-t-requires : goal.piece-t-requires
piece-t-requires c = rows_fit 8 (c.args.row + 4) c.args.row c.args.words c.args.start (length c.args.x.now.a.now) _ (omega arith) c.requires.inside c.requires.rows

pub piece-u-requires : goal.piece-u-requires
piece-u-requires c = rows_fit 8 (c.args.row + 5) c.args.row c.args.words c.args.start (length c.args.x.now.a.now) _ (omega arith) c.requires.inside c.requires.rows

pub piece-v-requires : goal.piece-v-requires
piece-v-requires c = rows_fit 8 (c.args.row + 6) c.args.row c.args.words c.args.start (length c.args.x.now.a.now) _ (omega arith) c.requires.inside c.requires.rows

pub piece-w-requires : goal.piece-w-requires
piece-w-requires c = rows_fit 8 (c.args.row + 7) c.args.row c.args.words c.args.start (length c.args.x.now.a.now) _ (omega arith) c.requires.inside c.requires.rows
