use Rattle.std.proofs.Common.{◌≡◌, take}
use Rattle.frame_codec.specs.Rows.{rows_in}
use Rattle.client_core.specs.Replies.{with_rows_replaced}
use Rattle.client_core.proofs.deltas.put_rows.Given as goal

abbrev pub invariant-loop-j : goal.invariant-loop-j
invariant-loop-j l = l.matrix ≡ with_rows_replaced l.fn.matrix (take l.j (rows_in l.rows))
