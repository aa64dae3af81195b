use Rattle.std.proofs.Common.{◌≡◌, ◌≤◌, ◌-◌, length}
use Rattle.version_store.specs.Buffers.{IsRoomForRows}
use Rattle.version_store.proofs.RowLemmas.{FollowsTo}
use Rattle.version_store.proofs.rows.follow_rows.Given as goal

abbrev pub invariant-loop-r : goal.invariant-loop-r
invariant-loop-r g l = record {
  within : l.r ≤ length l.marked.marks.now;
  room : IsRoomForRows l.marked.hint.now.cols l.room;
  most : l.most ≡ l.room.rows.public.rows;
  follows : FollowsTo l.r l.marked.w l.marked.hint.now l.a2 (g.S.DigitStore.digits l.fn.server) (g.S.DigitStore.digits l.server) l.fn.client l.client l.marked.marks.now;
}

abbrev pub decreases-loop-r : goal.decreases-loop-r
decreases-loop-r g l = length l.marked.marks.now - l.r
