use Rattle.std.proofs.Common.{List, arith}
use Rattle.record_log.specs.OldRecords.{OldBytes}
use Rattle.record_log.proofs.Listing.{is_first, next_step}
use Rattle.record_log.proofs.since.next_listed.Goals as goal

pub loop-list-preserved : goal.loop-list-preserved
loop-list-preserved c =
    let lists : List OldBytes = c.args.lists.now in
    let o : OldBytes = c.list-item.result in
    next_step lists c.loop-list.list-index c.args.least o c.loop-list.next c.first_from.result c.lesser-next.result (omega arith) c.list-item.is
    c.loop-list.invariant
    (is_first o.records c.args.least c.first_from.result c.first_from.ensures.value c.first_from.ensures.before)
    c.lesser-next.ensures
