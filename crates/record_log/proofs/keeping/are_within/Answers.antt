use Rattle.std.proofs.Common.{ℕ, ◌+◌, ◌<◌, List, length, arith, sym}
use Rattle.record_log.specs.OldRecords.{OldBytes}
use Rattle.record_log.proofs.Totals.{too_long, total_below, total_more}
use Rattle.record_log.proofs.keeping.are_within.Goals as goal

pub returns-then-size-room-clause-value : goal.returns-then-size-room-clause-value
returns-then-size-room-clause-value c = λ len each.
    let lists : List OldBytes = c.args.lists.now in
    let k : ℕ = c.loop-list.list-index in
    let inside : k < length lists = omega arith in
    let more = total_more len lists k c.list-item.result inside c.list-item.is each in
    sym (too_long len c.args.most lists
    (omega (arith, total_below len lists (k + 1), more, c.byte_len-size.ensures, c.loop-list.invariant len each, c.if-size-room.true)))

pub loop-list-preserved : goal.loop-list-preserved
loop-list-preserved c = λ len each.
    let lists : List OldBytes = c.args.lists.now in
    let k : ℕ = c.loop-list.list-index in
    let inside : k < length lists = omega arith in
    let more = total_more len lists k c.list-item.result inside c.list-item.is each in
    omega (arith, more, c.byte_len-size.ensures, c.loop-list.invariant len each, c.if-size-room.false)
