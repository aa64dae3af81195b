use Rattle.std.proofs.Common.{refl}
use Rattle.change_file.proofs.Walk.{ends_way, goes_on}
use Rattle.change_file.proofs.ends.chain_end.Goals as goal

pub whole-preserved : goal.whole-preserved
whole-preserved c = goes_on c.args.link.bytes c.args.version c.args.count c.args.bytes.now c.whole.link.bytes c.whole.version c.whole.count c.whole.len c.whole.rest.now
    c.split_at.result.1.now c.in-Some.next c.whole.invariant c.in-Some.ensures.some c.split_at.ensures.back

pub returns-clause-end : goal.returns-clause-end
returns-clause-end c = ends_way c.args.link.bytes c.args.version c.args.count c.args.bytes.now c.whole.link.bytes c.whole.version c.whole.count c.whole.len c.whole.rest.now
    _ c.whole.invariant c.in_default.ensures.none refl refl refl refl
