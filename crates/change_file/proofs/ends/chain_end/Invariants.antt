use Rattle.change_file.proofs.Walk.{IsOnWay}
use Rattle.std.proofs.Common.{length}
use Rattle.change_file.proofs.ends.chain_end.Given as goal

-- the end of all blocks is that of the blocks that are left
abbrev pub invariant-whole : goal.invariant-whole
invariant-whole l = IsOnWay l.fn.link.bytes l.fn.version l.fn.count l.bytes l.link.bytes l.version l.count l.len l.rest

abbrev pub decreases-whole : goal.decreases-whole
decreases-whole l = length l.rest
