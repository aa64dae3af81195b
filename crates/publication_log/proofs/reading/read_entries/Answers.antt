use Rattle.std.proofs.Common.{◌≡◌, ◌≤◌, ◌<◌, ◌+◌, ◌-◌, ◌^◌, ◌++◌, ◌∷◌, [], ℕ, List, length, take, drop, Some, None, Option, Ok, Err, Result, refl, sym, ap, subst, ◌∙◌, append_assoc, rules, arith, true, false, Bool}
use Rattle.publication_log.specs.Publications.{Published}
use Rattle.publication_log.proofs.Readings.{read_on}
use Rattle.publication_log.proofs.reading.read_entries.Goals as goal

pub entries-preserved : goal.entries-preserved
entries-preserved c =
    let old = c.entries.invariant in
    let it = rw c.in-Some.is at c.in_ok-next.ensures.some in
    let more = read_on c.args.link.now c.entries.last c.args.bytes.now c.entries.rest.now c.args.before c.entries.version old.0 it.0 c.in-Some.next c.copy_from_slice.new.self
    old.1 old.2 old.3 old.4 it.1 c.copy_from_slice.ensures.after in
    (old.0 ++ it.0 ∷ [], more.0, more.1, more.2, more.3)
