use Rattle.std.proofs.Common.{◌≡◌, ◌≤◌, ◌<◌, ◌+◌, ◌-◌, ◌^◌, ◌++◌, ◌∷◌, [], ℕ, List, length, take, drop, Some, None, Option, refl, sym, ap, subst, ◌∙◌, rules, arith, true, false, Bool}
use Rattle.publication_log.specs.Publications.{Published}
use Rattle.publication_log.specs.Entries.{chain_bytes, last_link}
use Rattle.publication_log.specs.Logs.{bodies_of, AreNext}
use Rattle.publication_log.proofs.reading.read_entries.Given as goal

abbrev pub invariant-entries : goal.invariant-entries
invariant-entries l = (ps : List Published) × AreNext l.before ps × (l.bytes ≡ chain_bytes l.link (bodies_of ps) ++ l.rest) × (l.last ≡ last_link l.link (bodies_of ps))
    × (l.version ≡ l.before + length ps)

abbrev pub decreases-entries : goal.decreases-entries
decreases-entries l = length l.rest
