use Rattle.std.proofs.Common.{◌≡◌, ◌+◌, ◌≤◌, ℕ, List, length}
use Rattle.publication_log.specs.Publications.{Published}
use Rattle.publication_log.specs.Entries.{chain_bytes}
use Rattle.publication_log.specs.Logs.{bodies_of, AreNext}
use Rattle.publication_log.proofs.Onward.{IsReadUpTo}
use Rattle.publication_log.proofs.reading.Publications.count.Given as goal

-- so many were read, each of a byte or more
abbrev pub invariant-entries : goal.invariant-entries
invariant-entries l = (l.count + length l.rest ≤ length l.fn.self.rest.now) × ((link : List ℕ) (version : ℕ) (ps : List Published) → AreNext version ps → l.fn.self.rest.now ≡ chain_bytes link (bodies_of ps) →
    (done : List Published) × (left : List Published) × IsReadUpTo link ps done left l.rest × (length done ≡ l.count))

abbrev pub decreases-entries : goal.decreases-entries
decreases-entries l = length l.rest
