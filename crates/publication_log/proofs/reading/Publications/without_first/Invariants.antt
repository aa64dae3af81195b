use Rattle.std.proofs.Common.{◌≡◌, ℕ, List, length}
use Rattle.publication_log.specs.Publications.{Published}
use Rattle.publication_log.specs.Entries.{chain_bytes}
use Rattle.publication_log.specs.Logs.{bodies_of, AreNext}
use Rattle.publication_log.proofs.Onward.{IsReadUpTo}
use Rattle.publication_log.proofs.reading.Publications.without_first.Given as goal

-- so many were left out
abbrev pub invariant-loop-i : goal.invariant-loop-i
invariant-loop-i l = (link : List ℕ) (version : ℕ) (ps : List Published) → AreNext version ps → l.fn.self.rest.now ≡ chain_bytes link (bodies_of ps) →
    (done : List Published) × (left : List Published) × IsReadUpTo link ps done left l.rest × (length done ≡ l.i)
