use Rattle.std.proofs.Common.{◌≡◌, ◌++◌, ℕ, List, length}
use Rattle.publication_log.specs.Publications.{Published}
use Rattle.publication_log.specs.Entries.{chain_bytes, last_link}
use Rattle.publication_log.specs.Logs.{bodies_of, first_link, log_header_bytes, AreNext}
use Rattle.publication_log.proofs.Onward.{IsReadUpTo}
use Rattle.publication_log.proofs.relinking.relinked.Given as goal

-- what was read is linked anew
abbrev pub invariant-entries : goal.invariant-entries
invariant-entries l = (link : List ℕ) (version : ℕ) (ps : List Published) → AreNext version ps → l.fn.publications.rest.now ≡ chain_bytes link (bodies_of ps) →
    (done : List Published) × (left : List Published) × IsReadUpTo link ps done left l.rest
    × (l.bytes.items ≡ log_header_bytes l.header ++ chain_bytes (first_link l.header) (bodies_of done)) × (l.link ≡ last_link (first_link l.header) (bodies_of done))

abbrev pub decreases-entries : goal.decreases-entries
decreases-entries l = length l.rest
