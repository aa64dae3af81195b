use Rattle.std.proofs.Common.{◌≡◌, ℕ, List, length}
use Rattle.publication_log.specs.Publications.{Published}
use Rattle.publication_log.specs.Entries.{chain_bytes}
use Rattle.publication_log.specs.Logs.{bodies_of, AreNext}
use Rattle.log_replay.specs.Replays.{HasNoDraft, replayed_all, are_next_of}
use Rattle.log_replay.proofs.ReplayLemmas.{HasEntries}
use Rattle.log_replay.proofs.replaying.replay_all.Given as goal

-- what is left makes of the store what all publications make of it, and decides whether all follow
abbrev pub invariant-publications : goal.invariant-publications
invariant-publications g l = HasNoDraft l.store × ((link : List ℕ) (version : ℕ) (ps : List Published) → AreNext version ps →
    l.fn.publications.rest.now ≡ chain_bytes link (bodies_of ps) →
    (left : List Published) × HasEntries l.left.rest.now left × (replayed_all ps l.fn.store ≡ replayed_all left l.store)
    × (are_next_of l.fn.store ps ≡ are_next_of l.store left))

abbrev pub decreases-publications : goal.decreases-publications
decreases-publications g l = length l.left.rest.now
