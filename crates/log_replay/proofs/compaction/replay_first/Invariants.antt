use Rattle.std.proofs.Common.{◌≡◌, ℕ, List}
use Rattle.publication_log.specs.Publications.{Published}
use Rattle.publication_log.specs.Entries.{chain_bytes}
use Rattle.publication_log.specs.Logs.{bodies_of, AreNext}
use Rattle.version_store.specs.Openings.{IsSound}
use Rattle.log_replay.proofs.EarlierOnes.{AreMade}
use Rattle.log_replay.proofs.compaction.replay_first.Given as goal

-- so many publications were made
abbrev pub invariant-loop-i : goal.invariant-loop-i
invariant-loop-i g l = IsSound (g.H.RecordHolder.header l.held) (g.H.RecordHolder.bytes l.held) × ((link : List ℕ) (version : ℕ) (ps : List Published) → AreNext version ps →
    l.fn.publications.rest.now ≡ chain_bytes link (bodies_of ps) →
    AreMade (g.H.RecordHolder.header l.fn.held) (g.H.RecordHolder.bytes l.fn.held) ps l.i (g.H.RecordHolder.header l.held) (g.H.RecordHolder.bytes l.held) l.left.rest.now)
