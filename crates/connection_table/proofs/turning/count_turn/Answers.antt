use Rattle.std.proofs.Common.{◌++◌, ◌∷◌, [], List, IfSome, sym, subst}
use Rattle.service_watch.specs.Counts.{Amount, IsTally, reply_slot}
use Rattle.connection_table.specs.declared.tallies.Tallies.{Tallies}
use Rattle.connection_table.proofs.turning.count_turn.Goals as goal

pub returns-then-is_some-clause-counts : goal.returns-then-is_some-clause-counts
returns-then-is_some-clause-counts c =
    subst (λ (t : Tallies). IfSome c.args.watch.now.reply (λ r. (events : List Amount) → IsTally c.args.tallies.now.counts.counts events
    → IsTally t.counts.counts (events ++ record { slot = reply_slot r.kind r.first; much = 1 } ∷ [])))
    (sym c.note_publication.ensures) c.note_turn.ensures.counts
