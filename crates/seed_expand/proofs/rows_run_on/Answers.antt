use Rattle.seed_expand.proofs.PublicRows.{rows-in_turn, rows-alone}
use Rattle.seed_expand.proofs.rows_run_on.Goals as goal

pub returns : goal.returns
returns c = record { in_turn = rows-in_turn; alone = rows-alone }
