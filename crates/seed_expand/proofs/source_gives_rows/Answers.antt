use Rattle.seed_expand.proofs.Sources.{rows-source_at}
use Rattle.seed_expand.proofs.source_gives_rows.Goals as goal

pub returns : goal.returns
returns c = rows-source_at
