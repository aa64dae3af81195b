use Rattle.seed_expand.proofs.Sources.{source_word-source_at}
use Rattle.seed_expand.proofs.source_gives_words.Goals as goal

pub returns : goal.returns
returns c = source_word-source_at
