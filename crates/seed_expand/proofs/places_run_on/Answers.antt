use Rattle.std.proofs.Common.{refl}
use Rattle.seed_expand.proofs.Sources.{further-further, word-past_end}
use Rattle.seed_expand.proofs.places_run_on.Goals as goal

pub returns : goal.returns
returns c = record { in_turn = further-further; anew = λ seed stream. refl; words_anew = word-past_end }
