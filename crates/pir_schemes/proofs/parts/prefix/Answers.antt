use Rattle.std.proofs.Common.{sym, arith}
use Rattle.std.proofs.lemmas.List.{take_all}
use Rattle.pir_schemes.proofs.parts.prefix.Goals as goal

pub returns-then-words-lt-PART_WORDS : goal.returns-then-words-lt-PART_WORDS
returns-then-words-lt-PART_WORDS c = sym (take_all 65536 c.args.words.now (omega arith))
