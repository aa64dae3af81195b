use Rattle.std.proofs.Common.{◌≡◌, ◌++◌, length}
use Rattle.frame_codec.specs.Numbers.{word_bytes}
use Rattle.hint_file.proofs.word_bytes.add_words.Given as goal

abbrev pub invariant-loop-rest : goal.invariant-loop-rest
invariant-loop-rest l = l.out.items ++ word_bytes l.rest ≡ l.fn.out.items ++ word_bytes l.words

abbrev pub decreases-loop-rest : goal.decreases-loop-rest
decreases-loop-rest l = length l.rest
