use Rattle.std.proofs.Common.{◌≡◌, ◌++◌, length}
use Rattle.frame_codec.specs.Numbers.{word_bytes}
use Rattle.hint_file.specs.Files.{part_digests}
use Rattle.hint_file.proofs.digests.digests_of_words.Given as goal

abbrev pub invariant-loop-rest : goal.invariant-loop-rest
invariant-loop-rest l = l.digests.items ++ part_digests (word_bytes l.rest) ≡ part_digests (word_bytes l.words)

abbrev pub decreases-loop-rest : goal.decreases-loop-rest
decreases-loop-rest l = length l.rest
