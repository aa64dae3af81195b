use Rattle.std.proofs.Common.{◌≡◌, ◌*◌, ◌++◌, ℕ, length}
use Rattle.frame_codec.specs.Numbers.{word_bytes}
use Rattle.hint_file.proofs.word_bytes.add_read.Given as goal

abbrev pub invariant-loop-rest : goal.invariant-loop-rest
invariant-loop-rest l = record {
  read : word_bytes l.out.items ++ l.rest ≡ word_bytes l.fn.out.items ++ l.bytes;
  whole : (n : ℕ) × (length l.rest ≡ 4 * n);
}

abbrev pub decreases-loop-rest : goal.decreases-loop-rest
decreases-loop-rest l = length l.rest
