use Rattle.std.proofs.Common.{◌≡◌, ◌++◌, ◌≤◌, ◌+◌, ◌*◌, length, vec_len, vec_capacity}
use Rattle.frame_codec.specs.Numbers.{word_bytes}
use Rattle.frame_codec.proofs.word_bytes.put_words.Given as goal

abbrev pub invariant-loop-rest : goal.invariant-loop-rest
invariant-loop-rest l = record {
  items : l.out.items ++ word_bytes l.rest ≡ l.fn.out.items ++ word_bytes l.words;
  len : vec_len l.out + 4 * length l.rest ≡ vec_len l.fn.out + 4 * length l.words;
  space : vec_len l.out + 4 * length l.rest ≤ vec_capacity l.out;
  room : vec_capacity l.fn.out ≤ vec_capacity l.out;
}

abbrev pub decreases-loop-rest : goal.decreases-loop-rest
decreases-loop-rest l = length l.rest
