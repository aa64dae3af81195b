use Rattle.std.proofs.Common.{◌≡◌, ◌++◌, ◌≤◌, ◌+◌, ◌*◌, ◌/◌, length, vec_len, vec_capacity}
use Rattle.frame_codec.specs.Numbers.{word_bytes}
use Rattle.frame_codec.proofs.payload.words_of.Given as goal

abbrev pub invariant-loop-rest : goal.invariant-loop-rest
invariant-loop-rest l = record {
  items : word_bytes l.items.items ++ l.rest ≡ l.bytes;
  whole : length l.rest ≡ 4 * (length l.rest / 4);
  space : vec_len l.items + length l.rest / 4 ≤ vec_capacity l.items;
}

abbrev pub decreases-loop-rest : goal.decreases-loop-rest
decreases-loop-rest l = length l.rest
