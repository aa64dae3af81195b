use Rattle.std.proofs.Common.{◌≡◌, ◌≤◌, ◌-◌, ◌*◌, min, vec_len}
use Rattle.std.specs.Io.KnownBytes.{Consumes}
use Rattle.frame_codec.specs.Numbers.{word_bytes}
use Rattle.hint_file.proofs.reading.read_words.Given as goal

abbrev pub invariant-loop-words : goal.invariant-loop-words
invariant-loop-words g l = record {
  room : vec_len l.buffer ≡ 4 * min l.count 65536;
  within : vec_len l.words ≤ l.count;
  read : Consumes (g.R.Read.remaining l.fn.reader) (g.R.Read.remaining l.reader) (word_bytes l.words.items);
}

abbrev pub decreases-loop-words : goal.decreases-loop-words
decreases-loop-words g l = l.count - vec_len l.words
