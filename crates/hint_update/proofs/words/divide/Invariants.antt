use Rattle.std.proofs.Common.{◌≡◌, ℕ, ◌*◌, ◌/◌, ◌%◌, ◌^◌, ◌<◌, ◌≤◌, length}
use Rattle.std.specs.Prelude.{slice_index}
use Rattle.hint_update.proofs.words.divide.Given as goal

abbrev pub invariant-loop-k : goal.invariant-loop-k
invariant-loop-k l = record {
  done : (k : ℕ) → k < l.k → slice_index l.numbers k ≡ slice_index l.initial.numbers k / 2 ^ l.bits * l.inverse % 2 ^ 32;
  rest : (k : ℕ) → l.k ≤ k → k < length l.initial.numbers → slice_index l.numbers k ≡ slice_index l.initial.numbers k;
}
