use Rattle.std.specs.Prelude.{slice_index}
use Rattle.hint_update.specs.Words.{IsFewestZeros}
use Rattle.hint_update.proofs.words.zero_bits.Given as goal

abbrev pub invariant-loop-k : goal.invariant-loop-k
invariant-loop-k l = IsFewestZeros l.k (λ k. slice_index l.numbers k) l.least
