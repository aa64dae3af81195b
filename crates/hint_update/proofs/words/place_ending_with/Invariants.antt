use Rattle.std.specs.Prelude.{slice_index}
use Rattle.hint_update.specs.Words.{HasNone}
use Rattle.hint_update.proofs.words.place_ending_with.Given as goal

abbrev pub invariant-loop-k : goal.invariant-loop-k
invariant-loop-k l = HasNone l.k (λ k. slice_index l.numbers k) l.bits
