use Rattle.std.specs.Prelude.{slice_index}
use Rattle.std.proofs.Common.{subst, sym}
use Rattle.hint_update.specs.Words.{IsFewestZeros}
use Rattle.hint_update.proofs.Guesses.{fewest_more}
use Rattle.hint_update.proofs.words.zero_bits.Goals as goal

pub loop-k-preserved : goal.loop-k-preserved
loop-k-preserved c =
    subst (IsFewestZeros _ (λ k. slice_index c.args.numbers.now k)) (sym c.min-least.ensures)
    (fewest_more c.loop-k.k (λ k. slice_index c.args.numbers.now k) c.loop-k.least c.loop-k.invariant)
