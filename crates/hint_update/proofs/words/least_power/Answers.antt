use Rattle.std.proofs.Common.{◌≡◌, ℕ, ◌+◌, arith, ◌∙◌, subst, sym, List, length, min}
use Rattle.std.specs.Prelude.{slice_index}
use Rattle.hint_update.specs.Words.{word_change, IsFewestZeros, IsLeastPower}
use Rattle.hint_update.proofs.Guesses.{power_more}
use Rattle.hint_update.proofs.words.least_power.Goals as goal

pub loop-word-preserved : goal.loop-word-preserved
loop-word-preserved g c =
    let change : ℕ → ℕ → ℕ = word_change c.args.w (g.S.DigitStore.digits c.args.server_hint.now) c.args.hint.now c.args.listed.now in
    let changes : List ℕ = c.put_word_changes.new.changes in
    let count : ℕ = length c.args.changes.now in
    let long : length changes ≡ count = c.put_word_changes.ensures.length ∙ c.loop-word.auto.changes in
    let few : IsFewestZeros count (λ k. slice_index changes k) c.zero_bits.result =
    subst (λ n. IsFewestZeros n (λ k. slice_index changes k) c.zero_bits.result) long c.zero_bits.ensures in
    subst (IsLeastPower (c.loop-word.word + 1) count change) {x = min c.loop-word.least c.zero_bits.result} (sym c.min-least.ensures)
    (power_more c.loop-word.word count change changes c.loop-word.least c.zero_bits.result c.loop-word.invariant
    (λ k l. c.put_word_changes.ensures.changes k (omega (arith, l, c.loop-word.auto.changes))) few)
