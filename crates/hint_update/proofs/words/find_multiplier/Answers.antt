use Rattle.std.proofs.Common.{rules, refl, ◌≡◌, ℕ, ◌*◌, ◌/◌, ◌%◌, ◌^◌, ◌<◌, arith, ap, ◌∙◌, subst, sym, List, length, min}
use Rattle.std.specs.Prelude.{slice_index}
use Rattle.hint_update.specs.Words.{word_change, HasNone, AreFirstChanges, IsGuess}
use Rattle.hint_update.proofs.Guesses.{some_ends, guess_is, change_small}
use Rattle.hint_update.proofs.words.find_multiplier.Goals as goal

pub returns-in-Some-clause-guessed : goal.returns-in-Some-clause-guessed
returns-in-Some-clause-guessed g c =
    let digits = g.S.DigitStore.digits c.args.server_hint.now in
    let words : ℕ = min c.args.hint.now.cols 16 in
    let count : ℕ = length c.args.common.now in
    let least : ℕ = c.least_power-least.result in
    let change : ℕ → ℕ → ℕ = word_change c.args.w digits c.args.hint.now c.args.listed.now in
    let changes : List ℕ = c.put_first_changes.new.changes in
    let pivot : ℕ = c.in-Some.pivot in
    let inverse : ℕ = c.inverse_of_odd.result in
    let long : length c.least_power-least.new.changes ≡ count = c.least_power-least.ensures.length in
    let same : length changes ≡ count = c.put_first_changes.ensures.length ∙ long in
    let first : AreFirstChanges words count change least changes pivot =
    subst (λ n. AreFirstChanges words n change least changes pivot) long c.in-Some.ensures.first in
    let odd : c.shifted-odd.result ≡ slice_index changes pivot / 2 ^ least = c.shifted-odd.ensures in
    let guess : IsGuess words count change c.divide.new.numbers pivot =
    guess_is words count change least inverse changes c.divide.new.numbers pivot
    (λ word k. change_small c.args.w digits c.args.hint.now c.args.listed.now word k) c.least_power-least.ensures.power first
    (λ is. ap (λ n. n * inverse % 2 ^ 32) (sym odd) ∙ c.inverse_of_odd.ensures (ap (λ n. n % 2) odd ∙ is))
    (λ k l. c.divide.ensures.divided k (omega (arith, l, same))) in
    let longer : count ≡ length c.divide.new.numbers = sym (c.divide.ensures.length ∙ same) in
    record {
      too_few = λ few. absurd (omega (arith, few, c.if-listed-lt-FEWEST_ROWS.false));
      no_words = λ none. absurd (omega (arith, none, first.first.inside));
      guess = λ _ _. subst (λ n. IsGuess words n change c.divide.new.numbers pivot) longer guess;
    }

pub returns-in-None-clause-guessed : goal.returns-in-None-clause-guessed
returns-in-None-clause-guessed g c =
    let digits = g.S.DigitStore.digits c.args.server_hint.now in
    let count : ℕ = length c.args.common.now in
    let least : ℕ = c.least_power-least.result in
    let change : ℕ → ℕ → ℕ = word_change c.args.w digits c.args.hint.now c.args.listed.now in
    let none : (j : ℕ) → j < min c.args.hint.now.cols 16 → HasNone count (change j) least =
    λ j l. subst (λ n. HasNone n (change j) least) c.least_power-least.ensures.length (c.in-None.ensures.first j l) in
    record {
      too_few = λ few. absurd (omega (arith, few, c.if-listed-lt-FEWEST_ROWS.false));
      no_words = λ _. record { zeros = search rules; first = refl };
      guess = λ many words.
          absurd
          (some_ends (min c.args.hint.now.cols 16) count change least (omega (arith, words)) (omega (arith, many, c.requires.few))
          c.least_power-least.ensures.power none);
    }
