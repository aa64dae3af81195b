-- How rarely a noise sum reaches half of delta: Chernoff's bound, for noise of variance 41 at most,
-- in bits rounded down. docs/DECISIONS.md ('Odds') has the derivation.
use Rattle.std.specs.Prelude.{ℕ, ◌+◌, ◌-◌, ◌*◌, ◌/◌, ◌^◌, nat_lt, cond, max, min}

-- the square of half of delta, for digits of w bits
abbrev pub margin_squared : ℕ → ℕ
margin_squared w = 2 ^ (31 - w) * 2 ^ (31 - w)

-- the greatest digit of w bits
abbrev pub greatest : ℕ → ℕ
greatest w = 2 ^ w - 1

-- Bits of exp (- h^2 / (2 * 41 * terms * x^2)), with h half of delta and x the greatest digit: 1 /
-- ln 2 is 1.44 at least, and 1.44 / 82 is 18 / 1025.
abbrev pub worst_from : ℕ → ℕ → ℕ → ℕ
worst_from margin x terms = margin * 18 / (1025 * (terms * (x * x)))

-- bits for digits of w bits, whatever they are
abbrev pub worst_bits : ℕ → ℕ → ℕ
worst_bits w terms = worst_from (margin_squared w) (greatest w) terms

-- Those with the mean x (2 x + 1) / 6 of the squares of digits that are drawn evenly, in place of
-- x^2.
abbrev pub mean_from : ℕ → ℕ → ℕ → ℕ
mean_from margin x terms = margin * 108 / (1025 * (terms * (x * (2 * x + 1))))

-- the square of `terms` times 2 x + 1
abbrev pub spread : ℕ → ℕ → ℕ
spread x terms = terms * (2 * x + 1) * (terms * (2 * x + 1))

-- Bits less what is taken off, rounded up, since the squares of digits are not all at their mean.
abbrev pub less_excess : ℕ → ℕ → ℕ → ℕ
less_excess mean margin spread = mean - (mean * (54 * margin) / (205 * spread) + 1)

-- Bits for digits that are drawn evenly: those of the worst ones at least, and those of the mean if
-- there are enough terms for it.
abbrev pub even_from : ℕ → ℕ → ℕ → ℕ → ℕ
even_from margin x terms worst = cond (nat_lt (41 * spread x terms) (36 * margin)) worst
    (max worst (less_excess (mean_from margin x terms) margin (spread x terms)))

-- bits for digits of w bits that are drawn evenly
abbrev pub even_bits : ℕ → ℕ → ℕ
even_bits w terms = even_from (margin_squared w) (greatest w) terms (worst_bits w terms)

-- Bits of the odds that a digit of a SimplePIR retrieval is not quiet, from those of one sum over
-- the columns: the sum may pass either side.
abbrev pub simple_odds : ℕ → ℕ
simple_odds columns = columns - 1

-- Bits of the odds that a digit of a DoublePIR retrieval is not quiet, from those of a sum over the
-- columns and of one over the rows: one sum over the columns, and at most 2^13 over the rows.
abbrev pub double_odds : ℕ → ℕ → ℕ
double_odds columns rows = min (columns - 2) (rows - 15)
