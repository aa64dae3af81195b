-- Sums of signed numbers, and rows that are quiet whatever the noise is.
use Rattle.std.proofs.Common.{ℕ, zero, suc, ◌+◌, ◌-◌, ◌*◌, ◌^◌, ◌<◌, ◌≤◌, arith, List, length, ℤ, pos, ◌+ℤ◌, ◌*ℤ◌, unsigned_abs}
use Rattle.std.proofs.lemmas.Int.{ints, unsigned_abs-mul}
use Rattle.std.proofs.lemmas.Nat.{mul-le}
use Rattle.std.specs.Prelude.{slice_index, slice_index_or}
use Rattle.noise_table.specs.Margin.{signed_sum_below, IsQuiet, IsCertain}

-- a sum is at most the bounds of its two terms together
unsigned_abs-add_le : (a b : ℤ) (m n : ℕ) → unsigned_abs a ≤ m → unsigned_abs b ≤ n → unsigned_abs (a +ℤ b) ≤ m + n
unsigned_abs-add_le a b m n p q = grind (arith, ints)

-- a sum of terms of at most b either way
pub signed_sum_le : (n b : ℕ) (f : ℕ → ℤ) → ((k : ℕ) → k < n → unsigned_abs (f k) ≤ b) → unsigned_abs (signed_sum_below n f) ≤ b * n
unfolding signed_sum_below
signed_sum_le zero b f h = omega arith
signed_sum_le (suc n) b f h =
    omega (arith, unsigned_abs-add_le (signed_sum_below n f) (f n) (b * n) b (signed_sum_le n b f (λ k l. h k (omega arith))) (h n (omega arith)))

-- a digit of w bits times some noise
term_le : (w a : ℕ) (e : ℤ) → a < 2 ^ w → unsigned_abs e ≤ 27 → unsigned_abs (pos a *ℤ e) ≤ 27 * (2 ^ w - 1)
term_le w a e p q = rw (unsigned_abs-mul (pos a) e) (omega (arith, mul-le a (unsigned_abs e) (2 ^ w - 1) 27 (omega arith) q))

-- if so many terms are certain, every row of that many digits is quiet
pub certain_quiet : (w : ℕ) (x : List ℕ) (e : List ℤ) → IsCertain w (length x) → ((j : ℕ) → slice_index x j < 2 ^ w) →
    ((j : ℕ) → unsigned_abs (slice_index_or e j (pos 0)) ≤ 27) → IsQuiet w x e
certain_quiet w x e c d n =
    omega (arith, c, signed_sum_le (length x) (27 * (2 ^ w - 1)) (λ j. pos (slice_index x j) *ℤ slice_index_or e j (pos 0)) (λ j _. term_le w _ _ (d j) (n j)))
