-- The margin of a digit, and the sums of noise that stay below it.
use Rattle.std.specs.Prelude.{ℕ, zero, suc, ◌-◌, ◌*◌, ◌/◌, ◌^◌, ◌<◌, List, ℤ, pos, ◌+ℤ◌, ◌*ℤ◌, length, unsigned_abs, slice_index, slice_index_or}

-- the distance of neighbouring digits of w bits among the words: 2 ^ 32 divided by 2 ^ w
unfoldable pub delta : ℕ → ℕ
delta w = 2 ^ (32 - w)

-- f 0 + f 1 + .. + f (n - 1), of signed numbers
unfoldable pub signed_sum_below : ℕ → (ℕ → ℤ) → ℤ
signed_sum_below zero f = pos 0
signed_sum_below (suc n) f = signed_sum_below n f +ℤ f n

-- the whole-number sum of x[j] e[j], which is not reduced
abbrev pub noise_sum : List ℕ → List ℤ → ℤ
noise_sum x e = signed_sum_below (length x) (λ j. pos (slice_index x j) *ℤ slice_index_or e j (pos 0))

-- a row x of digits of w bits is quiet under noise e: their noise sum stays below half of delta,
-- either way
abbrev pub IsQuiet : ℕ → List ℕ → List ℤ → Type 0
IsQuiet w x e = unsigned_abs (noise_sum x e) < delta w / 2

-- so few digits of w bits that a row of them is quiet whatever its noise is: the greatest noise,
-- 27, times the greatest digit, once for each of them, stays below half of delta
abbrev pub IsCertain : ℕ → ℕ → Type 0
IsCertain w terms = 27 * (2 ^ w - 1) * terms < delta w / 2
