-- The noise of a word.
use Rattle.std.specs.Prelude.{ℕ, ◌+◌, ◌/◌, ◌%◌, ◌^◌, ◌==◌, ◌&&◌, Bool, true, List, [], ◌∷◌, ℤ, pos, neg_ℤ, nat_le, nat_lt, count_by, if◌then◌else◌}
use Rattle.matrix_u32.specs.Sum.{list_of}
use Rattle.seed_expand.specs.Words.{word}

-- each number is below the next
abbrev pub is_ascending : List ℕ → Bool
is_ascending [] = true
is_ascending (x ∷ []) = true
is_ascending (x ∷ (y ∷ rest)) = nat_lt x y && is_ascending (y ∷ rest)

-- how many numbers below 2 ^ 15 give a magnitude of 0, of at most 1, .., of at most 27: the
-- cumulative distribution of the magnitude of a Gaussian of standard deviation 6.4 over the whole
-- numbers, in steps of 2 ^ -15. Magnitude k > 0 has the share 2 exp (- k ^ 2 / (2 * 6.4 ^ 2)),
-- magnitude 0 half of that; the shares are rounded to steps, those with the largest remainders up,
-- so that they make 2 ^ 15 together.
abbrev pub noise_limits : List ℕ
noise_limits =
    2043 ∷ 6079 ∷ 9970 ∷ 13630 ∷ 16990 ∷ 20001 ∷ 22633 ∷ 24879 ∷ 26749 ∷ 28269 ∷ 29474 ∷ 30407 ∷ 31111 ∷ 31630
    ∷ 32003 ∷ 32265 ∷ 32445 ∷ 32565 ∷ 32643 ∷ 32693 ∷ 32724 ∷ 32743 ∷ 32754 ∷ 32760 ∷ 32764 ∷ 32766 ∷ 32767 ∷ 32768 ∷ []

-- how many limits are at most t
unfoldable pub magnitude : ℕ → ℕ
magnitude t = count_by (λ limit. nat_le limit t) noise_limits

-- the low 15 bits give the magnitude, bit 15 the sign; the other bits are ignored
unfoldable pub noise : ℕ → ℤ
noise x = if x / 2 ^ 15 % 2 == 1 then neg_ℤ (pos (magnitude (x % 2 ^ 15))) else pos (magnitude (x % 2 ^ 15))

-- the noise of `count` words of a stream from a place on
abbrev pub noise_from : List ℕ → ℕ → ℕ → ℕ → List ℤ
noise_from seed stream first count = list_of count (λ k. noise (word seed stream (first + k)))
