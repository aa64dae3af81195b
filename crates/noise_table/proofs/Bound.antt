-- How large noise is, and its sign as the code has it.
use Rattle.std.proofs.Common.{◌≡◌, ℕ, ◌/◌, ◌%◌, ◌^◌, ◌<◌, ◌≤◌, ◌==◌, Bool, true, false, if◌then◌else◌, cond, nat_le, lit<, arith, refl, ℤ, pos, neg_ℤ, ◌-ℤ◌, unsigned_abs, to_z, of_z, w32}
use Rattle.std.proofs.lemmas.Bool.Decides.{nat_tests}
use Rattle.std.proofs.lemmas.Nat.{mod_below}
use Rattle.std.proofs.lemmas.Int.{ints, to_z-of_z}
use Rattle.std.proofs.lemmas.List.Sums.{sum_by_push, count_by-le-length}
use Rattle.std.specs.Prelude.{take}
use Rattle.noise_table.specs.Noise.{noise, noise_limits, magnitude}
use mir.Val.{SFits}

-- 1 for a limit that is at most t, else 0
counted : ℕ → ℕ → ℕ
counted t limit = cond (nat_le limit t) 1 0

-- the last limit is above every number of 15 bits
counted-last : (t : ℕ) → t < 2 ^ 15 → counted t 32768 ≡ 0
unfolding counted
counted-last t h = grind (arith, nat_tests)

-- of the 28 limits at most the 27 before the last are counted
pub magnitude_le : (t : ℕ) → t < 2 ^ 15 → magnitude t ≤ 27
unfolding counted magnitude
magnitude_le t h =
    omega (arith, counted-last t h, sum_by_push (counted t) (take 27 noise_limits) 32768, count_by-le-length (λ limit. nat_le limit t) (take 27 noise_limits))

-- a sign leaves the magnitude alone
unsigned_abs-signed : (b : Bool) (n : ℕ) → unsigned_abs (if b then neg_ℤ (pos n) else pos n) ≡ n
unsigned_abs-signed true n = grind (arith, ints)
unsigned_abs-signed false n = refl

pub noise-le : (word : ℕ) → unsigned_abs (noise word) ≤ 27
unfolding noise
noise-le word =
    omega (arith, unsigned_abs-signed (word / 2 ^ 15 % 2 == 1) (magnitude (word % 2 ^ 15)), magnitude_le (word % 2 ^ 15) (mod_below word (2 ^ 15) (lit< tt)))

-- the code's negation, in 32 bits, is that of whole numbers
pub negated : (m : ℤ) (n : ℕ) → m ≡ pos n → n ≤ 27 → to_z w32 (of_z w32 (pos 0 -ℤ to_z w32 (of_z w32 m))) ≡ neg_ℤ (pos n)
negated m n e h =
    let fits : SFits w32 m = omega (arith, ints) in
    let negative_fits : SFits w32 (pos 0 -ℤ m) = omega (arith, ints) in
    rw (to_z-of_z w32 m fits, to_z-of_z w32 (pos 0 -ℤ m) negative_fits) (omega (arith, ints))

-- if the sign bit is 1
pub if_one : (bit : ℕ) (a b : ℤ) → bit ≡ 1 → (if bit == 1 then a else b) ≡ a
if_one bit a b e = grind (arith, nat_tests)
