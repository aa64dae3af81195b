-- Counts of nothing.
use Rattle.std.proofs.Common.{◌≡◌, ℕ, zero, suc, refl, replicate, slice_index}

-- each of some zeros is zero
pub nothing : (n k : ℕ) → slice_index (replicate n 0) k ≡ 0
nothing zero k = refl
nothing (suc n) zero = refl
nothing (suc n) (suc k) = nothing n k
