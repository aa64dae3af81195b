-- Sums of whole numbers, and the residue of a signed number.
use Rattle.std.specs.Prelude.{ℕ, zero, suc, ◌+◌, ◌-◌, ◌*◌, ◌%◌, ◌^◌, List, ℤ, pos, negsuc, length, map, slice_index}
use Rattle.std.specs.List.{range_with_len}

-- f 0 + f 1 + .. + f (n - 1)
unfoldable pub sum_below : ℕ → (ℕ → ℕ) → ℕ
sum_below zero f = 0
sum_below (suc n) f = sum_below n f + f n

-- the list of f 0, f 1, .., f (n - 1)
abbrev pub list_of : {X : Type 0} → ℕ → (ℕ → X) → List X
list_of n f = map f (range_with_len 0 n)

-- the word that represents a number, which may be negative: its residue modulo 2 ^ 32
abbrev pub residue : ℤ → ℕ
residue (pos n) = n % 2 ^ 32
residue (negsuc n) = 2 ^ 32 - 1 - n % 2 ^ 32

-- x . y: the sum of the products over whole numbers, reduced modulo 2 ^ 32 once, at the end
unfoldable pub dot : List ℕ → List ℕ → ℕ
dot x y = sum_below (length x) (λ k. slice_index x k * slice_index y k) % 2 ^ 32
