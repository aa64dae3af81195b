-- Remainders of products.
use Rattle.std.proofs.Common.{◌≡◌, ℕ, ◌*◌, ◌%◌, ◌^◌, sym, ap, ◌∙◌}
use Rattle.std.proofs.lemmas.Nat.{mul-mod_second}

-- what is congruent is congruent after a product with one number
pub times_same : (k a b : ℕ) → a % 2 ^ 32 ≡ b % 2 ^ 32 → (k * a) % 2 ^ 32 ≡ (k * b) % 2 ^ 32
times_same k a b e = sym (mul-mod_second k a (2 ^ 32)) ∙ ap (λ (v : ℕ). (k * v) % 2 ^ 32) e ∙ mul-mod_second k b (2 ^ 32)
