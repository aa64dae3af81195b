-- Rounding to the nearest digit.
use Rattle.std.proofs.Common.{◌≡◌, ℕ, suc, ◌+◌, ◌-◌, ◌*◌, ◌/◌, ◌%◌, ◌^◌, ◌<◌, ◌≤◌, arith, ap, ◌∙◌, sym, ℤ, pos, negsuc, ◌+ℤ◌, ◌-ℤ◌, mul-le-mul_left}
use Rattle.std.proofs.lemmas.Int.{ints, to_z-of_z}
use Rattle.std.proofs.Common.{to_z, of_z, w32}
use mir.Val.{SFits}
use Rattle.std.proofs.lemmas.Nat.{pow-add, pow_pos, div-mul-add, div-add-mod', div_below, mod_below}
use Rattle.matrix_u32.specs.Sum.{residue}
use Rattle.noise_table.specs.Margin.{delta}
use Rattle.regev_core.specs.Encryption.{nearest, IsNearest}

-- ---- the residue of a signed number
pub residue-shift : (z : ℤ) (n m : ℕ) → z +ℤ pos n ≡ pos m → (residue z + n) % 2 ^ 32 ≡ m % 2 ^ 32
residue-shift (pos a) n m e = omega (arith, ints)
residue-shift (negsuc a) n m e = omega (arith, ints)

pub residue-lt : (z : ℤ) → residue z < 2 ^ 32
residue-lt (pos a) = omega arith
residue-lt (negsuc a) = omega arith

-- ---- delta
pub delta-mul : (w : ℕ) → w ≤ 32 → delta w * 2 ^ w ≡ 2 ^ 32
unfolding delta
delta-mul w h =
    let e : 32 - w + w ≡ 32 = omega arith in
    sym (pow-add 2 (32 - w) w) ∙ ap (λ k. 2 ^ k) e

pub delta-half : (w : ℕ) → w < 32 → delta w ≡ 2 * (delta w / 2)
unfolding delta
delta-half w h =
    let e : 32 - w ≡ suc (31 - w) = omega arith in
    rw e (omega arith)

-- the word of a digit, with a whole margin above it
pub delta_fits : (w d : ℕ) → w ≤ 32 → d < 2 ^ w → delta w * d + delta w ≤ 2 ^ 32
delta_fits w d h l =
    let m : d + 1 ≤ 2 ^ w = omega arith in
    omega (arith, delta-mul w h, mul-le-mul_left (delta w) m)

-- a word that represents delta d and a noise of u - n, below half of delta
pub nearest_of : (w z u n d : ℕ) → w < 32 → d < 2 ^ w → (z + n) % 2 ^ 32 ≡ (u + delta w * d) % 2 ^ 32 → u < n + delta w / 2 → n ≤ u + delta w / 2 →
    nearest w z ≡ d
unfolding nearest
nearest_of w z u n d h l e p q =
    let half : delta w ≡ 2 * (delta w / 2) = delta-half w h in
    let fits : delta w * d + delta w ≤ 2 ^ 32 = delta_fits w d (omega arith) l in
    let at : (z + delta w / 2) % 2 ^ 32 ≡ d * delta w + (u + delta w / 2 - n) = omega arith in
    ap (λ t. t / delta w) at ∙ div-mul-add d (delta w) (u + delta w / 2 - n) (omega arith)

-- where the word lies in the interval of d
place_in : (w word d : ℕ) → (residue (pos word -ℤ (pos (delta w * d) -ℤ pos (delta w / 2))) + delta w * d) % 2 ^ 32 ≡ (word + delta w / 2) % 2 ^ 32
place_in w word d = residue-shift (pos word -ℤ (pos (delta w * d) -ℤ pos (delta w / 2))) (delta w * d) (word + delta w / 2) (omega (arith, ints))

pub delta_pos : (w : ℕ) → 0 < delta w
unfolding delta
delta_pos w = pow_pos (32 - w)

pub nearest-lt : (w word : ℕ) → w < 32 → nearest w word < 2 ^ w
unfolding nearest
nearest-lt w word h =
    let whole : delta w * 2 ^ w ≡ 2 ^ 32 = delta-mul w (omega arith) in
    div_below ((word + delta w / 2) % 2 ^ 32) (delta w) (2 ^ w) (delta_pos w) (omega arith)

pub nearest_only : (w word d : ℕ) → w < 32 → IsNearest w word d → d ≡ nearest w word
unfolding nearest
nearest_only w word d h i =
    let z : ℕ = residue (pos word -ℤ (pos (delta w * d) -ℤ pos (delta w / 2))) in
    let low : z < delta w = i.1 in
    let at : d * delta w + z ≡ (word + delta w / 2) % 2 ^ 32 = omega (arith, place_in w word d, delta_fits w d (omega arith) i.0) in
    sym (ap (λ t. t / delta w) (sym at) ∙ div-mul-add d (delta w) z low)

pub nearest_is : (w word : ℕ) → w < 32 → IsNearest w word (nearest w word)
unfolding nearest
nearest_is w word h =
    let v : ℕ = (word + delta w / 2) % 2 ^ 32 in
    let low : v % delta w < delta w = mod_below v (delta w) (delta_pos w) in
    let split : v / delta w * delta w + v % delta w ≡ v = div-add-mod' v (delta w) in
    let bound : delta w ≤ 2 ^ 32 = omega (arith, delta_fits w 0 (omega arith) (pow_pos w)) in
    let z : ℕ = residue (pos word -ℤ (pos (delta w * (v / delta w)) -ℤ pos (delta w / 2))) in
    let same : z ≡ v % delta w = omega (arith, place_in w word (v / delta w), residue-lt (pos word -ℤ (pos (delta w * (v / delta w)) -ℤ pos (delta w / 2)))) in
    (nearest-lt w word h, omega (arith, same, low))

-- the bits of a signed number of 32 bits represent its residue
pub plus_bits : (x a : ℕ) (z : ℤ) → SFits w32 z → x ≡ a → (x + of_z w32 (to_z w32 (of_z w32 z))) % 2 ^ 32 ≡ (a + residue z) % 2 ^ 32
plus_bits x a z f e = rw (to_z-of_z w32 z f) (plain x a z f e)
  where
    plain : (x a : ℕ) (z : ℤ) → SFits w32 z → x ≡ a → (x + of_z w32 z) % 2 ^ 32 ≡ (a + residue z) % 2 ^ 32
    plain x a (pos n) f e = omega arith
    plain x a (negsuc n) f e = omega (arith, f.sfits)
