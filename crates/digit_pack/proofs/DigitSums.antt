-- Numbers and their digits.
use Rattle.std.proofs.Common.{◌≡◌, ℕ, zero, suc, ◌+◌, ◌-◌, ◌*◌, ◌/◌, ◌%◌, ◌^◌, ◌<◌, ◌≤◌, arith, ap, ◌∙◌, sym, lit<, mul-le-mul_left, mul-le-mul_right, ⊎_elim, mul-zero}
use Rattle.std.proofs.lemmas.Nat.{pow_pos, le-div, mod_low, mod-pow-add, field_of, shr_high, mul-add-lt, pow-add, mod_below}
use Rattle.std.proofs.Math.Nat.{mod-one, mod-eq_of_lt, pow-le-pow_right}
use Rattle.std.proofs.lemmas.Bool.{cases_eq}
use Rattle.matrix_u32.specs.Sum.{sum_below}
use Rattle.matrix_u32.proofs.Sums.{sum_same}
use Rattle.matrix_u32.proofs.Products.{length-list_of, at-list_of}
use Rattle.lane_kernels.specs.Digit.{digit, split_count}
use Rattle.digit_pack.specs.Digits.{digits_of, number_of, joined}

-- the first n digits write the number, up to their places
pub sum_of_digits : (w n x : ℕ) → sum_below n (λ t. digit w x t * 2 ^ (w * t)) ≡ x % 2 ^ (w * n)
unfolding sum_below digit
sum_of_digits w zero x = sym (ap (λ k. x % 2 ^ k) (mul-zero w) ∙ mod-one x)
sum_of_digits w (suc n) x =
    let e : w * suc n ≡ w + w * n = omega arith in
    rw (e, mod-pow-add x w (w * n)) (omega (arith, sum_of_digits w n x))

pub number_of-digits_of : (w n x : ℕ) → number_of w (digits_of w n x) ≡ x % 2 ^ (w * n)
unfolding number_of
number_of-digits_of w n x =
    rw (length-list_of n (λ t. digit w x t))
    (sum_same n _ _ (λ t l. ap (λ k. k * 2 ^ (w * t)) (at-list_of n (λ t. digit w x t) t l)) ∙ sum_of_digits w n x)

pub split_covers : (w : ℕ) → 0 < w → 32 ≤ w * split_count w
unfolding split_count
split_covers w h = omega arith

pub join_split : (w x : ℕ) → 0 < w → x < 2 ^ 32 → joined w (digits_of w (split_count w) x) ≡ x
join_split w x h l =
    let covers : 2 ^ 32 ≤ 2 ^ (w * split_count w) = pow-le-pow_right (lit< tt) (split_covers w h) in
    let whole : number_of w (digits_of w (split_count w) x) ≡ x = number_of-digits_of w (split_count w) x ∙ mod-eq_of_lt (omega arith) in
    omega (arith, whole)

pub digit-lt : (w x t : ℕ) → digit w x t < 2 ^ w
unfolding digit
digit-lt w x t = mod_below (x / 2 ^ (w * t)) (2 ^ w) (pow_pos w)

-- a remainder of a remainder
pub mod_twice : (x r k : ℕ) → x % 2 ^ (r + k) % 2 ^ k ≡ x % 2 ^ k
mod_twice x r k = ap (λ y. y % 2 ^ k) (mod-pow-add x r k) ∙ mod_low (x / 2 ^ k % 2 ^ r) k (x % 2 ^ k) (mod_below x (2 ^ k) (pow_pos k))

-- a digit says nothing of what is above it
digit_of_low : (w t n x : ℕ) → t < n → digit w (x % 2 ^ (w * n)) t ≡ digit w x t
unfolding digit
digit_of_low w t n x h =
    let more : w * suc t ≤ w * n = mul-le-mul_left w h in
    let e : w * n ≡ (w * n - w * suc t) + (w + w * t) = omega arith in
    let low : x % 2 ^ (w * n) % 2 ^ (w + w * t) ≡ x % 2 ^ (w + w * t) = ap (λ k. x % 2 ^ k % 2 ^ (w + w * t)) e ∙ mod_twice x (w * n - w * suc t) (w + w * t) in
    sym (field_of (x % 2 ^ (w * n)) w (w * t)) ∙ ap (λ y. y / 2 ^ (w * t)) low ∙ field_of x w (w * t)

-- digits of w bits write a number below 2 ^ w to the power of their count
pub number_below : (w n : ℕ) (f : ℕ → ℕ) → ((t : ℕ) → t < n → f t < 2 ^ w) → sum_below n (λ t. f t * 2 ^ (w * t)) < 2 ^ (w * n)
unfolding sum_below
number_below w zero f h = pow_pos (w * 0)
number_below w (suc n) f h =
    let e : w * suc n ≡ w * n + w = omega arith in
    let p : 2 ^ (w * suc n) ≡ 2 ^ (w * n) * 2 ^ w = ap (λ k. 2 ^ k) e ∙ pow-add 2 (w * n) w in
    let low : sum_below n (λ t. f t * 2 ^ (w * t)) < 2 ^ (w * n) = number_below w n f (λ t l. h t (omega arith)) in
    let step : f n * 2 ^ (w * n) + sum_below n (λ t. f t * 2 ^ (w * t)) < 2 ^ (w * n) * 2 ^ w =
    mul-add-lt (f n) (2 ^ (w * n)) _ (2 ^ w) (h n (omega arith)) low in
    omega (arith, p, step)

-- the top digit, and the others
top : (w n : ℕ) (f : ℕ → ℕ) (s t : ℕ) → t ≡ n → s < 2 ^ (w * n) → f n < 2 ^ w → digit w (s + f n * 2 ^ (w * n)) t ≡ f t
unfolding digit
top w n f s t e low d =
    let swap : s + f n * 2 ^ (w * n) ≡ f n * 2 ^ (w * n) + s = omega arith in
    rw (e, swap, shr_high (f n) (w * n) s low) (mod-eq_of_lt d)

below_top : (w n : ℕ) (f : ℕ → ℕ) (s t : ℕ) → t < n → s < 2 ^ (w * n) → digit w (s + f n * 2 ^ (w * n)) t ≡ digit w s t
below_top w n f s t m low =
    let swap : s + f n * 2 ^ (w * n) ≡ f n * 2 ^ (w * n) + s = omega arith in
    sym (digit_of_low w t n (s + f n * 2 ^ (w * n)) m) ∙ ap (λ y. digit w (y % 2 ^ (w * n)) t) swap ∙ ap (λ y. digit w y t) (mod_low (f n) (w * n) s low)

-- the digits of the number that digits write are those digits
pub digit_of_sum : (w n : ℕ) (f : ℕ → ℕ) → ((t : ℕ) → t < n → f t < 2 ^ w) → (t : ℕ) → t < n → digit w (sum_below n (λ t. f t * 2 ^ (w * t))) t ≡ f t
unfolding sum_below
digit_of_sum w zero f h t l = absurd (omega arith)
digit_of_sum w (suc n) f h t l =
    let s : ℕ = sum_below n (λ t. f t * 2 ^ (w * t)) in
    let low : s < 2 ^ (w * n) = number_below w n f (λ t l. h t (omega arith)) in
    ⊎_elim (λ e. top w n f s t e low (h n (omega arith)))
    (λ d.
    let m : t < n = omega arith in
    below_top w n f s t m low ∙ digit_of_sum w n f (λ t l. h t (omega arith)) t m)
    (cases_eq t n)

pub split_some : (w : ℕ) → 0 < w → 0 < split_count w
unfolding split_count
split_some w h = le-div 1 (31 + w) w h (omega arith)

-- every digit of a word begins inside it
pub top_place : (w t : ℕ) → 0 < w → t < split_count w → w * t < 32
unfolding split_count
top_place w t h l =
    let m : w * (t + 1) ≤ w * ((31 + w) / w) = mul-le-mul_left w (omega arith) in
    omega (arith, m)

pub place_few : (w t : ℕ) → 0 < w → t < split_count w → t < 32
place_few w t h l =
    let m : 1 * t ≤ w * t = mul-le-mul_right t h in
    omega (arith, m, top_place w t h l)
