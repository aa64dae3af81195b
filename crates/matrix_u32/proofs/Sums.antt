-- Laws of sums of whole numbers.
use Rattle.std.proofs.Common.{◌≡◌, ℕ, zero, suc, ◌+◌, ◌-◌, ◌*◌, ◌%◌, ◌^◌, ◌<◌, ◌≤◌, ◌≢◌, nat_eq, if◌then◌else◌, arith, ap, ◌∙◌, sym, refl}
use Rattle.std.proofs.Common.{⊎_elim, add-one, add-suc, add-zero}
use Rattle.std.proofs.lemmas.Bool.{cases_eq}
use Rattle.std.proofs.lemmas.Bool.Decides.{nat_tests}
use Rattle.matrix_u32.specs.Sum.{sum_below}

pub sum_below_more : (n : ℕ) (f : ℕ → ℕ) → sum_below (n + 1) f ≡ sum_below n f + f n
unfolding sum_below
sum_below_more n f = rw add-one refl

pub sum_below_none : (f : ℕ → ℕ) → sum_below 0 f ≡ 0
unfolding sum_below
sum_below_none f = refl

pub sum_same : (n : ℕ) (f g : ℕ → ℕ) → ((k : ℕ) → k < n → f k ≡ g k) → sum_below n f ≡ sum_below n g
unfolding sum_below
sum_same zero f g h = refl
sum_same (suc n) f g h = omega (arith, sum_same n f g (λ k l. h k (omega arith)), h n (omega arith))

pub sum_add : (n : ℕ) (f g : ℕ → ℕ) → sum_below n (λ k. f k + g k) ≡ sum_below n f + sum_below n g
unfolding sum_below
sum_add zero f g = refl
sum_add (suc n) f g = omega (arith, sum_add n f g)

pub sum_scale : (n a : ℕ) (f : ℕ → ℕ) → sum_below n (λ k. a * f k) ≡ a * sum_below n f
unfolding sum_below
sum_scale zero a f = omega arith
sum_scale (suc n) a f = omega (arith, sum_scale n a f)

pub sum_zero : (n : ℕ) → sum_below n (λ _. 0) ≡ 0
unfolding sum_below
sum_zero zero = refl
sum_zero (suc n) = omega (arith, sum_zero n)

pub sum_swap : (n m : ℕ) (f : ℕ → ℕ → ℕ) → sum_below n (λ i. sum_below m (λ j. f i j)) ≡ sum_below m (λ j. sum_below n (λ i. f i j))
unfolding sum_below
sum_swap zero m f = sym (sum_zero m)
sum_swap (suc n) m f = omega (arith, sum_swap n m f, sum_add m (λ j. sum_below n (λ i. f i j)) (λ j. f n j))

-- equal sums modulo 2 ^ 32
pub sum_congruent : (n : ℕ) (f g : ℕ → ℕ) → ((k : ℕ) → k < n → f k % 2 ^ 32 ≡ g k % 2 ^ 32) → sum_below n f % 2 ^ 32 ≡ sum_below n g % 2 ^ 32
unfolding sum_below
sum_congruent zero f g h = refl
sum_congruent (suc n) f g h = omega (arith, sum_congruent n f g (λ k l. h k (omega arith)), h n (omega arith))

pub sum_le : (n b : ℕ) (f : ℕ → ℕ) → ((k : ℕ) → k < n → f k ≤ b) → sum_below n f ≤ n * b
unfolding sum_below
sum_le zero b f h = omega arith
sum_le (suc n) b f h = omega (arith, sum_le n b f (λ k l. h k (omega arith)), h n (omega arith))

pub sum_scale_right : (n c : ℕ) (f : ℕ → ℕ) → sum_below n (λ k. f k * c) ≡ sum_below n f * c
unfolding sum_below
sum_scale_right zero c f = omega arith
sum_scale_right (suc n) c f = omega (arith, sum_scale_right n c f)

-- a sum whose terms vanish but at one place
pub at_place : (k place v : ℕ) → k ≡ place → (if nat_eq k place then v else 0) ≡ v
at_place k place v e = grind (arith, nat_tests)

pub off_place : (k place v : ℕ) → k ≢ place → (if nat_eq k place then v else 0) ≡ 0
off_place k place v e = grind (arith, nat_tests)

pub sum_none : (n place : ℕ) (f : ℕ → ℕ) → n ≤ place → sum_below n (λ k. if nat_eq k place then f k else 0) ≡ 0
unfolding sum_below
sum_none zero place f h = refl
sum_none (suc n) place f h = omega (arith, sum_none n place f (omega arith), off_place n place (f n) (omega arith))

pub sum_one : (n place : ℕ) (f : ℕ → ℕ) → place < n → sum_below n (λ k. if nat_eq k place then f k else 0) ≡ f place
unfolding sum_below
sum_one zero place f h = absurd (omega arith)
sum_one (suc n) place f h =
    ⊎_elim
    (λ e. omega (arith, sum_none n place f (omega arith), at_place n place (f n) e, ap f e))
    (λ d. omega (arith, sum_one n place f (omega arith), off_place n place (f n) d))
    (cases_eq n place)

-- a sum in two parts
pub sum_below-add : (a b : ℕ) (f : ℕ → ℕ) → sum_below (a + b) f ≡ sum_below a f + sum_below b (λ k. f (a + k))
unfolding sum_below
sum_below-add a zero f = rw (add-zero a) (omega arith)
sum_below-add a (suc b) f =
    rw add-suc (let e = sum_below-add a b f in omega (arith, e))

-- the first term apart
pub sum_below-prefix : (n : ℕ) (f : ℕ → ℕ) → sum_below (suc n) f ≡ f 0 + sum_below n (λ k. f (suc k))
unfolding sum_below
sum_below-prefix zero f = omega arith
sum_below-prefix (suc n) f = let e = sum_below-prefix n f in omega (arith, e)

-- a sum whose terms vanish past a place
pub sum_prefix : (m n : ℕ) (f : ℕ → ℕ) → m ≤ n → ((k : ℕ) → m ≤ k → k < n → f k ≡ 0) → sum_below n f ≡ sum_below m f
sum_prefix m n f le none =
    let all : m + (n - m) ≡ n = omega arith in
    let rest : sum_below (n - m) (λ k. f (m + k)) ≡ 0 =
    sum_same (n - m) (λ k. f (m + k)) (λ _. 0) (λ k l. none (m + k) (omega arith) (omega arith)) ∙ sum_zero (n - m) in
    ap (λ c. sum_below c f) (sym all) ∙ sum_below-add m (n - m) f ∙ omega (arith, rest)
