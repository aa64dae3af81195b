-- What stripping leaves of a row of digits times a ciphertext.
use Rattle.std.proofs.Common.{◌≡◌, ℕ, zero, suc, ◌+◌, ◌*◌, ◌/◌, ◌%◌, ◌^◌, ◌<◌, ◌≤◌, ◌==◌, Bool, true, false, if◌then◌else◌, arith, ap, ◌∙◌, sym, refl, List, length, ℤ, pos, negsuc, ◌+ℤ◌, ◌-ℤ◌, ◌*ℤ◌}
use Rattle.std.proofs.lemmas.Int.{ints}
use Rattle.std.proofs.lemmas.Nat.{mul-mod_second}
use borrow.Author.Differences.{up, down}
use Rattle.std.specs.Prelude.{slice_index, slice_index_or}
use Rattle.matrix_u32.specs.Sum.{sum_below, residue, dot}
use Rattle.matrix_u32.specs.Matrix.{WordMatrix, entry, row, product, times_vector, vector_times}
use Rattle.matrix_u32.proofs.Sums.{sum_add, sum_congruent, sum_one}
use Rattle.matrix_u32.proofs.Remainders.{times_same}
use Rattle.matrix_u32.proofs.Products.{dot-with-list_of, dot-times_vector, at-list_of, length-list_of, row-product}
use Rattle.noise_table.specs.Margin.{delta, signed_sum_below, noise_sum, IsQuiet}
use Rattle.regev_core.specs.Encryption.{cipher, stripped, nearest}
use Rattle.regev_core.proofs.Rounding.{residue-shift, nearest_of}

-- ---- a sum of x e, as a sum of what is added and one of what is taken away
term_split : (a : ℕ) (e : ℤ) → pos a *ℤ e +ℤ pos (a * down e) ≡ pos (a * up e)
term_split a (pos b) = omega (arith, ints)
term_split a (negsuc b) = omega (arith, ints)

noise_split : (n : ℕ) (x : ℕ → ℕ) (e : ℕ → ℤ) → signed_sum_below n (λ j. pos (x j) *ℤ e j) +ℤ pos (sum_below n (λ j. x j * down (e j)))
    ≡ pos (sum_below n (λ j. x j * up (e j)))
unfolding signed_sum_below sum_below
noise_split zero x e = refl
noise_split (suc n) x e = omega (arith, ints, noise_split n x e, term_split (x n) (e n))

residue-up : (z : ℤ) → (residue z + down z) % 2 ^ 32 ≡ up z % 2 ^ 32
residue-up z = residue-shift z (down z) (up z) (omega (arith, ints))

residues : (n : ℕ) (x : ℕ → ℕ) (e : ℕ → ℤ) → (sum_below n (λ j. x j * residue (e j)) + sum_below n (λ j. x j * down (e j))) % 2 ^ 32
    ≡ sum_below n (λ j. x j * up (e j)) % 2 ^ 32
residues n x e =
    ap (λ t. t % 2 ^ 32) (sym (sum_add n (λ j. x j * residue (e j)) (λ j. x j * down (e j))))
    ∙ sum_congruent n _ (λ j. x j * up (e j)) (λ j _.
    let apart : x j * residue (e j) + x j * down (e j) ≡ x j * (residue (e j) + down (e j)) = omega arith in
    ap (λ t. t % 2 ^ 32) apart ∙ times_same (x j) (residue (e j) + down (e j)) (up (e j)) (residue-up (e j)))

-- ---- the products of a row of digits with a ciphertext
times_if : (b : Bool) (a v : ℕ) → a * (if b then v else 0) ≡ (if b then a * v else 0)
times_if true a v = refl
times_if false a v = omega arith

pub dot-cipher : (w : ℕ) (a : WordMatrix) (s : List ℕ) (e : List ℤ) (place : ℕ) (x : List ℕ) → length x ≡ a.rows → place < a.rows →
    dot x (cipher w a s e place)
    ≡ (dot x (times_vector a s) + sum_below a.rows (λ j. slice_index x j * residue (slice_index_or e j (pos 0))) + slice_index x place * delta w) % 2 ^ 32
dot-cipher w a s e place x l p =
    let y = λ (j : ℕ). slice_index x j in
    let m = λ (j : ℕ). dot (row a j) s in
    let r = λ (j : ℕ). residue (slice_index_or e j (pos 0)) in
    let t = λ (j : ℕ). if j == place then y j * delta w else 0 in
    let sums : sum_below a.rows (λ j. y j * m j + y j * r j + t j) ≡ sum_below a.rows (λ j. y j * m j) + sum_below a.rows (λ j. y j * r j) + y place * delta w =
    sum_add a.rows (λ j. y j * m j + y j * r j) t
    ∙ ap (λ k. k + sum_below a.rows t) (sum_add a.rows (λ j. y j * m j) (λ j. y j * r j))
    ∙ ap (λ k. sum_below a.rows (λ j. y j * m j) + sum_below a.rows (λ j. y j * r j) + k) (sum_one a.rows place (λ j. y j * delta w) p) in
    let first : dot x (times_vector a s) ≡ sum_below a.rows (λ j. y j * m j) % 2 ^ 32 = dot-with-list_of x a.rows m l in
    let whole : dot x (cipher w a s e place) ≡ sum_below a.rows (λ j. y j * m j + y j * r j + t j) % 2 ^ 32 =
    dot-with-list_of x a.rows (λ j. (m j + r j + (if j == place then delta w else 0)) % 2 ^ 32) l
    ∙ sum_congruent a.rows _ (λ j. y j * m j + y j * r j + t j) (λ j _.
    let apart : y j * (m j + r j + (if j == place then delta w else 0)) ≡ y j * m j + y j * r j + t j = omega (arith, times_if (j == place) (y j) (delta w)) in
    mul-mod_second (y j) (m j + r j + (if j == place then delta w else 0)) (2 ^ 32) ∙ ap (λ k. k % 2 ^ 32) apart) in
    omega (arith, sums, first, whole)

pub quiet_row : (w : ℕ) (a : WordMatrix) (s : List ℕ) (e : List ℤ) (place : ℕ) (x : List ℕ) →
    w < 32 → length x ≡ a.rows → place < a.rows → slice_index x place < 2 ^ w → IsQuiet w x e →
    nearest w (stripped (dot x (cipher w a s e place)) (vector_times x a) s) ≡ slice_index x place
quiet_row w a s e place x h l p d q =
    let y = λ (j : ℕ). slice_index x j in
    let f = λ (j : ℕ). slice_index_or e j (pos 0) in
    let u : ℕ = sum_below a.rows (λ j. y j * up (f j)) in
    let n : ℕ = sum_below a.rows (λ j. y j * down (f j)) in
    let noise : noise_sum x e +ℤ pos n ≡ pos u = ap (λ k. signed_sum_below k (λ j. pos (y j) *ℤ f j) +ℤ pos n) l ∙ noise_split a.rows y f in
    let shift : (stripped (dot x (cipher w a s e place)) (vector_times x a) s + dot (vector_times x a) s) % 2 ^ 32 ≡ dot x (cipher w a s e place) % 2 ^ 32 =
    residue-shift (pos (dot x (cipher w a s e place)) -ℤ pos (dot (vector_times x a) s)) _ _ (omega (arith, ints)) in
    let same : (stripped (dot x (cipher w a s e place)) (vector_times x a) s + n) % 2 ^ 32 ≡ (u + delta w * y place) % 2 ^ 32 =
    omega (arith, shift, dot-cipher w a s e place x l p, dot-times_vector x a s l, residues a.rows y f) in
    let above : u < n + delta w / 2 = omega (arith, ints, noise, q) in
    let below : n ≤ u + delta w / 2 = omega (arith, ints, noise, q) in
    nearest_of w _ u n (y place) h d same above below

-- a quiet row of a matrix: what is read in that row is its entry in the column
pub quiet_matrix_row : (w : ℕ) (m a : WordMatrix) (s : List ℕ) (e : List ℤ) (r place : ℕ) →
    w < 32 → r < m.rows → m.cols ≡ a.rows → place < a.rows → entry m r place < 2 ^ w → IsQuiet w (row m r) e →
    nearest w (stripped (slice_index (times_vector m (cipher w a s e place)) r) (row (product m a) r) s) ≡ entry m r place
quiet_matrix_row w m a s e r place h p c q d i =
    let at : slice_index (row m r) place ≡ entry m r place = at-list_of m.cols (λ j. entry m r j) place (omega arith) in
    ap (λ y. nearest w (stripped y (row (product m a) r) s)) (at-list_of m.rows (λ k. dot (row m k) (cipher w a s e place)) r p)
    ∙ ap (λ h. nearest w (stripped (dot (row m r) (cipher w a s e place)) h s)) (row-product m a r p)
    ∙ quiet_row w a s e place (row m r) h (length-list_of m.cols (λ j. entry m r j) ∙ c) q (omega (arith, at)) i
    ∙ at
