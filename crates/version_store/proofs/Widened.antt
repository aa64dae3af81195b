-- Digits with further columns of zeros, and the hints that are made from them.
use Rattle.std.proofs.Common.{◌≡◌, ℕ, ◌<◌, ◌≤◌, if◌then◌else◌, arith, ap, ◌∙◌, sym, List, length}
use Rattle.std.specs.Prelude.{max, nat_lt}
use Rattle.std.proofs.lemmas.Bool.Decides.{nat_tests}
use Rattle.matrix_u32.specs.Sum.{list_of}
use Rattle.matrix_u32.specs.Matrix.{WordMatrix, entry, entry_or_zero, row, widened, product, vector_times}
use Rattle.matrix_u32.proofs.Products.{same-list_of, row-matrix_of, row-product}
use Rattle.matrix_u32.proofs.Growth.{product-widened, product-first_rows}
use Rattle.seed_expand.specs.Words.{public_rows}
use Rattle.seed_expand.proofs.PublicRows.{rows-alone}
use Rattle.digit_pack.specs.Layout.{digit_rows, digit_cols}
use Rattle.pir_schemes.specs.declared.scheme.Scheme.TheVariants.{Simple}
use Rattle.pir_schemes.specs.declared.plan.Plan.{Plan}
use Rattle.pir_schemes.specs.Plans.{shape_at, digits_at}
use Rattle.pir_schemes.specs.Retrievals.{hint_matrix}
use Rattle.simple_scheme.specs.Simple.{hint_of}
use Rattle.version_store.specs.Deltas.{padded_row}

-- a column that there is, and one that there isn't
pub within : (a : WordMatrix) (i j : ℕ) → j < a.cols → entry_or_zero a i j ≡ entry a i j
within a i j lt = by (entry a i j) lt
  where
    by : (v : ℕ) → j < a.cols → (if nat_lt j a.cols then v else 0) ≡ v
    by v lt = grind (arith, nat_tests)

pub past : (a : WordMatrix) (i j : ℕ) → a.cols ≤ j → entry_or_zero a i j ≡ 0
past a i j le = by (entry a i j) le
  where
    by : (v : ℕ) → a.cols ≤ j → (if nat_lt j a.cols then v else 0) ≡ 0
    by v le = grind (arith, nat_tests)

-- with as many columns as before a row is the same
pub same_wide : (a : WordMatrix) (m r : ℕ) → a.cols ≡ m → r < a.rows → row (widened a m) r ≡ row a r
same_wide a m r e lt =
    row-matrix_of a.rows m (entry_or_zero a) r lt
    ∙ ap (λ (n : ℕ). list_of n (entry_or_zero a r)) (sym e)
    ∙ same-list_of a.cols (entry_or_zero a r) (λ j. entry a r j) (λ j inside. within a r j inside)

-- two rows of two matrices with as many columns
pub wide_rows : (old new : WordMatrix) (r : ℕ) → new.cols ≡ old.cols → r < old.rows → r < new.rows →
    (padded_row old new old r ≡ row old r) × (padded_row old new new r ≡ row new r)
wide_rows old new r e low high =
    (same_wide old (max old.cols new.cols) r (omega (arith, e)) low, same_wide new (max old.cols new.cols) r (omega (arith, e)) high)

-- a hint is made from digits with further columns of zeros, too
pub hint_wide : (p : Plan) (records : List (List ℕ)) (m : ℕ) → digit_cols (shape_at p (length records)) ≤ m →
    hint_matrix Simple p records ≡ product (widened (digits_at p records) m) (public_rows p.seed 0 0 m p.dimension)
unfolding hint_matrix hint_of
hint_wide p records m le =
    let d : WordMatrix = digits_at p records in
    let public : WordMatrix = public_rows p.seed 0 0 m p.dimension in
    ap (product d) (sym (rows-alone p.seed 0 0 m d.cols p.dimension le))
    ∙ sym (product-first_rows d public d.cols (omega arith) le)
    ∙ sym (product-widened d public m le)

-- from a public matrix with further rows comes the same hint
pub hint_spare : (p : Plan) (records : List (List ℕ)) (a1 : WordMatrix) → a1 ≡ public_rows p.seed 0 0 a1.rows p.dimension →
    digit_cols (shape_at p (length records)) ≤ a1.rows → hint_matrix Simple p records ≡ product (digits_at p records) a1
hint_spare p records a1 public le =
    hint_wide p records a1.rows le
    ∙ product-widened (digits_at p records) (public_rows p.seed 0 0 a1.rows p.dimension) a1.rows le
    ∙ ap (product (digits_at p records)) (sym public)

-- a row of digits that is the same has the same row of the hint
pub same_hint_row : (p : Plan) (a b : List (List ℕ)) (r : ℕ) → r < digit_rows (shape_at p (length b)) →
    padded_row (digits_at p a) (digits_at p b) (digits_at p a) r ≡ padded_row (digits_at p a) (digits_at p b) (digits_at p b) r →
    row (hint_matrix Simple p a) r ≡ row (hint_matrix Simple p b) r
same_hint_row p a b r below e =
    let d : List (List ℕ) → WordMatrix = digits_at p in
    let m : ℕ = max (d a).cols (d b).cols in
    let public : WordMatrix = public_rows p.seed 0 0 m p.dimension in
    ap (λ (h : WordMatrix). row h r) (hint_wide p a m (omega arith)) ∙ row-product (widened (d a) m) public r below
    ∙ ap (λ (x : List ℕ). vector_times x public) e
    ∙ sym (ap (λ (h : WordMatrix). row h r) (hint_wide p b m (omega arith)) ∙ row-product (widened (d b) m) public r below)
