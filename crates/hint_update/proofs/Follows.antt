-- Products after a change of one word of the left matrix.
use Rattle.std.proofs.Common.{◌≡◌, ℕ, ◌+◌, ◌-◌, ◌*◌, ◌%◌, ◌^◌, ◌<◌, ◌≤◌, ◌==◌, if◌then◌else◌, arith, ap, ◌∙◌, sym, ⊎_elim, List, length}
use Rattle.std.proofs.lemmas.Nat.{mul-mod_first}
use Rattle.std.proofs.lemmas.Bool.{cases_eq}
use Rattle.std.specs.Prelude.{slice_index}
use Rattle.matrix_u32.specs.Sum.{dot}
use Rattle.matrix_u32.specs.Matrix.{WordMatrix, IsWhole, entry, row, column, product, with_entry, with_row, plus_scaled}
use Rattle.matrix_u32.specs.Laws.{RowChange}
use Rattle.matrix_u32.proofs.Changes.{row_change, same-matrix_of}
use Rattle.matrix_u32.proofs.Products.{entry-product, at-list_of}
use Rattle.matrix_u32.proofs.Rows.{if_here, if_elsewhere, row_index, length-row, with_row-same}

-- a difference that was reduced
pub reduced : (e m y : ℕ) → (e + (m % 2 ^ 32) * y) % 2 ^ 32 ≡ (e + m * y) % 2 ^ 32
reduced e m y = omega (arith, mul-mod_first m y (2 ^ 32))

-- row i with the difference times row j of a added
pub row_follows : (d a : WordMatrix) (i j old new k : ℕ) → IsWhole d → d.cols ≤ a.rows → i < d.rows → j < d.cols → entry d i j ≡ old → old < 2 ^ 32 →
    k ≡ (new + (2 ^ 32 - old)) % 2 ^ 32 → with_row (product d a) i (plus_scaled (row (product d a) i) (row a j) k) ≡ product (with_entry d i j new) a
row_follows d a i j old new k whole e p q is small ke =
    let change : RowChange d a i j new = row_change d a i j new whole e p q (omega arith) in
    let more : List ℕ = plus_scaled (row (product d a) i) (row a j) k in
    same-matrix_of d.rows a.cols (λ r c. if r == i then slice_index more c else entry (product d a) r c)
    (λ r c. dot (row (with_entry d i j new) r) (column a c)) (λ r c l m.
    let here : slice_index more c ≡ (entry (product d a) i c + k * entry a j c) % 2 ^ 32 =
    at-list_of (length (row (product d a) i)) (λ c. (slice_index (row (product d a) i) c + k * slice_index (row a j) c) % 2 ^ 32) c
    (omega (arith, m, length-row (product d a) i))
    ∙ ap (λ y. (y + k * slice_index (row a j) c) % 2 ^ 32) (row_index (product d a) i c m)
    ∙ ap (λ y. (entry (product d a) i c + k * y) % 2 ^ 32) (row_index a j c m) in
    let times : k * entry a j c ≡ (new + (2 ^ 32 - entry d i j)) % 2 ^ 32 * entry a j c =
    ap (λ y. y * entry a j c) (ke ∙ ap (λ y. (new + (2 ^ 32 - y)) % 2 ^ 32) (sym is)) in
    ⊎_elim
    (λ same.
    if_here r i (slice_index more c) (entry (product d a) r c) same
    ∙ here
    ∙ ap (λ y. (entry (product d a) i c + y) % 2 ^ 32) times
    ∙ reduced (entry (product d a) i c) (new + (2 ^ 32 - entry d i j)) (entry a j c)
    ∙ sym (change.same_row c m)
    ∙ ap (λ r. entry (product (with_entry d i j new) a) r c) (sym same))
    (λ apart.
    if_elsewhere r i (slice_index more c) (entry (product d a) r c) apart
    ∙ sym (change.other_rows r c l apart m))
    (cases_eq r i)
    ∙ entry-product (with_entry d i j new) a r c l m)

-- a replaced row leaves the other rows
pub replaced_row_alone : (m : WordMatrix) (i : ℕ) (words : List ℕ) → i < m.rows → with_row m i words ≡ with_row m i (row (with_row m i words) i)
replaced_row_alone m i words inside =
    same-matrix_of m.rows m.cols (λ r j. if r == i then slice_index words j else entry m r j)
    (λ r j. if r == i then slice_index (row (with_row m i words) i) j else entry m r j) (λ r j p q.
    ⊎_elim
    (λ e.
    if_here r i (slice_index words j) (entry m r j) e
    ∙ sym (row_index (with_row m i words) i j q ∙ with_row-same m i j words inside q)
    ∙ sym (if_here r i (slice_index (row (with_row m i words) i) j) (entry m r j) e))
    (λ d. if_elsewhere r i (slice_index words j) (entry m r j) d ∙ sym (if_elsewhere r i (slice_index (row (with_row m i words) i) j) (entry m r j) d))
    (cases_eq r i))
