-- Products with the secrets of parts.
use Rattle.std.proofs.Common.{◌≡◌, ℕ, ap, ◌∙◌, sym}
use Rattle.matrix_u32.specs.Sum.{list_of, dot}
use Rattle.matrix_u32.specs.Matrix.{WordMatrix, entry, row}
use Rattle.matrix_u32.proofs.Products.{dot_comm}

-- rows of equal length, multiplied either way
pub dot_rows : (s a : WordMatrix) (d r : ℕ) → a.cols ≡ s.cols → dot (row s d) (row a r) ≡ dot (row a r) (row s d)
dot_rows s a d r wide =
    let across : row a r ≡ list_of s.cols (λ j. entry a r j) = ap (λ n. list_of n (λ j. entry a r j)) wide in
    ap (λ x. dot (row s d) x) across ∙ dot_comm s.cols (λ j. entry s d j) (λ j. entry a r j) ∙ ap (λ x. dot x (row s d)) (sym across)
