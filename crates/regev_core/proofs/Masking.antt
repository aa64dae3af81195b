-- Products of a matrix and a secret with noise are an encryption.
use Rattle.std.proofs.Common.{◌≡◌, ℕ, ◌+◌, ◌%◌, ◌^◌, ◌<◌, ◌==◌, if◌then◌else◌, ap, ◌∙◌, List, ℤ, pos, length}
use Rattle.std.specs.Prelude.{slice_index, slice_index_or}
use Rattle.matrix_u32.specs.Sum.{list_of, dot, residue}
use Rattle.matrix_u32.specs.Matrix.{WordMatrix, row, times_vector}
use Rattle.matrix_u32.proofs.Products.{at-list_of, same-list_of, length-list_of}
use Rattle.noise_table.specs.Margin.{delta}
use Rattle.regev_core.specs.Encryption.{cipher, with_noise}

pub noise_on_products : (w : ℕ) (a : WordMatrix) (s : List ℕ) (e : List ℤ) (place : ℕ) →
    with_noise w (times_vector a s) e place ≡ cipher w a s e place
noise_on_products w a s e place =
    let noisy : ℕ → ℕ → ℕ = λ j word. (word + residue (slice_index_or e j (pos 0)) + (if j == place then delta w else 0)) % 2 ^ 32 in
    ap (λ n. list_of n (λ j. noisy j (slice_index (times_vector a s) j))) (length-list_of a.rows (λ i. dot (row a i) s))
    ∙ same-list_of a.rows _ (λ j. noisy j (dot (row a j) s)) (λ k l. ap (noisy k) (at-list_of a.rows (λ i. dot (row a i) s) k l))
