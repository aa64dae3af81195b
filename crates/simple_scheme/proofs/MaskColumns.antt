-- Masks, and the queries that are made of them.
use Rattle.std.proofs.Common.{◌≡◌, ℕ, ◌+◌, ◌*◌, ◌<◌, ◌∙◌, ap, sym, List}
use Rattle.std.specs.Prelude.{slice_index}
use Rattle.matrix_u32.specs.Sum.{list_of, dot}
use Rattle.matrix_u32.specs.Matrix.{WordMatrix, entry, row, column, times_vector}
use Rattle.matrix_u32.proofs.Products.{dot_comm, length-list_of, list_of-at, same-list_of, row-matrix_of, column-matrix_of}
use Rattle.matrix_u32.proofs.Changes.{same-matrix_of}
use Rattle.seed_expand.specs.Words.{word}
use Rattle.regev_core.specs.Encryption.{with_noise}
use Rattle.regev_core.proofs.Masking.{noise_on_products}
use Rattle.digit_pack.specs.Layout.{Shape, column_of}
use Rattle.simple_scheme.specs.Simple.{secret, query_noise, simple_query}
use Rattle.simple_scheme.specs.Masks.{secrets_of, masks_of, row_products}

-- the secret in a row of several
pub row-secrets_of : (seed : List ℕ) (first count n c : ℕ) → c < count → row (secrets_of seed first count n) c ≡ secret seed (first + c) n
row-secrets_of seed first count n c inside =
    row-matrix_of count n (λ c k. slice_index (secret seed (first + c) n) k) c inside
    ∙ list_of-at (secret seed (first + c) n) n (length-list_of n (λ k. word seed (4 * (first + c)) (0 + k)))

-- the products of each row with one row of the other matrix
pub row-row_products : (a b : WordMatrix) (j : ℕ) (words : List ℕ) → a.cols ≡ b.cols → j < a.rows → words ≡ row a j →
    times_vector b words ≡ row (row_products a b) j
row-row_products a b j words wide inside is =
    ap (times_vector b) is
    ∙ same-list_of b.rows _ (λ c. dot (row a j) (row b c)) (λ c h.
    ap (λ n. dot (row b c) (list_of n (λ k. entry a j k))) wide
    ∙ dot_comm b.cols (λ k. entry b c k) (λ k. entry a j k)
    ∙ ap (λ n. dot (list_of n (λ k. entry a j k)) (row b c)) (sym wide))
    ∙ sym (row-matrix_of a.rows b.rows (λ j c. dot (row a j) (row b c)) j inside)

-- the products with several secrets are masks
pub masks_are : (a : WordMatrix) (seed : List ℕ) (first count n : ℕ) → n ≡ a.cols →
    row_products a (secrets_of seed first count n) ≡ masks_of a seed first count
unfolding masks_of
masks_are a seed first count n wide =
    same-matrix_of a.rows count (λ j c. dot (row a j) (row (secrets_of seed first count n) c)) (λ j c. dot (row a j) (secret seed (first + c) a.cols))
    (λ j c _ h. ap (dot (row a j)) (row-secrets_of seed first count n c h ∙ ap (secret seed (first + c)) wide))

-- how many rows and columns masks have
pub masks-rows : (a m : WordMatrix) (seed : List ℕ) (first count : ℕ) → m ≡ masks_of a seed first count → m.rows ≡ a.rows
unfolding masks_of
masks-rows a m seed first count is = ap (λ (x : WordMatrix). x.rows) is

pub masks-cols : (a m : WordMatrix) (seed : List ℕ) (first count : ℕ) → m ≡ masks_of a seed first count → m.cols ≡ count
unfolding masks_of
masks-cols a m seed first count is = ap (λ (x : WordMatrix). x.cols) is

-- a column of masks is the products with one secret
pub column-masks_of : (a : WordMatrix) (seed : List ℕ) (first count c : ℕ) → c < count →
    column (masks_of a seed first count) c ≡ times_vector a (secret seed (first + c) a.cols)
unfolding masks_of
column-masks_of a seed first count c inside =
    column-matrix_of a.rows count (λ j c. dot (row a j) (secret seed (first + c) a.cols)) c inside

-- with its noise and the record's column it is the query
pub masked_query : (l : Shape) (a : WordMatrix) (seed : List ℕ) (first count c number i : ℕ) → c < count → number ≡ first + c →
    with_noise l.width (column (masks_of a seed first count) c) (query_noise seed number a.rows) (column_of l i) ≡ simple_query l a seed number i
unfolding simple_query
masked_query l a seed first count c number i inside is =
    ap (λ words. with_noise l.width words (query_noise seed number a.rows) (column_of l i))
    (column-masks_of a seed first count c inside ∙ ap (λ k. times_vector a (secret seed k a.cols)) (sym is))
    ∙ noise_on_products l.width a (secret seed number a.cols) (query_noise seed number a.rows) (column_of l i)
