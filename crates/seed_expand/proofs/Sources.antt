-- Sources that are read on, and what they give.
use Rattle.std.proofs.Common.{◌≡◌, ℕ, ◌+◌, ◌*◌, ◌/◌, ◌%◌, ◌^◌, ◌<◌, List, arith, ap, ◌∙◌, sym, refl}
use Rattle.rand_chacha.specs.ChaCha.{ChaCha, word_at, key_of}
use Rattle.matrix_u32.specs.Sum.{list_of}
use Rattle.matrix_u32.specs.Matrix.{row}
use Rattle.matrix_u32.proofs.Products.{same-list_of, row-matrix_of}
use Rattle.seed_expand.specs.Words.{word, word_here, source_word, source_at, words_from, further, source_rows, public_rows}

-- to read on twice is to read on once, by both counts
pub further-further : (source : ChaCha) (first then : ℕ) → further (further source first) then ≡ further source (first + then)
further-further source first then =
    let place : ((source.word_pos + first) % 2 ^ 68 + then) % 2 ^ 68 ≡ (source.word_pos + (first + then)) % 2 ^ 68 = omega arith in
    ap (λ (p : ℕ). record { key = source.key; stream = source.stream; word_pos = p }) place

-- after its last place a stream begins anew
pub word-past_end : (seed : List ℕ) (stream place : ℕ) → word seed stream (place + 2 ^ 68) ≡ word seed stream place
unfolding word
word-past_end seed stream place =
    let same : (place + 2 ^ 68) % 2 ^ 68 ≡ place % 2 ^ 68 = omega arith in
    ap (word_at 10 (key_of seed) stream) same

-- a source gives the words of its seed and stream from its place on
pub source_word-source_at : (seed : List ℕ) (stream place k : ℕ) → source_word (source_at seed stream place) k ≡ word seed stream (place + k)
unfolding word word_here
source_word-source_at seed stream place k = refl

-- the same of a list of words
pub words-source_at : (seed : List ℕ) (stream place count : ℕ) → list_of count (source_word (source_at seed stream place)) ≡ words_from seed stream place count
words-source_at seed stream place count =
    same-list_of count _ (λ k. word seed stream (place + k)) (λ k _. source_word-source_at seed stream place k)

-- the rows of a source at the start of a stream are those of its public matrix
pub rows-source_at : (seed : List ℕ) (stream rows n : ℕ) → source_rows (source_at seed stream 0) rows n ≡ public_rows seed stream 0 rows n
rows-source_at seed stream rows n =
    let at : (i j : ℕ) → source_word (source_at seed stream 0) (i * n + j) ≡ word seed stream ((0 + i) * n + j) = λ i j.
    let first : 0 + i ≡ i = omega arith in
    source_word-source_at seed stream 0 (i * n + j) ∙ ap (word seed stream) (omega (arith, ap (λ x. x * n) first)) in
    ap (λ (words : List ℕ). record { rows = rows; cols = n; words = words }) (same-list_of (rows * n) _ _ (λ k _. at (k / n) (k % n)))

-- what a source gives once it has given i rows is row i
pub row-source_rows : (source : ChaCha) (rows n i : ℕ) → i < rows → list_of n (source_word (further source (i * n))) ≡ row (source_rows source rows n) i
row-source_rows source rows n i inside =
    same-list_of n _ (λ j. source_word source (i * n + j)) (λ k _. ap word_here (further-further source (i * n) k))
    ∙ sym (row-matrix_of rows n (λ i j. source_word source (i * n + j)) i inside)
