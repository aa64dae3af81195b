-- The words that a seed gives.
use Rattle.std.specs.Prelude.{ℕ, ◌+◌, ◌*◌, ◌%◌, ◌^◌, List}
use Rattle.rand_chacha.specs.ChaCha.{ChaCha, word_at, key_of}
use Rattle.matrix_u32.specs.Sum.{list_of}
use Rattle.matrix_u32.specs.Matrix.{WordMatrix, matrix_of}

-- the word at a place of a seed's stream: of ChaCha20, which has ten double rounds, with the seed
-- as its key and the stream as its nonce; places run on modulo 2 ^ 68
unfoldable pub word : List ℕ → ℕ → ℕ → ℕ
word seed stream place = word_at 10 (key_of seed) stream (place % 2 ^ 68)

-- `count` words of a stream from a place on
abbrev pub words_from : List ℕ → ℕ → ℕ → ℕ → List ℕ
words_from seed stream first count = list_of count (λ k. word seed stream (first + k))

-- rows of the public matrix of a stream, which has n columns, from a row on: row i begins at place
-- i n
abbrev pub public_rows : List ℕ → ℕ → ℕ → ℕ → ℕ → WordMatrix
public_rows seed stream first_row rows n = matrix_of rows n (λ i j. word seed stream ((first_row + i) * n + j))

-- a source: the stream of a seed, read from a place on
abbrev pub source_at : List ℕ → ℕ → ℕ → ChaCha
source_at seed stream place = record { key = key_of seed; stream = stream; word_pos = place }

-- the source after that many of its words
abbrev pub further : ChaCha → ℕ → ChaCha
further source count = record source { word_pos = (source.word_pos + count) % 2 ^ 68 }

-- the word at a source's place
unfoldable pub word_here : ChaCha → ℕ
word_here source = word_at 10 source.key source.stream source.word_pos

-- the word that a source gives after that many others
abbrev pub source_word : ChaCha → ℕ → ℕ
source_word source count = word_here (further source count)

-- the matrix whose words a source gives, row by row
abbrev pub source_rows : ChaCha → ℕ → ℕ → WordMatrix
source_rows source rows n = matrix_of rows n (λ i j. source_word source (i * n + j))
