-- Laws of words and of sources.
use Rattle.std.specs.Prelude.{◌≡◌, ℕ, ◌+◌, ◌-◌, ◌^◌, ◌<◌, ◌≤◌, List}
use Rattle.rand_chacha.specs.ChaCha.{ChaCha}
use Rattle.matrix_u32.specs.Matrix.{with_rows, first_rows}
use Rattle.seed_expand.specs.Words.{word, source_at, further, source_word, public_rows, source_rows}

-- a source gives the words of its seed and stream from its place on
abbrev pub SourceGivesWords : Type 0
SourceGivesWords = (seed : List ℕ) (stream place k : ℕ) → source_word (source_at seed stream place) k ≡ word seed stream (place + k)

-- a source at the start of a stream gives the rows of its public matrix
abbrev pub SourceGivesRows : Type 0
SourceGivesRows = (seed : List ℕ) (stream rows n : ℕ) → source_rows (source_at seed stream 0) rows n ≡ public_rows seed stream 0 rows n

-- what reading on does
pub record PlacesRunOn : Type 0 where
  -- to read some words and then others is to read them all
  pub in_turn : (source : ChaCha) (first then : ℕ) → further (further source first) then ≡ further source (first + then)
  -- after its last place a stream begins anew
  pub anew : (seed : List ℕ) (stream : ℕ) → further (source_at seed stream (2 ^ 68 - 1)) 1 ≡ source_at seed stream 0
  pub words_anew : (seed : List ℕ) (stream place : ℕ) → word seed stream (place + 2 ^ 68) ≡ word seed stream place

-- what further rows of a public matrix are
pub record RowsRunOn : Type 0 where
  -- some rows and those after them are all of these rows
  pub in_turn : (seed : List ℕ) (stream first m k n : ℕ) → 0 < n →
      public_rows seed stream first (m + k) n ≡ with_rows (public_rows seed stream first m n) (public_rows seed stream (first + m) k n).words
  -- the first rows of more are these rows alone
  pub alone : (seed : List ℕ) (stream first m k n : ℕ) → k ≤ m →
      first_rows (public_rows seed stream first m n) k ≡ public_rows seed stream first k n
