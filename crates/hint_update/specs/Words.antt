-- Changed rows that are taken by whole words: the digits of a word are below one another, the
-- lowest first.
use Rattle.std.specs.Prelude.{◌≡◌, ◌≢◌, ◌⊎◌, ℕ, ◌+◌, ◌-◌, ◌*◌, ◌/◌, ◌%◌, ◌^◌, ◌<◌, ◌≤◌, List, length, slice_index, min, nat_lt, if◌then◌else◌}
use Rattle.std.specs.Int.{trailing_zeros, w32}
use Rattle.matrix_u32.specs.Sum.{sum_below}
use Rattle.matrix_u32.specs.Matrix.{WordMatrix, entry}
use Rattle.digit_pack.specs.Digits.{recomposed_at}
use Rattle.hint_update.specs.declared.rows.RowsBuffers.{RowsBuffers}
use Rattle.hint_update.specs.declared.words.WordsBuffers.{WordsBuffers}

-- memory for words that change together, over so many rows of a public matrix with so many columns
pub record IsWordsBuffers (most cols : ℕ) (room : WordsBuffers) : Type 0 where
  pub digits : 1 < length room.weights.items
  pub lowest : slice_index room.weights.items 0 ≡ 2 ^ 32 - 1
  pub common : length room.common.items ≡ most
  pub combined : length room.combined.items ≡ cols
  pub few : room.higher.rows ≤ 4096
  pub higher_cols : room.higher.cols ≡ most
  pub products_rows : room.products.rows ≡ room.higher.rows
  pub products_cols : room.products.cols ≡ cols

-- memory for at most so many changed rows, over a public matrix with so many columns
pub record IsRowsBuffers (most cols : ℕ) (room : RowsBuffers) : Type 0 where
  pub public_rows : room.public.rows ≡ most
  pub public_cols : room.public.cols ≡ cols
  pub blocks : 0 < room.changes.rows
  pub changes : room.changes.cols ≡ most
  pub new_digits : length room.new_digits.items ≡ room.changes.rows
  pub old_digits : length room.old_digits.items ≡ room.changes.rows
  pub sums : length room.sums.items ≡ most
  pub words : IsWordsBuffers most cols room.words

-- the sum of the public rows, each times its number
abbrev pub HasCombined : WordMatrix → WordsBuffers → Type 0
HasCombined public room =
    (q : ℕ) → q < public.cols →
    slice_index room.combined.items q ≡ sum_below public.rows (λ k. slice_index room.common.items k * entry public k q) % 2 ^ 32

-- a word that changes by a multiple of a list: the changes of its digits, which begin in row i,
-- each times its negative weight, and the factor times the list give 0, in each of n listed rows
abbrev pub IsMultiple : List ℕ → WordMatrix → ℕ → ℕ → List ℕ → ℕ → Type 0
IsMultiple weights changes i n common factor =
    (k : ℕ) → k < n →
    (sum_below (length weights) (λ t. slice_index weights t * entry changes (i + t) k) + factor * slice_index common k) % 2 ^ 32 ≡ 0

-- so many rows that are those of whole words, with room for the higher digits
pub record AreWholeWords (count : ℕ) (room : WordsBuffers) : Type 0 where
  pub whole : count % length room.weights.items ≡ 0
  pub fit : count / length room.weights.items * (length room.weights.items - 1) ≤ room.higher.rows

-- among the digits of words of `step` digits each, the row of the h-th one that is not a lowest
-- digit
abbrev pub higher_row : ℕ → ℕ → ℕ
higher_row step h = h + h / (step - 1) + 1

-- the changes of higher digits beside one another
abbrev pub HasHigherRows : ℕ → WordMatrix → WordMatrix → Type 0
HasHigherRows step changes higher =
    (h k : ℕ) → h < higher.rows → higher_row step h < changes.rows → k < changes.cols → entry higher h k ≡ entry changes (higher_row step h) k

-- their products with the public rows
abbrev pub HasHigherProducts : ℕ → WordMatrix → WordMatrix → WordMatrix → Type 0
HasHigherProducts step changes public products =
    (h q : ℕ) → h < products.rows → higher_row step h < changes.rows → q < public.cols →
    entry products h q ≡ sum_below public.rows (λ k. entry changes (higher_row step h) k * entry public k q) % 2 ^ 32

-- a row of the client's hint before and after all public rows are added, each times its change in
-- row i
pub record IsRowAdded (old new : List ℕ) (changes public : WordMatrix) (i : ℕ) : Type 0 where
  pub count : length new ≡ length old
  pub added : (q : ℕ) → q < length old →
      slice_index new q ≡ (slice_index old q + sum_below public.rows (λ k. entry changes i k * entry public k q)) % 2 ^ 32

-- ---- the list that words are guessed to follow
-- of the k-th listed row, the change of a word: from the one whose digits the server's hint has to
-- the one of the hint; 0 past the listed rows
abbrev pub word_change : ℕ → WordMatrix → WordMatrix → List ℕ → ℕ → ℕ → ℕ
word_change w server hint listed word k =
    if nat_lt k (length listed)
    then (entry hint (slice_index listed k) word + (2 ^ 32 - recomposed_at w server word (slice_index listed k))) % 2 ^ 32
    else 0

-- the fewest zero bits at the end of one of so many numbers: 32 for 0, and if there is no number
pub record IsFewestZeros (count : ℕ) (number : ℕ → ℕ) (least : ℕ) : Type 0 where
  pub each : (k : ℕ) → k < count → least ≤ trailing_zeros w32 (number k)
  pub met : (least ≡ 32) ⊎ ((k : ℕ) × (k < count) × (trailing_zeros w32 (number k) ≡ least))

-- the fewest zero bits at the end of a change of the first words, each of which has so many changes
pub record IsLeastPower (words count : ℕ) (change : ℕ → ℕ → ℕ) (least : ℕ) : Type 0 where
  pub each : (word k : ℕ) → word < words → k < count → least ≤ trailing_zeros w32 (change word k)
  pub met : (least ≡ 32) ⊎ ((word : ℕ) × (k : ℕ) × (word < words) × (k < count) × (trailing_zeros w32 (change word k) ≡ least))

-- no change of a word ends with exactly so many zero bits
abbrev pub HasNone : ℕ → (ℕ → ℕ) → ℕ → Type 0
HasNone count change least = (k : ℕ) → k < count → trailing_zeros w32 (change k) ≢ least

-- the place of the first number that ends with exactly so many zero bits
pub record IsFirstEnding (count : ℕ) (number : ℕ → ℕ) (least place : ℕ) : Type 0 where
  pub inside : place < count
  pub ends : trailing_zeros w32 (number place) ≡ least
  pub before : HasNone place number least

-- the first word with a change that ends with exactly so many zero bits
pub record IsFirstWith (words count : ℕ) (change : ℕ → ℕ → ℕ) (least word : ℕ) : Type 0 where
  pub inside : word < words
  pub before : (j : ℕ) → j < word → HasNone count (change j) least

-- the changes of that word, and the place of its first such change
pub record AreFirstChanges (words count : ℕ) (change : ℕ → ℕ → ℕ) (least : ℕ) (changes : List ℕ) (place : ℕ) : Type 0 where
  pub word : ℕ
  pub first : IsFirstWith words count change least word
  pub ending : IsFirstEnding count (change word) least place
  pub each : (k : ℕ) → k < count → slice_index changes k ≡ change word k

-- the list that is guessed, and the place of its 1: the changes of the first word that has one
-- divisible by no higher power of two than all are, divided by that power and modulo 2 ^ 32 by what
-- it leaves of the first such change
pub record IsGuess (words count : ℕ) (change : ℕ → ℕ → ℕ) (common : List ℕ) (pivot : ℕ) : Type 0 where
  pub least : ℕ
  pub word : ℕ
  pub inverse : ℕ
  pub power : IsLeastPower words count change least
  pub first : IsFirstWith words count change least word
  pub ending : IsFirstEnding count (change word) least pivot
  pub one : 0 < change word pivot → change word pivot / 2 ^ least * inverse % 2 ^ 32 ≡ 1
  pub divided : (k : ℕ) → k < count → slice_index common k ≡ change word k / 2 ^ least * inverse % 2 ^ 32

-- no list is guessed
pub record IsNoGuess (common : List ℕ) (pivot : ℕ) : Type 0 where
  pub zeros : (k : ℕ) → k < length common → slice_index common k ≡ 0
  pub first : pivot ≡ 0

-- what is guessed for listed rows: no list if they are fewer than 16, or there is no word; else a
-- list of the first 16 words
pub record IsGuessFor (w : ℕ) (server hint : WordMatrix) (listed common : List ℕ) (pivot : ℕ) : Type 0 where
  pub too_few : length listed < 16 → IsNoGuess common pivot
  pub no_words : hint.cols ≡ 0 → IsNoGuess common pivot
  pub guess : 16 ≤ length listed → 0 < hint.cols → IsGuess (min hint.cols 16) (length common) (word_change w server hint listed) common pivot
