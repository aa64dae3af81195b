-- Numbers written in digits of w bits, the least significant first.
use Rattle.std.specs.Prelude.{ℕ, ◌+◌, ◌*◌, ◌/◌, ◌%◌, ◌^◌, List, length, slice_index}
use Rattle.matrix_u32.specs.Sum.{list_of}

-- digit t of a number to base 2 ^ w, counted from 0, the least significant first
unfoldable pub digit : ℕ → ℕ → ℕ → ℕ
digit w number t = number / 2 ^ (w * t) % 2 ^ w

-- how many digits of w bits a word takes: 32 divided by w, rounded up
unfoldable pub split_count : ℕ → ℕ
split_count w = (31 + w) / w

-- digit t of each word
abbrev pub split_words : ℕ → ℕ → List ℕ → List ℕ
split_words w t words = list_of (length words) (λ j. digit w (slice_index words j) t)
