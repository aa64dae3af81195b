-- Numbers as bytes, the lowest byte first.
use Rattle.std.specs.Prelude.{ℕ, List}
use Rattle.std.specs.List.{flat_map}
use Rattle.byteorder.specs.Endian.{little_bytes, little_number}

-- the n bytes of a number
unfoldable pub number_bytes : ℕ → ℕ → List ℕ
number_bytes n x = little_bytes n x

-- the number in the first n bytes
unfoldable pub number_in : ℕ → List ℕ → ℕ
number_in n bytes = little_number n bytes

-- four bytes for each word, one word after another
unfoldable pub word_bytes : List ℕ → List ℕ
word_bytes words = flat_map (number_bytes 4) words
