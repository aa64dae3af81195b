-- Products with packed digits that need no masks, as the functions of this crate make them.
use Rattle.std.specs.Prelude.{ℕ, ◌+◌, ◌*◌, ◌/◌, ◌%◌, ◌^◌, List, length, slice_index, replicate}
use Rattle.std.specs.Simd.Lanes.{zip2}
use Rattle.matrix_u32.specs.Sum.{sum_below, list_of}

-- a word, the word without its first digit and the word without its first two, times a word each
abbrev pub shifted_products : ℕ → ℕ → ℕ → ℕ → ℕ
shifted_products word a b c = word * a + word / 2 ^ 10 * b + word / 2 ^ 20 * c

-- as many lanes of words, each times its words of three other vectors, modulo 2 ^ 32
abbrev pub lane_products : List ℕ → List ℕ → List ℕ → List ℕ → List ℕ
lane_products words a b c =
    let add : ℕ → ℕ → ℕ = λ x y. (x + y) % 2 ^ 32 in
    let times : ℕ → ℕ → ℕ = λ x y. (x * y) % 2 ^ 32 in
    let shifted : ℕ → List ℕ = λ bits. zip2 (λ x y. x / 2 ^ y) words (replicate 8 bits) in
    zip2 add (zip2 add (zip2 times words a) (zip2 times (shifted 10) b)) (zip2 times (shifted 20) c)

-- their sum over all words
abbrev pub shifted_sum : List ℕ → List ℕ → List ℕ → List ℕ → ℕ
shifted_sum words a b c =
    sum_below (length words) (λ t. shifted_products (slice_index words t) (slice_index a t) (slice_index b t) (slice_index c t)) % 2 ^ 32

-- the three products of the digits of a word whose bits from 30 on are 0
abbrev pub digit_products : ℕ → ℕ → ℕ → ℕ → ℕ
digit_products w a b c = w % 1024 * a + w / 2 ^ 10 % 1024 * b + w / 2 ^ 20 * c

-- those of word t of a row whose words begin at a place
abbrev pub products_at : List ℕ → List ℕ → ℕ → ℕ → ℕ
products_at words x at t =
    digit_products (slice_index words (at + t)) (slice_index x (3 * t)) (slice_index x (3 * t + 1)) (slice_index x (3 * t + 2))

-- a list to which the products of `count` words of its rows of packed words, from word `start` on,
-- were added
abbrev pub plus_part : List ℕ → List ℕ → List ℕ → ℕ → ℕ → ℕ → List ℕ
plus_part out packed x words start count =
    list_of (length out) (λ q. (slice_index out q + sum_below count (λ t. products_at packed x (q * words) (start + t))) % 2 ^ 32)
