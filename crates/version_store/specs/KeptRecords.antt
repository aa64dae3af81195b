-- Records that are kept in digits alone.
use Rattle.std.specs.Prelude.{◌≡◌, ◌≤◌, ◌<◌, ◌+◌, ◌-◌, ◌*◌, ◌%◌, ◌^◌, ℕ, List, [], All, length, if◌then◌else◌, nat_lt}
use Rattle.std.specs.List.{flat_map}
use Rattle.matrix_u32.specs.Matrix.{WordMatrix}
use Rattle.matrix_u32.specs.Sum.{list_of}
use Rattle.digit_pack.specs.Layout.{Shape, IsLayout, digit_matrix, record_at, records_in}
use Rattle.digit_pack.specs.Held.{records_in_digits}

-- the sizes of records, and the bytes of those that there are, one after another
pub record KeptRecords : Type 0 where
  pub shape : Shape
  pub bytes : List ℕ

-- sizes for another number of records
abbrev pub counted : Shape → ℕ → Shape
counted l n = record l { count = n }

-- those of some records that are in the first g places of their columns; the others are blank
abbrev pub records_of_groups : Shape → List (List ℕ) → ℕ → List (List ℕ)
records_of_groups l xs g = list_of l.count (λ k. if nat_lt (k % l.groups) g then record_at xs k else [])

-- records xs, and in the places of the k from m on others, ys
abbrev pub records_over : Shape → List (List ℕ) → ℕ → ℕ → List (List ℕ) → List (List ℕ)
records_over l xs m k ys =
    list_of l.count (λ q. if nat_lt q m then record_at xs q else (if nat_lt q (m + k) then record_at ys (q - m) else record_at xs q))

-- the bytes of the first n records that a digit matrix holds, one after another
abbrev pub bytes_in_digits : Shape → ℕ → WordMatrix → List ℕ
bytes_in_digits l n digits = flat_map (λ bytes. bytes) (records_in_digits (counted l n) digits)

-- a digit matrix that is made of the first n records of a layout
pub record IsKept (l : Shape) (n : ℕ) (digits : WordMatrix) : Type 0 where
  pub layout : IsLayout l
  pub few : n ≤ l.count
  pub small : All (λ b. b < 2 ^ 8) (bytes_in_digits l n digits)
  pub len : length (bytes_in_digits l n digits) ≡ n * l.record_len
  pub digits_are : digits ≡ digit_matrix l (records_in (counted l n) (bytes_in_digits l n digits))
