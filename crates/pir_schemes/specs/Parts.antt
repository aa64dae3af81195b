-- A hint is sent in parts of at most 65,536 words.
use Rattle.std.specs.Prelude.{ℕ, ◌*◌, ◌-◌, List, Bool, min, nat_lt, take, drop}

-- part j has the words from 65,536 j on, at most 65,536 of them
abbrev pub part_of : List ℕ → ℕ → List ℕ
part_of words part = take 65536 (drop (65536 * part) words)

-- how many words part j of so many has
abbrev pub part_len : ℕ → ℕ → ℕ
part_len total part = min 65536 (total - 65536 * part)

-- whether so many words have a part j
abbrev pub is_part_of : ℕ → ℕ → Bool
is_part_of total part = nat_lt (65536 * part) total
