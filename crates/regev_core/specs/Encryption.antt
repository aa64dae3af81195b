-- One layer of Regev encryption: 'One Server for the Price of Two' (USENIX Security 2023), section
-- 3.
use Rattle.std.specs.Prelude.{ℕ, ◌+◌, ◌*◌, ◌/◌, ◌%◌, ◌^◌, ◌<◌, ◌==◌, List, length, ℤ, pos, ◌-ℤ◌, slice_index, slice_index_or, if◌then◌else◌}
use Rattle.matrix_u32.specs.Sum.{list_of, residue, dot}
use Rattle.matrix_u32.specs.Matrix.{WordMatrix, row}
use Rattle.noise_table.specs.Margin.{delta}

-- the encryption of the unit vector with its 1 at `place`: word j is row j of a times s plus e[j],
-- and at the place delta more
abbrev pub cipher : ℕ → WordMatrix → List ℕ → List ℤ → ℕ → List ℕ
cipher w a s e place =
    list_of a.rows (λ j. (dot (row a j) s + residue (slice_index_or e j (pos 0)) + (if j == place then delta w else 0)) % 2 ^ 32)

-- words with noise, and at the place delta more
abbrev pub with_noise : ℕ → List ℕ → List ℤ → ℕ → List ℕ
with_noise w words e place =
    list_of (length words) (λ j. (slice_index words j + residue (slice_index_or e j (pos 0)) + (if j == place then delta w else 0)) % 2 ^ 32)

-- a word without a row of the hint times the secret
abbrev pub stripped : ℕ → List ℕ → List ℕ → ℕ
stripped word hint_row s = residue (pos word -ℤ pos (dot hint_row s))

-- d is the digit whose interval the word lies in: from half of delta below delta d, inclusive, to
-- half of delta above it, exclusive. The intervals lie on a circle
abbrev pub IsNearest : ℕ → ℕ → ℕ → Type 0
IsNearest w word d = (d < 2 ^ w) × (residue (pos word -ℤ (pos (delta w * d) -ℤ pos (delta w / 2))) < delta w)

-- the digit to whose multiple of delta a word is nearest: half of delta is added modulo 2 ^ 32, and
-- the remainder of the division by delta dropped
unfoldable pub nearest : ℕ → ℕ → ℕ
nearest w word = (word + delta w / 2) % 2 ^ 32 / delta w
