-- Laws of noise.
use Rattle.std.specs.Prelude.{ℕ, ◌<◌, ◌≤◌, ◌^◌, List, ℤ, pos, length, unsigned_abs, slice_index, slice_index_or}
use Rattle.noise_table.specs.Noise.{noise}
use Rattle.noise_table.specs.Margin.{IsQuiet, IsCertain}

-- noise is at most 27 either way
abbrev pub NoiseIsBounded : Type 0
NoiseIsBounded = (word : ℕ) → unsigned_abs (noise word) ≤ 27

-- a row of as many digits as are certain is quiet under every noise within the bound
abbrev pub CertainIsQuiet : Type 0
CertainIsQuiet = (w : ℕ) (x : List ℕ) (e : List ℤ) →
    IsCertain w (length x)
    → ((j : ℕ) → slice_index x j < 2 ^ w)
    → ((j : ℕ) → unsigned_abs (slice_index_or e j (pos 0)) ≤ 27)
    → IsQuiet w x e
