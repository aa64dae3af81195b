-- How long things took.
use Rattle.std.specs.Prelude.{◌≡◌, ◌<◌, ℕ, List, [], ◌∷◌, Bool, cond, length, sum, nat_lt, ◌==◌, slice_index}
use Rattle.std.specs.List.{count_by, sum_by}
use Rattle.service_watch.specs.Counts.{saturating}

-- the bounds of the bins in microseconds
abbrev pub bounds : List ℕ
bounds =
    1000 ∷ 2500 ∷ 5000 ∷ 10000 ∷ 25000 ∷ 50000 ∷ 100000 ∷ 250000 ∷ 500000 ∷ 1000000 ∷ 2500000 ∷ 10000000 ∷ []

-- whether a bound is below a time
abbrev pub is_below : ℕ → ℕ → Bool
is_below micros bound = nat_lt bound micros

-- the bin of a time: as many bounds are below it
unfoldable pub bin_of : ℕ → ℕ
bin_of micros = count_by (is_below micros) bounds

-- 1 for a time that is in a bin
abbrev pub in_bin : ℕ → ℕ → ℕ
in_bin k micros = cond (bin_of micros == k) 1 0

-- Each bin has as many times as fell into it, and the sum is that of all.
pub record IsSpread (bins : List ℕ) (total : ℕ) (times : List ℕ) : Type 0 where
  pub bins_are : length bins ≡ 13
  pub each : (k : ℕ) → k < 13 → slice_index bins k ≡ saturating (sum_by (in_bin k) times)
  pub total_is : total ≡ saturating (sum times)
