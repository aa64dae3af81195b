-- What a server lacks of a folder's publications.
use Rattle.std.specs.Prelude.{◌≡◌, ◌≢◌, ◌≤◌, ◌<◌, ◌+◌, ℕ}
use Rattle.pir_schemes.specs.declared.plan.Plan.{Plan}
use Rattle.client_core.specs.declared.state.ServerInfo.{ServerInfo}
use Rattle.publication_push.specs.declared.lacking.Lack.{Lack}
use Rattle.publication_push.specs.declared.lacking.Lack.TheVariants.{OtherStore, Ahead, BeforeLog, After}

-- what a server lacks that was greeted, of the publications after one version up to another
abbrev pub IsLack : Plan → ℕ → ℕ → ServerInfo → Lack → Type 0
IsLack plan since current known OtherStore = known.plan ≢ plan
IsLack plan since current known Ahead = (known.plan ≡ plan) × (current < known.version)
IsLack plan since current known BeforeLog = (known.plan ≡ plan) × (known.version ≤ current) × (known.version < since)
IsLack plan since current known (After n) = (known.plan ≡ plan) × (known.version ≤ current) × (since + n ≡ known.version)
