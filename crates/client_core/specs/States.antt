-- What a client holds, and what is true of it as long as it lives.
use Rattle.std.specs.Prelude.{◌≡◌, ◌≤◌, ◌<◌, ◌*◌, ◌^◌, ℕ, List, [], length, Bool, true, false, Option, Some, None, ◌==◌}
use Rattle.digit_pack.specs.Layout.{Shape, is_wide}
unfoldable pub use Rattle.digit_pack.specs.Layout.{is_layout}
use Rattle.pir_schemes.specs.declared.scheme.Scheme.{Scheme}
use Rattle.pir_schemes.specs.declared.scheme.Scheme.TheVariants.{Simple, Double}
use Rattle.pir_schemes.specs.Plans.{IsPlan, shape_at, client_profile}
use Rattle.pir_schemes.specs.Retrievals.{hint_rows, hint_len}
use Rattle.client_core.specs.declared.state.ClientState.{ClientState}
use Rattle.client_core.specs.declared.state.ServerInfo.{ServerInfo}
use Rattle.client_core.specs.declared.state.Hint.{Hint}
use Rattle.client_core.specs.declared.state.Call.{Call}
use Rattle.client_core.specs.declared.state.Call.TheVariants.{Idle, Hello, Sync, Delta, Changes, Ask, Edit, Append, Publish}

-- no call is outstanding
abbrev pub is_idle : Call → Bool
is_idle Idle = true
is_idle _ = false

-- the last version known; 0 before the Welcome, when no sync and no ask is accepted
abbrev pub known_version : Option ServerInfo → ℕ
known_version None = 0
known_version (Some k) = k.version

-- the count of records known
abbrev pub known_count : Option ServerInfo → ℕ
known_count None = 0
known_count (Some k) = k.count

-- a hint of the last version known is held
abbrev pub is_ready : Option ServerInfo → Option Hint → Bool
is_ready None hint = false
is_ready (Some k) None = false
is_ready (Some k) (Some h) = h.version == k.version

-- the scheme of the hint held; SimplePIR if there is none, which decides nothing: an ask is accepted
-- only while a hint is held, and the hint stays until the ask ends
abbrev pub scheme_held : Option Hint → Scheme
scheme_held None = Simple
scheme_held (Some h) = h.scheme

-- the version, if the scheme is SimplePIR
abbrev pub simple_version : Scheme → ℕ → Option ℕ
simple_version Simple version = Some version
simple_version Double version = None

-- the version since which a sync of a scheme asks for what changed: that of the hint held, if both
-- are SimplePIR's
abbrev pub delta_base : Scheme → Option Hint → Option ℕ
delta_base Simple (Some h) = simple_version h.scheme h.version
delta_base _ hint = None

-- whether a client's streams have the frames of a wide store, by the profile that it greets with
abbrev pub is_wide_client : ClientState → Bool
is_wide_client c = is_wide c.profile

-- a client of a profile that holds nothing yet
abbrev pub fresh_in : ℕ → List ℕ → ℕ → ClientState
fresh_in profile seed number =
    record { profile = profile; seed = seed; number = number; known = None; hint = None; parts = []; call = Idle; failed = false }

-- a client of ordinary stores that holds nothing yet
abbrev pub fresh : List ℕ → ℕ → ClientState
fresh seed number = fresh_in (client_profile false) seed number

-- the shape of the last version known
abbrev pub shape_known : ServerInfo → Shape
shape_known k = shape_at k.plan k.count

-- what the server reported is within the limits
abbrev pub IsKnown : ServerInfo → Type 0
IsKnown k = IsPlan k.plan k.count

-- what the server reported is within the limits, if a Welcome came
abbrev pub KnownFits : Option ServerInfo → Type 0
KnownFits None = Unit {0}
KnownFits (Some k) = IsKnown k

-- a hint has the rows that its scheme wants, and n columns
abbrev pub HintFits : Option ServerInfo → Option Hint → Type 0
HintFits None None = Unit {0}
HintFits None (Some h) = ⊥
HintFits (Some k) None = Unit {0}
HintFits (Some k) (Some h) = (h.matrix.rows ≡ hint_rows h.scheme (shape_known k) k.plan.dimension) × (h.matrix.cols ≡ k.plan.dimension)

-- hello comes before the Welcome; the parts that came are whole ones of the hint; a record asked
-- for is one that there is
abbrev pub CallFits : Call → Option ServerInfo → List ℕ → Type 0
CallFits Idle known parts = Unit {0}
CallFits Hello None parts = Unit {0}
CallFits Hello (Some k) parts = ⊥
CallFits (Sync scheme version part) None parts = Unit {0}
CallFits (Sync scheme version part) (Some k) parts = (length parts ≡ 65536 * part) × (length parts ≤ hint_len scheme (shape_known k) k.plan.dimension)
CallFits (Delta since) known parts = Unit {0}
CallFits (Changes since) known parts = Unit {0}
CallFits (Ask index version number) known parts = (index < known_count known) × (number < 2 ^ 62)
CallFits Edit known parts = Unit {0}
CallFits Append known parts = Unit {0}
CallFits Publish known parts = Unit {0}

-- in a sync by what changed the hint held is SimplePIR's, of the version asked from
abbrev pub DeltaFits : Call → Option Hint → Type 0
DeltaFits (Delta since) None = ⊥
DeltaFits (Delta since) (Some h) = (h.scheme ≡ Simple) × (h.version ≡ since)
DeltaFits (Changes since) None = ⊥
DeltaFits (Changes since) (Some h) = (h.scheme ≡ Simple) × (h.version ≡ since)
DeltaFits _ hint = Unit {0}

-- what is always true of a client
pub record IsState (c : ClientState) : Type 0 where
  pub number : c.number ≤ 2 ^ 62
  pub known : KnownFits c.known
  pub hint : HintFits c.known c.hint
  pub call : CallFits c.call c.known c.parts
  pub delta : DeltaFits c.call c.hint

-- what no reply changes: that these things are true, and the next number
pub record KeepsNumber (old new : ClientState) : Type 0 where
  pub good : IsState new
  pub number : new.number ≡ old.number
