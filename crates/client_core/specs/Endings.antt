-- How a call ends.
use Rattle.std.specs.Prelude.{◌≡◌, ◌≢◌, ℕ, List, ◌∷◌, Option, false}
use Rattle.pir_schemes.specs.declared.scheme.Scheme.TheVariants.{Simple}
use Rattle.client_core.specs.declared.state.Call.{Call}
use Rattle.client_core.specs.declared.state.Call.TheVariants.{Hello, Sync, Delta, Changes, Ask, Edit, Append, Publish}
use Rattle.client_core.specs.declared.state.Event.{Event}
use Rattle.client_core.specs.declared.state.Event.TheVariants.{Welcomed, Synced, Retrieved, Unreadable, Stale, Done, Refused}
use Rattle.client_core.specs.declared.state.ClientFault.{ClientFault}
use Rattle.client_core.specs.Feeding.{Client, FeedsClient}

-- The events that a call can end with: those of its own kind, for what was asked; or a refusal. A
-- sync by delta or by changed records may go on by parts, and then become stale.
abbrev pub Ends : Call → Event → Type 0
Ends Hello (Welcomed version) = Unit {0}
Ends Hello (Refused code) = Unit {0}
Ends (Sync scheme asked part) (Synced of version) = (of ≡ scheme) × (version ≡ asked)
Ends (Sync scheme asked part) (Stale version) = version ≢ asked
Ends (Sync scheme asked part) (Refused code) = Unit {0}
Ends (Delta since) (Synced of version) = of ≡ Simple
Ends (Delta since) (Stale version) = Unit {0}
Ends (Delta since) (Refused code) = Unit {0}
Ends (Changes since) (Synced of version) = of ≡ Simple
Ends (Changes since) (Stale version) = Unit {0}
Ends (Changes since) (Refused code) = Unit {0}
Ends (Ask i asked number) (Retrieved index version bytes) = (index ≡ i) × (version ≡ asked)
Ends (Ask i asked number) (Unreadable index version) = (index ≡ i) × (version ≡ asked)
Ends (Ask i asked number) (Stale version) = version ≢ asked
Ends (Ask i asked number) (Refused code) = Unit {0}
Ends Edit (Done version) = Unit {0}
Ends Append (Done version) = Unit {0}
Ends Edit (Refused code) = Unit {0}
Ends Append (Refused code) = Unit {0}
Ends Publish (Done version) = Unit {0}
Ends Publish (Refused code) = Unit {0}
Ends _ _ = ⊥

-- the first event of what a client is fed is one that its call can end with
abbrev pub FirstEventEndsTheCall : Type 0
FirstEventEndsTheCall = (old new : Client) (piece out : List ℕ) (event : Event) (later : List Event) (fault : Option ClientFault) →
    FeedsClient old piece out (event ∷ later) fault new → Ends old.state.call event

-- what a client is fed spends none of its numbers
abbrev pub FeedingSpendsNoNumber : Type 0
FeedingSpendsNoNumber = (old new : Client) (piece out : List ℕ) (events : List Event) (fault : Option ClientFault) →
    FeedsClient old piece out events fault new → new.state.number ≡ old.state.number

-- a call whose replies leave the hint as it is
abbrev pub IsNoSync : Call → Type 0
IsNoSync (Sync scheme version part) = ⊥
IsNoSync (Delta since) = ⊥
IsNoSync (Changes since) = ⊥
IsNoSync _ = Unit {0}

-- what a client is fed leaves the hint as it is if no sync is outstanding, unless it fails
abbrev pub OnlySyncsChangeTheHint : Type 0
OnlySyncsChangeTheHint = (old new : Client) (piece out : List ℕ) (events : List Event) (fault : Option ClientFault) →
    FeedsClient old piece out events fault new → IsNoSync old.state.call → new.state.failed ≡ false → new.state.hint ≡ old.state.hint
