-- The connections of those who ask how a service does.
use Rattle.std.specs.Prelude.{◌≡◌, ◌+◌, ◌-◌, ◌^◌, ℕ, List, [], min}
use Rattle.service_watch.specs.declared.figures.Figures.{Figures}
use Rattle.service_watch.specs.declared.requests.Page.{Page}
use Rattle.service_watch.specs.declared.requests.Page.TheVariants.{Health, Stopping, Metrics, NotFound, BadMethod, BadRequest}
use Rattle.service_watch.specs.Requests.{health_text, page_when, response_text}
use Rattle.service_status.specs.declared.status.visitor.SocketCall.{SocketCall}
use Rattle.service_status.specs.declared.status.visitor.SocketCall.TheVariants.{Ended, Failed}

-- a call after which a visitor is over: its peer has ended, or the call failed
abbrev pub EndsVisit : SocketCall → Type 0
EndsVisit Ended = Unit {0}
EndsVisit Failed = Unit {0}
EndsVisit _ = ⊥

-- until when a visitor may stay once its response is written: half a second more at most, and never
-- longer than before
abbrev pub leaving_until : ℕ → ℕ → ℕ
leaving_until now until = min until (min (now + 500) (2 ^ 64 - 1))

-- a whole response of a page: of those that are there with this content, of the others with none
abbrev pub IsResponse : Page → Figures → List ℕ → Type 0
IsResponse Health f text = text ≡ response_text (page_when f.stopping Health) (health_text f.version f.records f.draft)
IsResponse Stopping f text = text ≡ response_text Stopping (health_text f.version f.records f.draft)
IsResponse Metrics f text = (content : List ℕ) × (text ≡ response_text Metrics content)
IsResponse NotFound f text = text ≡ response_text NotFound []
IsResponse BadMethod f text = text ≡ response_text BadMethod []
IsResponse BadRequest f text = text ≡ response_text BadRequest []
