-- How many numbers a command spends.
use Rattle.std.proofs.Common.{◌≡◌, ◌⊎◌, ◌+◌, ℕ, false, List, [], ◌∷◌, Option, Some, None, Result, Ok, Err, refl, sym, ap, ◌∙◌, inl, inr}
use Rattle.std.specs.Prelude.{is_some, if◌then◌else◌}
use Rattle.client_core.specs.declared.state.ClientState.{ClientState}
use Rattle.client_core.specs.declared.state.CallFault.{CallFault}
use Rattle.client_core.specs.declared.state.Event.{Event}
use Rattle.client_core.specs.declared.state.Event.TheVariants as event
use Rattle.client_core.specs.States.{delta_base}
use Rattle.client_core.specs.Calls.{ClientCall, Hello, Sync, Ask, Edit, Append, Publish, call_refusal, Accepts, Refuses}
use Rattle.client_core.specs.Feeding.{Client}
use Rattle.client_core.proofs.NumberLaws.{sync_number}
use Rattle.client_core.proofs.EndingLaws.{feeding_spends_no_number}
use Rattle.pir_schemes.specs.declared.scheme.Scheme.{Scheme}
use Rattle.client_core.specs.Laws.{Accepted, Lacking}
use Rattle.client_commands.specs.declared.fault.CommandError.{CommandError}
use Rattle.client_commands.specs.declared.fault.CommandError.TheVariants.{Refused, Stale, Unreadable, ShortSecrets, Call, Conversation}
use Rattle.client_commands.specs.Runs.{number_after_ask}
use Rattle.client_commands.specs.Transcripts.{most_reads, Answers, Exchanges, RefusesCall, ComesTo, CommandStep, Calls, Judges, EndsWith, IsLastOf, Transacts, get_steps}
use Rattle.client_commands.proofs.Conversations.{HoldsOfFeeds, HoldsOfItself, conversing_keeps}
use Rattle.client_commands.proofs.Seeds.{goes_on, feeding_keeps_seed}

-- ---- one call

-- a call of this kind asks for no record
abbrev pub IsNoAsk : ClientCall → Type 0
IsNoAsk (Hello key) = Unit {0}
IsNoAsk (Sync scheme) = Unit {0}
IsNoAsk (Ask i) = ⊥
IsNoAsk (Edit i bytes) = Unit {0}
IsNoAsk (Append bytes) = Unit {0}
IsNoAsk Publish = Unit {0}

number_after : (old new other : ClientState) → new ≡ other → other.number ≡ old.number → new.number ≡ old.number
number_after old new other e n = ap (λ (c : ClientState). c.number) e ∙ n

accepted_number : (want : ClientCall) (old new : ClientState) (bytes : List ℕ) → IsNoAsk want → Accepts old want new bytes → new.number ≡ old.number
accepted_number (Hello key) old new bytes calm a = number_after old new _ a.state refl
accepted_number (Sync scheme) old new bytes calm a = number_after old new _ a.state (sync_number (delta_base scheme old.hint) scheme old)
accepted_number (Ask i) old new bytes calm a = absurd calm
accepted_number (Edit i b) old new bytes calm a = number_after old new _ a.state refl
accepted_number (Append b) old new bytes calm a = number_after old new _ a.state refl
accepted_number Publish old new bytes calm a = number_after old new _ a.state refl

refused_number : (want : ClientCall) (old new : ClientState) (fault : CallFault) → IsNoAsk want → Refuses old want fault new → new.number ≡ old.number
refused_number want old new fault calm (inl r) = number_after old new old r.1 refl
refused_number (Hello key) old new fault calm (inr r) = number_after old new _ r.2 refl
refused_number (Sync scheme) old new fault calm (inr r) = number_after old new _ r.2 refl
refused_number (Ask i) old new fault calm (inr r) = absurd calm
refused_number (Edit i b) old new fault calm (inr r) = number_after old new _ r.2 refl
refused_number (Append b) old new fault calm (inr r) = number_after old new _ r.2 refl
refused_number Publish old new fault calm (inr r) = number_after old new _ r.2 refl

-- what holds of a client and what it becomes by any feed holds of it and what it becomes as its
-- call is answered
answered_keeps : (P : Client → Client → Type 0) → HoldsOfItself P → HoldsOfFeeds P → (called : Client) (first : List ℕ) (result : Result Event CommandError)
    (read out : List ℕ) (left : Option (List ℕ)) (new : Client)
    → Answers called first result read out left new → P called new
answered_keeps P still fed called first (Ok event) read out left new h =
    conversing_keeps P still fed called first most_reads (Ok event) read out left new h.1
answered_keeps P still fed called first (Err (Refused code)) read out left new h =
    conversing_keeps P still fed called first most_reads (Ok (event.Refused code)) read out left new h
answered_keeps P still fed called first (Err (Stale version)) read out left new h =
    conversing_keeps P still fed called first most_reads (Ok (event.Stale version)) read out left new h
answered_keeps P still fed called first (Err (Unreadable index version)) read out left new h =
    conversing_keeps P still fed called first most_reads (Ok (event.Unreadable index version)) read out left new h
answered_keeps P still fed called first (Err (ShortSecrets dimension)) read out left new h = absurd h
answered_keeps P still fed called first (Err (Call fault)) read out left new h = absurd h
answered_keeps P still fed called first (Err (Conversation fault)) read out left new h =
    conversing_keeps P still fed called first most_reads (Err fault) read out left new h

-- the number is the same
abbrev SameNumber : Client → Client → Type 0
SameNumber old new = new.state.number ≡ old.state.number

answered_number : (called : Client) (first : List ℕ) (result : Result Event CommandError) (read out : List ℕ) (left : Option (List ℕ)) (new : Client)
    → Answers called first result read out left new → new.state.number ≡ called.state.number
answered_number = answered_keeps SameNumber (λ old new e. ap (λ (c : Client). c.state.number) e) feeding_spends_no_number

-- a call was refused, or accepted and answered
either : (old : Client) (want : ClientCall) (result : Result Event CommandError) (read out : List ℕ) (left : Option (List ℕ)) (new : Client)
    → ComesTo old want result read out left new
    → ((fault : CallFault) × RefusesCall old want fault read out new) ⊎ Exchanges old want result read out left new
either old want (Ok event) read out left new c = inr c
either old want (Err (Refused code)) read out left new c = inr c
either old want (Err (Stale version)) read out left new c = inr c
either old want (Err (Unreadable index version)) read out left new c = inr c
either old want (Err (ShortSecrets dimension)) read out left new c = inr c
either old want (Err (Call fault)) read out left new c = inl (fault, c)
either old want (Err (Conversation fault)) read out left new c = inr c

pub calm_call : (old : Client) (want : ClientCall) (result : Result Event CommandError) (read out : List ℕ) (left : Option (List ℕ)) (new : Client)
    → IsNoAsk want → ComesTo old want result read out left new → new.state.number ≡ old.state.number
calm_call old want result read out left new calm c = elim (either old want result read out left new c) [
  | inl r ↦ refused_number want old.state new.state r.0 calm r.1.refused
  | inr x ↦ answered_number x.called x.first result read out left new x.answered ∙ accepted_number want old.state x.called.state x.first calm x.accepted
]

-- ---- the seed

-- the seed is the same, unless the client failed
abbrev SameSeed : Client → Client → Type 0
SameSeed old new = new.state.failed ≡ false → new.state.seed ≡ old.state.seed

-- a call leaves the seed as it is, unless the client fails
pub call_keeps_seed : (old : Client) (want : ClientCall) (result : Result Event CommandError) (read out : List ℕ) (left : Option (List ℕ)) (new : Client)
    → ComesTo old want result read out left new → new.state.failed ≡ false → new.state.seed ≡ old.state.seed
call_keeps_seed old want result read out left new c alive = elim (either old want result read out left new c) [
  | inl r ↦ elim (r.1.refused) [
    | inl e ↦ ap (λ (c : ClientState). c.seed) e.1
    | inr e ↦ ap (λ (c : ClientState). c.seed) e.2 ∙ (goes_on old.state (Lacking want)).seed
  ]
  | inr x ↦ answered_keeps SameSeed (λ old new e alive. ap (λ (c : Client). c.state.seed) e) feeding_keeps_seed x.called x.first result read out left new x.answered alive
      ∙ ap (λ (c : ClientState). c.seed) x.accepted.state ∙ (goes_on old.state (Accepted want)).seed
]

-- ---- an ask

asking_number : (old : Client) (i : ℕ) (result : Result Event CommandError) (read out : List ℕ) (left : Option (List ℕ)) (new : Client)
    → Exchanges old (Ask i) result read out left new → new.state.number ≡ old.state.number + 1
asking_number old i result read out left new x =
    answered_number x.called x.first result read out left new x.answered ∙ ap (λ (c : ClientState). c.number) x.accepted.state

-- whatever comes of an ask, the next number is one more, unless a check of the client refused it
pub ask_number : (old : Client) (i : ℕ) (result : Result Event CommandError) (read out : List ℕ) (left : Option (List ℕ)) (new : Client)
    → ComesTo old (Ask i) result read out left new → new.state.number ≡ number_after_ask i old.state
ask_number old i result read out left new c = elim (either old (Ask i) result read out left new c) [
  | inl r ↦ elim (r.1.refused) [
    | inl e ↦ ap (λ (c : ClientState). c.number) e.1 ∙ sym (by_check old.state (Some r.0) e.0)
    | inr e ↦ ap (λ (c : ClientState). c.number) e.2 ∙ sym (by_check old.state None e.1)
  ]
  | inr x ↦ asking_number old i result read out left new x ∙ sym (by_check old.state None x.accepted.may)
]
  where
    by_check : (c : ClientState) (o : Option CallFault) → call_refusal (Ask i) c ≡ o → number_after_ask i c ≡ (if is_some o then c.number else c.number + 1)
    by_check c o e = ap (λ (x : Option CallFault). if is_some x then c.number else c.number + 1) e

-- ---- a command

-- what a retrieval spends by its result: one number, or one at most
abbrev pub Spends : Result Event CommandError → ℕ → ℕ → Type 0
Spends (Ok event) old new = new ≡ old + 1
Spends (Err failure) old new = (new ≡ old) ⊎ (new ≡ old + 1)

none_spent : (step : CommandStep) (later : List CommandStep) (result : Result Event CommandError) (old new : ℕ) → IsLastOf (step ∷ later) result → new ≡ old →
    Spends result old new
none_spent step later (Ok event) old new is same = absurd cc
none_spent step later (Err failure) old new is same = inl same

spent_after : (result : Result Event CommandError) (old mid new : ℕ) → mid ≡ old → Spends result mid new → Spends result old new
spent_after (Ok event) old mid new e s = s ∙ ap (λ (n : ℕ). n + 1) e
spent_after (Err failure) old mid new e (inl s) = inl (s ∙ e)
spent_after (Err failure) old mid new e (inr s) = inr (s ∙ ap (λ (n : ℕ). n + 1) e)

refused_ask : (old : Client) (i : ℕ) (fault : CallFault) (read out : List ℕ) (new : Client) → RefusesCall old (Ask i) fault read out new
    → (new.state.number ≡ old.state.number) ⊎ (new.state.number ≡ old.state.number + 1)
refused_ask old i fault read out new r = elim (r.refused) [
  | inl e ↦ inl (ap (λ (c : ClientState). c.number) e.1)
  | inr e ↦ inr (ap (λ (c : ClientState). c.number) e.2)
]

last_ask : (old : Client) (i : ℕ) (result : Result Event CommandError) (read out : List ℕ) (left : Option (List ℕ)) (new : Client)
    → ComesTo old (Ask i) result read out left new → Spends result old.state.number new.state.number
last_ask old i (Ok event) read out left new c = asking_number old i (Ok event) read out left new c
last_ask old i (Err failure) read out left new c = elim (either old (Ask i) (Err failure) read out left new c) [
  | inl r ↦ refused_ask old i r.0 read out new r.1
  | inr x ↦ inr (asking_number old i (Err failure) read out left new x)
]

judged : (old : Client) (least : ℕ) (result : Result Event CommandError) (read out : List ℕ) (left : Option (List ℕ)) (new : Client)
    → EndsWith old (Judges least) result read out left new → new ≡ old
judged old least (Ok event) read out left new h = absurd h
judged old least (Err (Refused code)) read out left new h = absurd h
judged old least (Err (Stale version)) read out left new h = absurd h
judged old least (Err (Unreadable index version)) read out left new h = absurd h
judged old least (Err (ShortSecrets dimension)) read out left new h = h.2.2
judged old least (Err (Call fault)) read out left new h = absurd h
judged old least (Err (Conversation fault)) read out left new h = absurd h

same_number : (old new : Client) → new ≡ old → new.state.number ≡ old.state.number
same_number old new e = ap (λ (c : Client). c.state.number) e

asks : (old : Client) (i : ℕ) (result : Result Event CommandError) (read out : List ℕ) (left : Option (List ℕ)) (new : Client)
    → Transacts old (Calls (Ask i) ∷ []) result read out left new → Spends result old.state.number new.state.number
unfolding Transacts
asks old i result read out left new (inl h) = last_ask old i result read out left new h.1
asks old i result read out left new (inr h) = absurd h.10

-- after a call that asks for no record
calm_then : (want : ClientCall) (step : CommandStep) (later : List CommandStep) (old : Client) (result : Result Event CommandError) (read out : List ℕ)
    (left : Option (List ℕ)) (new : Client)
    → IsNoAsk want
    → ((mid : Client) (read2 out2 : List ℕ) → Transacts mid (step ∷ later) result read2 out2 left new → Spends result mid.state.number new.state.number)
    → Transacts old (Calls want ∷ (step ∷ later)) result read out left new → Spends result old.state.number new.state.number
unfolding Transacts
calm_then want step later old result read out left new calm rest (inl h) =
    none_spent step later result old.state.number new.state.number h.0 (calm_call old want result read out left new calm h.1)
calm_then want step later old result read out left new calm rest (inr h) =
    spent_after result old.state.number h.0.state.number new.state.number (calm_call old want (Ok h.9.0) h.1 h.3 h.5 h.0 calm h.9.1)
    (rest h.0 h.2 h.4 h.10)

look_then : (least : ℕ) (step : CommandStep) (later : List CommandStep) (old : Client) (result : Result Event CommandError) (read out : List ℕ)
    (left : Option (List ℕ)) (new : Client)
    → ((mid : Client) (read2 out2 : List ℕ) → Transacts mid (step ∷ later) result read2 out2 left new → Spends result mid.state.number new.state.number)
    → Transacts old (Judges least ∷ (step ∷ later)) result read out left new → Spends result old.state.number new.state.number
unfolding Transacts
look_then least step later old result read out left new rest (inl h) =
    none_spent step later result old.state.number new.state.number h.0 (same_number old new (judged old least result read out left new h.1))
look_then least step later old result read out left new rest (inr h) =
    spent_after result old.state.number h.0.state.number new.state.number (same_number old h.0 h.9.1.2) (rest h.0 h.2 h.4 h.10)

-- a retrieval spends one number with a record, and one at most with a failure
pub retrieval_spends : (least : ℕ) (scheme : Scheme) (index : ℕ) (old : Client) (result : Result Event CommandError) (read out : List ℕ)
    (left : Option (List ℕ)) (new : Client)
    → Transacts old (get_steps least scheme index) result read out left new → Spends result old.state.number new.state.number
retrieval_spends least scheme index old result read out left new t =
    calm_then (Hello _) _ _ old result read out left new tt
    (λ a r o. look_then least _ _ a result r o left new
    (λ b r o. calm_then (Sync scheme) _ _ b result r o left new tt (λ c r o. asks c index result r o left new))) t

-- each of the steps is a call that asks for no record
unfoldable pub AreNoAsks : List CommandStep → Type 0
AreNoAsks [] = Unit {0}
AreNoAsks (Calls want ∷ later) = IsNoAsk want × AreNoAsks later
AreNoAsks (Judges least ∷ later) = ⊥

-- such steps spend no number
pub no_asks_spend_none : (steps : List CommandStep) (old : Client) (result : Result Event CommandError) (read out : List ℕ) (left : Option (List ℕ)) (new : Client)
    → AreNoAsks steps → Transacts old steps result read out left new → new.state.number ≡ old.state.number
unfolding Transacts AreNoAsks
no_asks_spend_none [] old result read out left new calm h = absurd h
no_asks_spend_none (Calls want ∷ later) old result read out left new calm (inl h) = calm_call old want result read out left new calm.0 h.1
no_asks_spend_none (Calls want ∷ later) old result read out left new calm (inr h) =
    no_asks_spend_none later h.0 result h.2 h.4 left new calm.1 h.10 ∙ calm_call old want (Ok h.9.0) h.1 h.3 h.5 h.0 calm.0 h.9.1
no_asks_spend_none (Judges least ∷ later) old result read out left new calm h = absurd calm
