-- Transcripts, put together call by call.
use Rattle.std.proofs.Common.{◌≡◌, ◌≤◌, ◌<◌, ℕ, List, [], ◌∷◌, ◌++◌, Option, Some, None, Result, Ok, Err, refl, sym, subst, ap, ◌∙◌, inl, inr}
use Rattle.std.specs.Prelude.{IfOk, IfErr}
use Rattle.std.specs.Io.KnownBytes.{Appends, Consumes}
use Rattle.std.proofs.KnownBytes.{Appends-trans, Consumes-trans, Appends-nil, Consumes-nil}
use Rattle.std.specs.declared.vec.Vec.{Vec}
use Rattle.std.specs.declared.alloc.Global.{Global}
use Rattle.client_core.specs.declared.state.CallFault.{CallFault}
use Rattle.client_core.specs.declared.state.Event.{Event}
use Rattle.client_core.specs.declared.state.Event.TheVariants as event
use Rattle.client_core.specs.Calls.{ClientCall, Accepts, Refuses}
use Rattle.client_core.specs.Feeding.{Client}
use Rattle.blocking_io.specs.Conversing.{Converses}
use Rattle.client_commands.specs.declared.fault.CommandError.{CommandError}
use Rattle.client_commands.specs.declared.fault.CommandError.TheVariants.{Refused, Stale, Unreadable, ShortSecrets, Call, Conversation}
use Rattle.client_commands.specs.Transcripts.{most_reads, failure_of_event, Answers, AnswersCall, Exchanges, RefusesCall, ComesTo, CommandStep, Calls, Judges, secret_len, IsLastOf, Transacts}

-- ---- one conversation

-- what is answered where an event says this against its call, or nothing
abbrev pub answer_of : Event → Option CommandError → Result Event CommandError
answer_of event None = Ok event
answer_of event (Some failure) = Err failure

told : (called : Client) (first : List ℕ) (event : Event) (read out : List ℕ) (left : Option (List ℕ)) (new : Client)
    → Converses called first most_reads (Ok event) read out left new → Answers called first (answer_of event (failure_of_event event)) read out left new
told called first (event.Welcomed version) read out left new h = (tt, h)
told called first (event.Synced scheme version) read out left new h = (tt, h)
told called first (event.Retrieved index version bytes) read out left new h = (tt, h)
told called first (event.Unreadable index version) read out left new h = h
told called first (event.Stale version) read out left new h = h
told called first (event.Done version) read out left new h = (tt, h)
told called first (event.Refused code) read out left new h = h

-- an event is answered, or reported as what it says against its call
pub event_is_told : (called : Client) (first : List ℕ) (event : Event) (said : Option CommandError) (read out : List ℕ) (left : Option (List ℕ)) (new : Client)
    → failure_of_event event ≡ said → Converses called first most_reads (Ok event) read out left new
    → Answers called first (answer_of event said) read out left new
event_is_told called first event said read out left new e h =
    let P : Option CommandError → Type 0 = λ s. Answers called first (answer_of event s) read out left new in
    subst P e (told called first event read out left new h)

-- the bytes that were answered are those that the client gave
pub call_is_answered : (called : Client) (sent : Result (Vec ℕ Global) CallFault) (v : Vec ℕ Global) (first : List ℕ) (result : Result Event CommandError)
    (read out : List ℕ) (left : Option (List ℕ)) (new : Client)
    → sent ≡ Ok v → first ≡ v.items → Answers called first result read out left new → AnswersCall called sent result read out left new
call_is_answered called sent v first result read out left new is same h =
    let P : Result (Vec ℕ Global) CallFault → Type 0 = λ s. AnswersCall called s result read out left new in
    let Q : List ℕ → Type 0 = λ bytes. Answers called bytes result read out left new in
    subst P (sym is) (subst Q same h)

-- a refusal of the client is reported
pub refusal_is_told : (called : Client) (sent : Result (Vec ℕ Global) CallFault) (fault : CallFault) (left : Option (List ℕ))
    → sent ≡ Err fault → AnswersCall called sent (Err (Call fault)) [] [] left called
refusal_is_told called sent fault left is =
    let P : Result (Vec ℕ Global) CallFault → Type 0 = λ s. AnswersCall called s (Err (Call fault)) [] [] left called in
    subst P (sym is) (refl, refl, refl, refl)

-- ---- one call

exchanged : (want : ClientCall) (old mid : Client) (v : Vec ℕ Global) (result : Result Event CommandError) (read out : List ℕ) (left : Option (List ℕ)) (new : Client)
    → Accepts old.state want mid.state v.items → mid.reader ≡ old.reader → Answers mid v.items result read out left new
    → Exchanges old want result read out left new
exchanged want old mid v result read out left new a same h = record { called = mid; first = v.items; accepted = a; reader = same; answered = h }

accepted_comes : (want : ClientCall) (old mid : Client) (v : Vec ℕ Global) (result : Result Event CommandError) (read out : List ℕ)
    (left : Option (List ℕ)) (new : Client)
    → Accepts old.state want mid.state v.items → mid.reader ≡ old.reader → Answers mid v.items result read out left new
    → ComesTo old want result read out left new
accepted_comes want old mid v (Ok event) read out left new a same h = exchanged want old mid v (Ok event) read out left new a same h
accepted_comes want old mid v (Err (Refused code)) read out left new a same h = exchanged want old mid v (Err (Refused code)) read out left new a same h
accepted_comes want old mid v (Err (Stale version)) read out left new a same h = exchanged want old mid v (Err (Stale version)) read out left new a same h
accepted_comes want old mid v (Err (Unreadable index version)) read out left new a same h =
    exchanged want old mid v (Err (Unreadable index version)) read out left new a same h
accepted_comes want old mid v (Err (ShortSecrets dimension)) read out left new a same h = absurd h
accepted_comes want old mid v (Err (Call fault)) read out left new a same h = absurd h
accepted_comes want old mid v (Err (Conversation fault)) read out left new a same h =
    exchanged want old mid v (Err (Conversation fault)) read out left new a same h

refused_comes : (want : ClientCall) (old mid : Client) (fault : CallFault) (result : Result Event CommandError) (read out : List ℕ)
    (left : Option (List ℕ)) (new : Client)
    → Refuses old.state want fault mid.state → mid.reader ≡ old.reader → result ≡ Err (Call fault) → read ≡ [] → out ≡ [] → new ≡ mid
    → ComesTo old want result read out left new
refused_comes want old mid fault result read out left new r same is unread unwritten still =
    let P : Result Event CommandError → Type 0 = λ x. ComesTo old want x read out left new in
    let refused : RefusesCall old want fault read out new = record {
      refused = subst (λ (c : Client). Refuses old.state want fault c.state) (sym still) r;
      reader = ap (λ (c : Client). c.reader) still ∙ same;
      unread = unread;
      unwritten = unwritten;
    } in
    subst P (sym is) refused

comes : (want : ClientCall) (old mid : Client) (sent : Result (Vec ℕ Global) CallFault) (result : Result Event CommandError) (read out : List ℕ)
    (left : Option (List ℕ)) (new : Client)
    → IfOk sent (λ v. Accepts old.state want mid.state v.items) → IfErr sent (λ e. Refuses old.state want e mid.state) → mid.reader ≡ old.reader
    → AnswersCall mid sent result read out left new → ComesTo old want result read out left new
comes want old mid (Ok v) result read out left new a r same h = accepted_comes want old mid v result read out left new a same h
comes want old mid (Err fault) result read out left new a r same h = refused_comes want old mid fault result read out left new r same h.0 h.1 h.2 h.3

-- what came of a call, between two states of the reader and of the writer
abbrev pub Called : Option (List ℕ) → Option (List ℕ) → Option (List ℕ) → Option (List ℕ) → Client → ClientCall → Result Event CommandError → Client → Type 0
Called left left2 held held2 old want result new =
    (read : List ℕ) × (out : List ℕ) × Consumes left left2 read × Appends held held2 out × ComesTo old want result read out left2 new

-- what an exchange says, of the call that it was made for
pub called : (want : ClientCall) (old mid : Client) (sent : Result (Vec ℕ Global) CallFault) (result : Result Event CommandError)
    (left left2 held held2 : Option (List ℕ)) (new : Client)
    → IfOk sent (λ v. Accepts old.state want mid.state v.items) → IfErr sent (λ e. Refuses old.state want e mid.state) → mid.reader ≡ old.reader
    → ((read : List ℕ) × (out : List ℕ) × Consumes left left2 read × Appends held held2 out × AnswersCall mid sent result read out left2 new)
    → Called left left2 held held2 old want result new
called want old mid sent result left left2 held held2 new a r same h =
    (h.0, h.1, h.2, h.3, comes want old mid sent result h.0 h.1 left2 new a r same h.4)

-- ---- steps

-- an answer or a failure of the last step is the last
pub end : (result : Result Event CommandError) → IsLastOf [] result
end (Ok event) = refl
end (Err failure) = tt

-- what came of steps, between two states of the reader and of the writer
abbrev pub Spoken : Option (List ℕ) → Option (List ℕ) → Option (List ℕ) → Option (List ℕ) → Client → List CommandStep → Result Event CommandError → Client → Type 0
Spoken left left2 held held2 old steps result new =
    (read : List ℕ) × (out : List ℕ) × Consumes left left2 read × Appends held held2 out × Transacts old steps result read out left2 new

-- the call ended it
pub last_call : (want : ClientCall) (later : List CommandStep) (left left2 held held2 : Option (List ℕ)) (old : Client) (result : Result Event CommandError) (new : Client)
    → IsLastOf later result → Called left left2 held held2 old want result new → Spoken left left2 held held2 old (Calls want ∷ later) result new
unfolding Transacts
last_call want later left left2 held held2 old result new is c = (c.0, c.1, c.2, c.3, inl (is, c.4))

-- the call was done, and others followed
pub after_call : (want : ClientCall) (later : List CommandStep) (left left2 left3 held held2 held3 : Option (List ℕ)) (old : Client) (event : Event) (mid : Client)
    (result : Result Event CommandError) (new : Client)
    → Called left left2 held held2 old want (Ok event) mid → Spoken left2 left3 held2 held3 mid later result new
    → Spoken left left3 held held3 old (Calls want ∷ later) result new
unfolding Transacts
after_call want later left left2 left3 held held2 held3 old event mid result new c s = (
  c.0 ++ s.0,
  c.1 ++ s.1,
  Consumes-trans left left2 left3 c.0 s.0 c.2 s.2,
  Appends-trans held held2 held3 c.1 s.1 c.3 s.3,
  inr (mid, c.0, s.0, c.1, s.1, left2, s.2, refl, refl, (event, c.4), s.4),
)

-- the secrets were long enough, and others followed
pub after_look : (least : ℕ) (later : List CommandStep) (left left2 held held2 : Option (List ℕ)) (old : Client) (result : Result Event CommandError) (new : Client)
    → least ≤ secret_len old.state.known → Spoken left left2 held held2 old later result new
    → Spoken left left2 held held2 old (Judges least ∷ later) result new
unfolding Transacts
after_look least later left left2 held held2 old result new enough s =
    (s.0, s.1, s.2, s.3, inr (old, [], s.0, [], s.1, left, s.2, refl, refl, (enough, (refl, refl, refl)), s.4))

-- they were too short
pub last_look : (least : ℕ) (later : List CommandStep) (left held : Option (List ℕ)) (old : Client) (failure : CommandError)
    → failure ≡ ShortSecrets (secret_len old.state.known) → secret_len old.state.known < least
    → Spoken left left held held old (Judges least ∷ later) (Err failure) old
unfolding Transacts
last_look least later left held old failure is short =
    let P : CommandError → Type 0 = λ f. Spoken left left held held old (Judges least ∷ later) (Err f) old in
    subst P (sym is) ([], [], Consumes-nil left, Appends-nil held, inl (tt, (refl, short, (refl, refl, refl))))
