-- What a retrieval has sent.
use Rattle.std.proofs.Common.{◌≡◌, ◌++◌, ℕ, Bool, true, false, List, [], ◌∷◌, Option, Some, None, Result, Ok, Err, refl, inl, inr, ap, sym, subst, ◌∙◌, append_assoc, replicate}
use Rattle.std.specs.Prelude.{IfOk, is_some, if◌then◌else◌}
use Rattle.std.specs.declared.vec.Vec.{Vec}
use Rattle.std.specs.declared.alloc.Global.{Global}
use Rattle.std.specs.Io.KnownBytes.{Appends}
use Rattle.frame_codec.specs.declared.frame.Frame.{Frame}
use Rattle.frame_codec.specs.Frames.{encoding}
use Rattle.frame_codec.specs.declared.frame.Frame.TheVariants as frame
use Rattle.pir_schemes.specs.declared.scheme.Scheme.{Scheme}
use Rattle.pir_schemes.specs.declared.scheme.Scheme.TheVariants.{Simple, Double}
use Rattle.pir_schemes.specs.Schemes.{scheme_byte}
use Rattle.client_core.specs.declared.state.ClientState.{ClientState}
use Rattle.client_core.specs.declared.state.Hint.{Hint}
use Rattle.client_core.specs.declared.state.Event.{Event}
use Rattle.client_core.specs.declared.state.CallFault.{CallFault}
use Rattle.client_core.specs.declared.state.CallFault.TheVariants.{Failed, Busy, NotReady}
use Rattle.client_core.specs.States.{is_idle, known_version, delta_base}
use Rattle.client_core.specs.Endings.{IsNoSync}
use Rattle.client_core.specs.Calls.{ClientCall, Hello, Sync, Ask, call_frame, sync_frame, change_refusal, Accepts}
use Rattle.client_core.specs.Feeding.{Client}
use Rattle.client_commands.specs.Sent.{SendsCommand}
use Rattle.client_commands.specs.declared.fault.CommandError.TheVariants.{Call}
use Rattle.client_commands.specs.Transcripts.{most_reads, AnswersCall, Exchanges, Calls, Judges, Transacts, get_steps}
use Rattle.client_commands.proofs.Conversations.{event_leaves_the_hint}

-- a call that came to an event has sent its frame, and what the client said after it
exchanged_bytes : (old : Client) (want : ClientCall) (event : Event) (read out : List ℕ) (left : Option (List ℕ)) (new : Client)
    → Exchanges old want (Ok event) read out left new → (said : List ℕ) × (out ≡ encoding (call_frame want old.state) ++ said)
exchanged_bytes old want event read out left new x = elim (x.answered.1) [
  | inl h ↦ absurd h
  | inr h ↦ (h.0, h.1 ∙ ap (λ (b : List ℕ). b ++ h.0) x.accepted.written)
]

-- ---- a client that is let in holds no hint

-- a client holds no hint before its greeting, where it holds none after it
pub bare_before : (key : List ℕ) (old mid : Client) (sent : Result (Vec ℕ Global) CallFault) (event : Event) (read out : List ℕ)
    (left : Option (List ℕ)) (new : Client)
    → IfOk sent (λ v. Accepts old.state (Hello key) mid.state v.items) → IfOk sent (λ v. mid.state.hint ≡ None)
    → AnswersCall mid sent (Ok event) read out left new → old.state.hint ≡ None
bare_before key old mid (Ok v) event read out left new a none h = sym (ap (λ (c : ClientState). c.hint) a.state) ∙ none
bare_before key old mid (Err fault) event read out left new a none h = absurd (clash h.0)
  where
    clash : Ok event ≡ Err (Call fault) → ⊥
    clash e = absurd cc

alive : (c : ClientState) → change_refusal c ≡ None → c.failed ≡ false
alive c e = by c.failed e
  where
    by : (b : Bool) → (if b then Some Failed else (if is_some c.known then (if is_idle c.call then None else Some Busy) else Some NotReady)) ≡ None →
        b ≡ false
    by true e = absurd cc
    by false e = refl

greeting_waits : (key : List ℕ) (old new : ClientState) (bytes : List ℕ) → Accepts old (Hello key) new bytes → IsNoSync new.call
greeting_waits key old new bytes a = subst (λ (c : ClientState). IsNoSync c.call) (sym a.state) tt

greeted : (key : List ℕ) (old : Client) (event : Event) (read out : List ℕ) (left : Option (List ℕ)) (new : Client)
    → old.state.hint ≡ None → Exchanges old (Hello key) (Ok event) read out left new → new.state.failed ≡ false → new.state.hint ≡ None
greeted key old event read out left new bare x fine =
    event_leaves_the_hint x.called x.first most_reads event read out left new x.answered.1
    (greeting_waits key old.state x.called.state x.first x.accepted) fine
    ∙ ap (λ (c : ClientState). c.hint) x.accepted.state
    ∙ bare

no_base : (s : Scheme) → delta_base s None ≡ None
no_base Simple = refl
no_base Double = refl

-- a sync without a hint asks for the first part of one
by_parts : (s : Scheme) (old : ClientState) → old.hint ≡ None → call_frame (Sync s) old ≡ frame.HintAsk (scheme_byte s) (known_version old.known) 0
by_parts s old none =
    ap (λ (b : Option ℕ). sync_frame b s old) (ap (λ (h : Option Hint). delta_base s h) none ∙ no_base s)

-- ---- a retrieval

-- what was sent begins with these frames
abbrev pub BeginsWith : Scheme → ℕ → List ℕ → Type 0
BeginsWith s profile out = (version : ℕ) × (between : List ℕ) × (beyond : List ℕ) × (out ≡ encoding (frame.Hello profile (replicate 32 0))
    ++ (between ++ (encoding (frame.HintAsk (scheme_byte s) version 0) ++ beyond)))

glue : (a b c d e : List ℕ) → (a ++ b) ++ ((c ++ d) ++ e) ≡ a ++ (b ++ (c ++ (d ++ e)))
glue a b c d e = append_assoc a b ((c ++ d) ++ e) ∙ ap (λ (x : List ℕ). a ++ (b ++ x)) (append_assoc c d e)

synced : (s : Scheme) (old mid : Client) (greeting event : Event) (read1 out1 read2 out2 rest : List ℕ) (left1 left2 : Option (List ℕ)) (new : Client)
    → old.state.hint ≡ None → Exchanges old (Hello (replicate 32 0)) (Ok greeting) read1 out1 left1 mid → Exchanges mid (Sync s) (Ok event) read2 out2 left2 new
    → BeginsWith s old.state.profile (out1 ++ (out2 ++ rest))
synced s old mid greeting event read1 out1 read2 out2 rest left1 left2 new bare x y =
    let a = exchanged_bytes old (Hello (replicate 32 0)) greeting read1 out1 left1 mid x in
    let b = exchanged_bytes mid (Sync s) event read2 out2 left2 new y in
    let none : mid.state.hint ≡ None = greeted (replicate 32 0) old greeting read1 out1 left1 mid bare x (alive mid.state y.accepted.may) in
    let second : List ℕ = encoding (frame.HintAsk (scheme_byte s) (known_version mid.state.known) 0) in
    let first : List ℕ = encoding (frame.Hello old.state.profile (replicate 32 0)) in
    let asks : out2 ≡ second ++ b.0 = b.1 ∙ ap (λ (f : Frame). encoding f ++ b.0) (by_parts s mid.state none) in (
      known_version mid.state.known,
      a.0,
      b.0 ++ rest,
      ap (λ (x : List ℕ). x ++ (out2 ++ rest)) a.1 ∙ ap (λ (x : List ℕ). (first ++ a.0) ++ (x ++ rest)) asks ∙ glue first a.0 second b.0 rest,
    )

-- a retrieval that came to an event has sent the greeting, and after it the ask for the first part
-- of the scheme's hint
retrieval_sends : (least : ℕ) (s : Scheme) (index : ℕ) (old : Client) (event : Event) (read out : List ℕ) (left : Option (List ℕ)) (new : Client)
    → old.state.hint ≡ None → Transacts old (get_steps least s index) (Ok event) read out left new → BeginsWith s old.state.profile out
unfolding Transacts
retrieval_sends least s index old event read out left new bare (inl h) = absurd cc
retrieval_sends least s index old event read out left new bare (inr h) = looked h.10
  where
    asked : (mid : Client) (out2 : List ℕ) → mid ≡ h.0 → out ≡ h.3 ++ out2
        → (r : List ℕ) → Transacts mid (Calls (Sync s) ∷ (Calls (Ask index) ∷ [])) (Ok event) r out2 left new → BeginsWith s old.state.profile out
    asked mid out2 same whole r (inl k) = absurd cc
    asked mid out2 same whole r (inr k) =
        let x : Exchanges old (Hello (replicate 32 0)) (Ok h.9.0) h.1 h.3 h.5 mid =
        subst (λ (c : Client). Exchanges old (Hello (replicate 32 0)) (Ok h.9.0) h.1 h.3 h.5 c) (sym same) h.9.1 in
        let begins = synced s old mid h.9.0 k.9.0 h.1 h.3 k.1 k.3 k.4 h.5 k.5 k.0 bare x k.9.1 in
        subst (BeginsWith s old.state.profile) (sym (whole ∙ ap (λ (o : List ℕ). h.3 ++ o) k.8)) begins

    looked : Transacts h.0 (Judges least ∷ (Calls (Sync s) ∷ (Calls (Ask index) ∷ []))) (Ok event) h.2 h.4 left new → BeginsWith s old.state.profile out
    looked (inl j) = absurd cc
    looked (inr j) =
        asked j.0 j.4 j.9.1.2 (h.8 ∙ ap (λ (o : List ℕ). h.3 ++ o) (j.8 ∙ ap (λ (o : List ℕ). o ++ j.4) j.9.1.1)) j.2 j.10

-- the same, as a writer shows it
pub retrieval_has_sent : (least : ℕ) (s : Scheme) (index : ℕ) (old : Client) (event : Event) (read out : List ℕ) (left held held2 : Option (List ℕ))
    (new : Client)
    → old.state.hint ≡ None → Appends held held2 out → Transacts old (get_steps least s index) (Ok event) read out left new
    → (version : ℕ) × SendsCommand held held2 (frame.Hello old.state.profile (replicate 32 0)) (frame.HintAsk (scheme_byte s) version 0)
retrieval_has_sent least s index old event read out left held held2 new bare went t =
    let b = retrieval_sends least s index old event read out left new bare t in (b.0, (b.1, b.2, subst (Appends held held2) b.3 went))

-- what holds anyway, where an answer is given
pub on_answer : {T E : Type 0} → (r : Result T E) (P : Type 0) → P → IfOk r (λ x. P)
on_answer (Ok x) P p = p
on_answer (Err e) P p = tt
