-- What a client sends, with two hints of one scheme and one version.
use Rattle.std.proofs.Common.{◌≡◌, ◌^◌, ℕ, Bool, cond, List, Option, Some, None, refl, sym, ap, ◌∙◌}
use Rattle.std.specs.Prelude.{◌==◌, nat_lt}
use Rattle.frame_codec.specs.declared.frame.Frame.{Frame}
use Rattle.frame_codec.specs.declared.frame.Frame.TheVariants as frame
use Rattle.frame_codec.specs.Frames.{encoding}
use Rattle.pir_schemes.specs.declared.scheme.Scheme.{Scheme}
use Rattle.pir_schemes.specs.declared.scheme.Scheme.TheVariants.{Simple, Double}
use Rattle.pir_schemes.specs.Schemes.{scheme_byte}
use Rattle.client_core.specs.declared.state.ClientState.{ClientState}
use Rattle.client_core.specs.declared.state.ServerInfo.{ServerInfo}
use Rattle.client_core.specs.declared.state.Hint.{Hint}
use Rattle.client_core.specs.declared.state.CallFault.{CallFault}
use Rattle.client_core.specs.declared.state.CallFault.TheVariants.{NotReady, Busy, BadIndex, SeedUsedUp, Failed}
use Rattle.client_core.specs.States.{is_idle, is_ready, known_version, known_count, simple_version, delta_base}
use Rattle.client_core.specs.Calls.{ClientCall, Hello, Sync, Ask, Edit, Append, Publish, call_refusal, sync_frame, call_frame, call_words, Accepts}
use Rattle.client_core.specs.Resuming.{holding}
use Rattle.client_commands.specs.Laws.{WordsOfAHintAreNotSent}

-- whether an ask is refused, by whether a hint of the last version known is held
abbrev refusal_by : ClientState → ℕ → Bool → Option CallFault
refusal_by c i ready =
    cond c.failed (Some Failed)
    (cond ready
    (cond (is_idle c.call) (cond (nat_lt i (known_count c.known)) (cond (nat_lt c.number (2 ^ 62)) None (Some SeedUsedUp)) (Some BadIndex)) (Some Busy))
    (Some NotReady))

ready_alike : (known : Option ServerInfo) (one other : Hint) → one.version ≡ other.version → is_ready known (Some one) ≡ is_ready known (Some other)
ready_alike None one other v = refl
ready_alike (Some k) one other v = ap (λ (x : ℕ). x == k.version) v

refused_alike : (c : ClientState) (want : ClientCall) (one other : Hint) → one.version ≡ other.version →
    call_refusal want (holding c one) ≡ call_refusal want (holding c other)
refused_alike c (Ask i) one other v = ap (refusal_by c i) (ready_alike c.known one other v)
refused_alike c (Hello key) one other v = refl
refused_alike c (Sync scheme) one other v = refl
refused_alike c (Edit i bytes) one other v = refl
refused_alike c (Append bytes) one other v = refl
refused_alike c Publish one other v = refl

base_alike : (s : Scheme) (one other : Hint) → one.scheme ≡ other.scheme → one.version ≡ other.version →
    delta_base s (Some one) ≡ delta_base s (Some other)
base_alike Simple one other e v = ap (λ (x : Scheme). simple_version x one.version) e ∙ ap (simple_version other.scheme) v
base_alike Double one other e v = refl

begun_alike : (base : Option ℕ) (s : Scheme) (c : ClientState) (one other : Hint) → sync_frame base s (holding c one) ≡ sync_frame base s (holding c other)
begun_alike None s c one other = refl
begun_alike (Some since) s c one other = refl

frame_alike : (c : ClientState) (want : ClientCall) (one other : Hint) → one.scheme ≡ other.scheme → one.version ≡ other.version →
    call_frame want (holding c one) ≡ call_frame want (holding c other)
frame_alike c (Ask i) one other e v =
    ap (λ (s : Scheme). frame.Query (scheme_byte s) (known_version c.known) (call_words c.known s c.seed c.number i)) e
frame_alike c (Sync scheme) one other e v =
    ap (λ (base : Option ℕ). sync_frame base scheme (holding c one)) (base_alike scheme one other e v)
    ∙ begun_alike (delta_base scheme (Some other)) scheme c one other
frame_alike c (Hello key) one other e v = refl
frame_alike c (Edit i bytes) one other e v = refl
frame_alike c (Append bytes) one other e v = refl
frame_alike c Publish one other e v = refl

bytes_of_call : (want : ClientCall) (old new : ClientState) (bytes : List ℕ) → Accepts old want new bytes → bytes ≡ encoding (call_frame want old)
bytes_of_call want old new bytes a = a.written

pub words_of_a_hint_are_not_sent : WordsOfAHintAreNotSent
words_of_a_hint_are_not_sent c want one other e v = record {
  refused = refused_alike c want one other v;
  frame = frame_alike c want one other e v;
  bytes = λ new later sent said a b. bytes_of_call want (holding c one) new sent a ∙ ap encoding (frame_alike c want one other e v)
      ∙ sym (bytes_of_call want (holding c other) later said b);
}
