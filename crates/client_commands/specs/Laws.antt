-- What a kept hint may change of what is sent.
use Rattle.std.specs.Prelude.{◌≡◌, ℕ, List}
use Rattle.client_core.specs.declared.state.ClientState.{ClientState}
use Rattle.client_core.specs.declared.state.Hint.{Hint}
use Rattle.client_core.specs.Calls.{ClientCall, call_refusal, call_frame, Accepts}
use Rattle.client_core.specs.Resuming.{holding}

-- With the one hint as with the other a client refuses a call alike, and else sends the same frame,
-- and thereby the same bytes.
pub record SendsAlike (c : ClientState) (want : ClientCall) (one other : Hint) : Type 0 where
  pub refused : call_refusal want (holding c one) ≡ call_refusal want (holding c other)
  pub frame : call_frame want (holding c one) ≡ call_frame want (holding c other)
  pub bytes : (new later : ClientState) (sent said : List ℕ) → Accepts (holding c one) want new sent → Accepts (holding c other) want later said → sent ≡ said

-- So it is with every call of every client, and an ask among them: of a hint, its scheme and its
-- version alone change what is sent.
abbrev pub WordsOfAHintAreNotSent : Type 0
WordsOfAHintAreNotSent = (c : ClientState) (want : ClientCall) (one other : Hint) → one.scheme ≡ other.scheme → one.version ≡ other.version →
    SendsAlike c want one other
