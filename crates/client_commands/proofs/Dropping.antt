-- A client that was to drop its hint.
use Rattle.std.proofs.Common.{◌≡◌, ◌≤◌, ◌+◌, ℕ, Bool, true, false, sym, ap, ◌∙◌, Ok, Err, inl, inr, arith}
use Rattle.std.specs.Prelude.{Result, is_some, if◌then◌else◌}
use Rattle.client_core.specs.declared.state.ClientState.{ClientState}
use Rattle.client_core.specs.declared.state.CallFault.{CallFault}
use Rattle.client_core.specs.declared.resuming.SavedClient.{SavedClient}
use Rattle.client_core.specs.Calls.{Ask, call_refusal, change_refusal}
use Rattle.client_core.specs.Resuming.{IsResumed, IsDropped}
use Rattle.client_commands.specs.Kept.{MakesNoSync}
use Rattle.client_commands.specs.Runs.{number_after_ask}

-- it holds none, or refuses every sync
pub no_sync : (old new : ClientState) (answer : Result (Unit {0}) CallFault) → IsDropped old answer new → MakesNoSync new
no_sync old new (Ok done) d = inl (ap (λ (c : ClientState). c.hint) d.1)
no_sync old new (Err fault) d = inr (fault, ap change_refusal d.1 ∙ d.0)

dropped_number : (old new : ClientState) (answer : Result (Unit {0}) CallFault) → IsDropped old answer new → new.number ≡ old.number
dropped_number old new (Ok done) d = ap (λ (c : ClientState). c.number) d.1
dropped_number old new (Err fault) d = ap (λ (c : ClientState). c.number) d.1

-- an ask over a hint taken up spends one number at most
pub one_at_most : (i : ℕ) (old holding asked new : ClientState) (saved : SavedClient) (answer : Result (Unit {0}) CallFault)
    → IsResumed old saved (Ok true) holding → asked.number ≡ number_after_ask i holding → IsDropped asked answer new
    → (old.number ≤ new.number) × (new.number ≤ old.number + 1)
one_at_most i old holding asked new saved answer resumed spent dropped =
    let held : holding.number ≡ old.number = ap (λ (c : ClientState). c.number) resumed.1.state in
    let last : new.number ≡ asked.number = dropped_number asked new answer dropped in
    let spends : (holding.number ≤ number_after_ask i holding) × (number_after_ask i holding ≤ holding.number + 1) =
    by holding.number (is_some (call_refusal (Ask i) holding)) in
    (omega (arith, held, last, spent, spends.0), omega (arith, held, last, spent, spends.1))
  where
    by : (n : ℕ) (b : Bool) → (n ≤ (if b then n else n + 1)) × ((if b then n else n + 1) ≤ n + 1)
    by n true = (omega arith, omega arith)
    by n false = (omega arith, omega arith)

dropped_failed : (old new : ClientState) (answer : Result (Unit {0}) CallFault) → IsDropped old answer new → new.failed ≡ old.failed
dropped_failed old new (Ok done) d = ap (λ (c : ClientState). c.failed) d.1
dropped_failed old new (Err fault) d = ap (λ (c : ClientState). c.failed) d.1

dropped_seed : (old new : ClientState) (answer : Result (Unit {0}) CallFault) → IsDropped old answer new → new.seed ≡ old.seed
dropped_seed old new (Ok done) d = ap (λ (c : ClientState). c.seed) d.1
dropped_seed old new (Err fault) d = ap (λ (c : ClientState). c.seed) d.1

-- an ask over a hint taken up keeps the seed, unless the client failed
pub same_seed : (old holding asked new : ClientState) (saved : SavedClient) (answer : Result (Unit {0}) CallFault)
    → IsResumed old saved (Ok true) holding → (asked.failed ≡ false → asked.seed ≡ holding.seed) → IsDropped asked answer new
    → new.failed ≡ false → new.seed ≡ old.seed
same_seed old holding asked new saved answer resumed kept dropped alive =
    dropped_seed asked new answer dropped
    ∙ kept (sym (dropped_failed asked new answer dropped) ∙ alive)
    ∙ ap (λ (c : ClientState). c.seed) resumed.1.state
