use Rattle.std.proofs.Common.{◌≡◌, ◌∙◌, ℕ, List, Some, sym, ap}
use Rattle.client_core.specs.declared.state.ClientState.{ClientState}
use Rattle.client_core.specs.declared.state.ServerInfo.{ServerInfo}
use Rattle.client_core.specs.declared.state.Hint.{Hint}
use Rattle.client_core.specs.declared.state.Call.TheVariants.{Idle}
use Rattle.client_core.specs.Replies.{AfterReply, hint_with_entries}
use Rattle.client_core.specs.Kinds.{takes_changes}
use Rattle.client_core.proofs.Entries.{changes_taken}
use Rattle.client_core.proofs.changes.take_changes.Goals as goal

pub returns-clause-state : goal.returns-clause-state
returns-clause-state g c =
    let s : ClientState = c.args.state.now in
    let k : ServerInfo = c.in-Some.known in
    let h : Hint = c.in-Some-replace.hint in
    let bytes : List ℕ = c.as_slice-entries.result.now in
    let held : s.hint ≡ Some h = sym c.in-Some-replace.ensures.value in
    c.ends.ensures.state
    ∙ ap (λ (x : Hint). record s { known = Some c.in-Some-known_after.reported; hint = Some x; call = Idle }) c.move_hint.ensures
    ∙ ap (λ (r : ServerInfo). record s { known = Some r; hint = Some (hint_with_entries r.plan h r.version r.count bytes); call = Idle })
    c.in-Some-known_after.ensures.asked.1
    ∙ sym (ap (λ (t : AfterReply). t.state) (changes_taken s k h c.in-Changes.asked c.args.since c.args.now c.args.count bytes c.in-Changes.is c.in-Some.is held
    c.in-Some-known_after.ensures.asked.0))
    ∙ ap (λ (x : List ℕ). (takes_changes s.call s c.args.since c.args.now c.args.count x).state) c.as_slice-entries.ensures.items
