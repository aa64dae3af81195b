-- What calls and deliveries make of a link.
use Rattle.std.proofs.Common.{ℕ, [], ◌∷◌, Bool}
use Rattle.version_store.specs.Histories.{History}
use Rattle.server_core.specs.Serving.{Setting}
use Rattle.client_core.specs.Calls.{ClientCall, state_after_call, call_frame}
use Rattle.client_core.specs.Feeding.{takes_all}
use Rattle.pir_world.specs.Runs.{FramesServed, ClientLink, sent, arrived, wire_after, serves}

-- what a delivery to the server leads to
abbrev pub turn_of : Setting → Bool → ℕ → ℕ → History → ClientLink → FramesServed
turn_of x short k most h l = serves x short k h l.standing (arrived l.up most)

-- the link after it
abbrev pub link_served : Setting → Bool → ℕ → ℕ → History → ClientLink → ClientLink
link_served x short k most h l =
    let t = turn_of x short k most h l in
    record { client = l.client; standing = t.standing; up = wire_after l.up most; down = sent l.down t.replies }

-- the link after a delivery to the client
abbrev pub link_reported : ℕ → ClientLink → ClientLink
link_reported most l =
    let t = takes_all l.client (arrived l.down most) in
    record { client = t.state; standing = l.standing; up = sent l.up t.sends; down = wire_after l.down most }

-- the link after an accepted call
abbrev pub link_called : ClientCall → ClientLink → ClientLink
link_called w l =
    record { client = state_after_call w l.client; standing = l.standing; up = sent l.up (call_frame w l.client ∷ []); down = l.down }
