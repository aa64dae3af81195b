-- What each kind of reply leads to during a call: the cases of `reaction_during`, by the fields of
-- the frame.
use Rattle.std.specs.Prelude.{ℕ, List, ◌++◌, Option}
use Rattle.frame_codec.specs.declared.frame.Frame.{Frame}
use Rattle.frame_codec.specs.declared.frame.Frame.TheVariants as frame
use Rattle.frame_codec.specs.Rows.{RowList}
use Rattle.pir_schemes.specs.declared.scheme.Scheme.{Scheme}
use Rattle.pir_schemes.specs.declared.plan.Plan.{Plan}
use Rattle.pir_schemes.specs.Plans.{record_of}
use Rattle.pir_schemes.specs.Retrievals.{hint_len, reading}
use Rattle.client_core.specs.declared.state.ClientState.{ClientState}
use Rattle.client_core.specs.declared.state.ServerInfo.{ServerInfo}
use Rattle.client_core.specs.declared.state.Hint.{Hint}
use Rattle.client_core.specs.declared.state.Call.{Call}
use Rattle.client_core.specs.declared.state.Event.{Event}
use Rattle.client_core.specs.States.{shape_known}
use Rattle.client_core.specs.Replies.{AfterReply, ended, if_known, if_held, is_part, reaction_to_part, event_read, is_answer, reaction_during}

-- what a Welcome leads to during a call
abbrev pub takes_welcome : Call → ClientState → Plan → ℕ → ℕ → AfterReply
takes_welcome call c p count version =
    reaction_during (frame.Welcome p.form p.width p.record_len p.groups count version p.dimension p.seed) call c

-- what a part of a hint leads to during a call
abbrev pub takes_part : Call → ClientState → ℕ → ℕ → ℕ → List ℕ → AfterReply
takes_part call c scheme version part words = reaction_during (frame.HintPart scheme version part words) call c

-- what a part of a hint leads to in a sync by parts
abbrev pub takes_asked_part : Option ServerInfo → Scheme → ClientState → ℕ → ℕ → ℕ → ℕ → ℕ → List ℕ → AfterReply
takes_asked_part known s c asked next scheme version part words =
    if_known c known (λ k. is_part s (hint_len s (shape_known k) k.plan.dimension) asked next scheme version part words)
    (λ k. reaction_to_part s k c asked next (c.parts ++ words))

-- what an answer leads to during a call
abbrev pub takes_answer : Call → ClientState → ℕ → ℕ → List ℕ → AfterReply
takes_answer call c scheme version words = reaction_during (frame.Answer scheme version words) call c

-- the event that an answer's digits give
abbrev pub event_of : Plan → ℕ → ℕ → List ℕ → Event
event_of p i version digits = event_read i version (record_of p digits)

-- what an answer leads to during an ask
abbrev pub answered : Option ServerInfo → Option Hint → ClientState → ℕ → ℕ → ℕ → ℕ → ℕ → List ℕ → AfterReply
answered known hint c i asked number scheme version words =
    if_held c known hint (λ k h. is_answer h.scheme k asked scheme version words)
    (λ k h. ended c (event_of k.plan i version (reading h.scheme (shape_known k) h.matrix c.seed number i words)))

-- what a Stale leads to during a call
abbrev pub takes_stale : Call → ClientState → ℕ → ℕ → AfterReply
takes_stale call c version count = reaction_during (frame.Stale version count) call c

-- what a Delta leads to during a call
abbrev pub takes_delta : Call → ClientState → ℕ → ℕ → ℕ → RowList → AfterReply
takes_delta call c since now count rows = reaction_during (frame.Delta since now count rows) call c

-- what Changes lead to during a call
abbrev pub takes_changes : Call → ClientState → ℕ → ℕ → ℕ → List ℕ → AfterReply
takes_changes call c since now count entries = reaction_during (frame.Changes since now count entries) call c

-- what a NoDelta leads to during a call
abbrev pub takes_no_delta : Call → ClientState → ℕ → ℕ → AfterReply
takes_no_delta call c version count = reaction_during (frame.NoDelta version count) call c

-- what a Done leads to during a call
abbrev pub takes_done : Call → ClientState → ℕ → AfterReply
takes_done call c version = reaction_during (frame.Done version) call c

-- what a Refused leads to during a call
abbrev pub takes_refused : Call → ClientState → ℕ → AfterReply
takes_refused call c code = reaction_during (frame.Refused code) call c

-- a reply about the hint: it brings a part of one or moves the one held, or says that it can't be
-- moved
abbrev pub IsHintReply : Frame → Type 0
IsHintReply (frame.HintPart scheme version part words) = Unit {0}
IsHintReply (frame.Delta since now count rows) = Unit {0}
IsHintReply (frame.Changes since now count entries) = Unit {0}
IsHintReply (frame.NoDelta version count) = Unit {0}
IsHintReply _ = ⊥
