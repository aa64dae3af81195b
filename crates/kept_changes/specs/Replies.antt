-- What a reply to an ask for changed records says.
use Rattle.std.specs.Prelude.{◌≡◌, ◌≢◌, ℕ, true}
use Rattle.frame_codec.specs.declared.frame.Frame.{Frame}
use Rattle.frame_codec.specs.declared.frame.Frame.TheVariants as frame
use Rattle.pir_schemes.specs.declared.plan.Plan.{Plan}
use Rattle.change_file.specs.Files.{HintMove, move_of}
use Rattle.client_core.specs.Replies.{have_slots}
use Rattle.kept_changes.specs.declared.replies.ChangesReply.{ChangesReply}
use Rattle.kept_changes.specs.declared.replies.ChangesReply.TheVariants.{Moves, NoChanges, Other}
use Rattle.kept_changes.specs.Moves.{IsMoveOf}

-- a move that was asked for: since the version asked, to one that can be, with the bytes of records
pub record IsMoveAsked (p : Plan) (asked : ℕ) (m : HintMove) : Type 0 where
  pub since : m.since ≡ asked
  pub version : m.version ≢ 0
  pub can_be : IsMoveOf p m
  pub slots : have_slots p m.entries ≡ true

-- Changes are a move if it is one that was asked for
abbrev pub IsJudgedMove : Plan → ℕ → HintMove → ChangesReply → Type 0
IsJudgedMove p asked m (Moves block) = (move_of block ≡ m) × IsMoveAsked p asked m
IsJudgedMove p asked m NoChanges = ⊥
IsJudgedMove p asked m Other = ¬ IsMoveAsked p asked m

-- what a frame says as a reply; of all kinds two are replies to this ask
abbrev pub IsJudgedReply : Plan → ℕ → Frame → ChangesReply → Type 0
IsJudgedReply p asked (frame.Changes since now count entries) reply =
    IsJudgedMove p asked (record { since = since; version = now; count = count; entries = entries }) reply
IsJudgedReply p asked (frame.NoDelta version count) reply = reply ≡ NoChanges
IsJudgedReply p asked _ reply = reply ≡ Other
