-- Why a server refuses a frame, and the code of it in Refused.
use Rattle.std.specs.Prelude.{ℕ}
use Rattle.frame_codec.specs.declared.frame.Frame.{Frame}
use Rattle.frame_codec.specs.declared.frame.Frame.TheVariants.{Refused}
use Rattle.frame_codec.specs.declared.refusal.Refusal.{Refusal}
use Rattle.frame_codec.specs.declared.refusal.Refusal.TheVariants as refusal

-- the code of a refusal in a frame
abbrev pub code_of : Refusal → ℕ
code_of refusal.BadFrame = 1
code_of refusal.NotWelcome = 2
code_of refusal.BadProfile = 3
code_of refusal.BadKey = 4
code_of refusal.NotPublisher = 5
code_of refusal.BadIndex = 6
code_of refusal.BadLength = 7
code_of refusal.NothingToPublish = 8
code_of refusal.VersionsUsedUp = 9
code_of refusal.BadPart = 10
code_of refusal.BadQueryLength = 11
code_of refusal.Memory = 12
code_of refusal.BadScheme = 13
code_of refusal.Full = 14

-- the reply of a refusal
abbrev pub refused : Refusal → Frame
refused why = Refused (code_of why)
