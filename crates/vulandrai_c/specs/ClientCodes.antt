-- The codes of a client's results, as include/vulandrai.h lists them.
use Rattle.std.specs.Prelude.{ℕ, Bool, true, false, Result, Ok, Err}
use Rattle.client_core.specs.declared.state.CallFault.{CallFault}
use Rattle.client_core.specs.declared.state.CallFault.TheVariants as call
use Rattle.client_core.specs.declared.state.ClientFault.{ClientFault}
use Rattle.client_core.specs.declared.state.ClientFault.TheVariants as client
use Rattle.foreign_sessions.specs.declared.client.SessionFault.{SessionFault}
use Rattle.foreign_sessions.specs.declared.client.SessionFault.TheVariants as session
use Rattle.foreign_sessions.specs.declared.client.FeedFault.{FeedFault}
use Rattle.foreign_sessions.specs.declared.client.FeedFault.TheVariants as feed
use Rattle.foreign_sessions.specs.declared.client.ResumeFault.{ResumeFault}
use Rattle.foreign_sessions.specs.declared.client.ResumeFault.TheVariants as resume
use Rattle.hint_file.specs.declared.heads.HintError.{HintError}
use Rattle.hint_file.specs.declared.heads.HintError.TheVariants as hint

-- the code of a call that the client refuses
abbrev pub call_code : CallFault → ℕ
call_code call.NotReady = 1
call_code call.Busy = 2
call_code call.BadIndex = 3
call_code call.SeedUsedUp = 4
call_code call.Memory = 5
call_code call.Failed = 6
call_code call.AlreadyWelcome = 7

-- the code of a client's call
abbrev pub session_code : Result (Unit {0}) SessionFault → ℕ
session_code (Ok done) = 0
session_code (Err session.Untaken) = 36
session_code (Err (session.Call fault)) = call_code fault

-- the code of what ends a client
abbrev pub client_code : ClientFault → ℕ
client_code client.BadWelcome = 16
client_code client.BadReply = 17
client_code client.Memory = 5
client_code client.Failed = 6

-- the code of a piece of a client's stream
abbrev pub feed_code : Result (Unit {0}) FeedFault → ℕ
feed_code (Ok done) = 0
feed_code (Err feed.Untaken) = 36
feed_code (Err (feed.Client fault)) = client_code fault

-- the code of bytes that are no file of a hint, or for which memory is refused
abbrev pub hint_code : HintError → ℕ
hint_code hint.Damaged = 80
hint_code hint.Read = 70
hint_code hint.Memory = 5

-- the code of a resumption
abbrev pub resume_code : Result Bool ResumeFault → ℕ
resume_code (Ok true) = 0
resume_code (Ok false) = 81
resume_code (Err (resume.File fault)) = hint_code fault
resume_code (Err (resume.Call fault)) = call_code fault
