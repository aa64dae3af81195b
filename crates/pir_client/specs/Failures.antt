-- How the program reports a command that was not done.
use Rattle.std.specs.Prelude.{◌≡◌, ℕ, List, codes}
use Rattle.client_core.specs.declared.state.CallFault.{CallFault}
use Rattle.client_core.specs.declared.state.CallFault.TheVariants as call
use Rattle.client_core.specs.Names.{call_fault_name}
use Rattle.blocking_io.specs.declared.conversing.ConverseFault.{ConverseFault}
use Rattle.blocking_io.specs.declared.conversing.ConverseFault.TheVariants as conversation
use Rattle.blocking_io.specs.Names.{converse_fault_name}
use Rattle.client_commands.specs.declared.fault.CommandError.{CommandError}
use Rattle.client_commands.specs.declared.fault.CommandError.TheVariants.{Refused, Stale, Unreadable, ShortSecrets, Call, Conversation}
use Rattle.client_state.specs.declared.fault.FolderFault.{FolderFault}
use Rattle.client_state.specs.declared.fault.FolderFault.TheVariants as folder
use Rattle.command_words.specs.declared.failure.Failure.{Failure}
use Rattle.command_words.specs.declared.failure.Failure.TheVariants as failure
use Rattle.pir_client.specs.declared.sessions.RetrieveError.{RetrieveError}
use Rattle.pir_client.specs.declared.sessions.RetrieveError.TheVariants.{Command, DamagedHint}

-- a fault of this name
abbrev pub IsFault : List ℕ → Failure → Type 0
IsFault name (failure.Fault said) = said.now ≡ name
IsFault name _ = ⊥

-- a refused call; refused memory has a failure of its own
abbrev pub IsCallFault : CallFault → Failure → Type 0
IsCallFault call.Memory said = said ≡ failure.Memory
IsCallFault fault said = IsFault (call_fault_name fault) said

-- a failed conversation, likewise
abbrev pub IsConverseFault : ConverseFault → Failure → Type 0
IsConverseFault conversation.Memory said = said ≡ failure.Memory
IsConverseFault fault said = IsFault (converse_fault_name fault) said

-- the failure that is printed of a command that was not done
abbrev pub IsReported : CommandError → Failure → Type 0
IsReported (Refused code) said = said ≡ failure.Refused code
IsReported (Stale version) said = said ≡ failure.Stale version
IsReported (Unreadable index version) said = said ≡ failure.Unreadable index version
IsReported (ShortSecrets dimension) said = IsFault (codes "BadWelcome") said
IsReported (Call fault) said = IsCallFault fault said
IsReported (Conversation fault) said = IsConverseFault fault said

-- the failure that is printed of a retrieval with a folder
abbrev pub IsRetrieveReported : RetrieveError → Failure → Type 0
IsRetrieveReported DamagedHint said = IsFault (codes "Damaged") said
IsRetrieveReported (Command fault) said = IsReported fault said

-- the failure that is printed of a folder
abbrev pub IsFolderFault : FolderFault → Failure → Type 0
IsFolderFault folder.State said = IsFault (codes "State") said
IsFolderFault folder.Memory said = said ≡ failure.Memory
