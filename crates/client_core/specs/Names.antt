-- What faults are called where they are printed.
use Rattle.std.specs.Prelude.{ℕ, List, codes}
use Rattle.client_core.specs.declared.state.CallFault.{CallFault}
use Rattle.client_core.specs.declared.state.CallFault.TheVariants as call
use Rattle.client_core.specs.declared.state.ClientFault.{ClientFault}
use Rattle.client_core.specs.declared.state.ClientFault.TheVariants as client

-- the name of a refused call
unfoldable pub call_fault_name : CallFault → List ℕ
call_fault_name call.NotReady = codes "NotReady"
call_fault_name call.Busy = codes "Busy"
call_fault_name call.BadIndex = codes "BadIndex"
call_fault_name call.SeedUsedUp = codes "SeedUsedUp"
call_fault_name call.Memory = codes "Memory"
call_fault_name call.Failed = codes "Failed"
call_fault_name call.AlreadyWelcome = codes "AlreadyWelcome"

-- the name of a client's fault
unfoldable pub client_fault_name : ClientFault → List ℕ
client_fault_name client.BadWelcome = codes "BadWelcome"
client_fault_name client.BadReply = codes "BadReply"
client_fault_name client.Memory = codes "Memory"
client_fault_name client.Failed = codes "Failed"
