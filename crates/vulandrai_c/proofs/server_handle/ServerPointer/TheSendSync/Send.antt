-- The session of a `ServerPointer` says the same to every thread.
use mir.Raw.{raw}
use base.Fraction.{full_share}
use base.Shift.{Keyless}
use denote.Memory.{lone}
use denote.RawPtr.{Ptr, block_ptr, null_ptr}
use denote.Param.Send.{IsSend, part_keyless, owning_send, sendable}
use Rattle.std.specs.declared.alloc.Global.{Global}
use Rattle.std.specs.declared.option.Option.{Option}
use Rattle.std.specs.declared.option.Option.TheVariants.{None, Some}
use Rattle.std.proofs.Crossing.{frees}
use Rattle.std.proofs.alloc.Global.TheSendSync as heap
use Rattle.vulandrai_c.specs.ServerHandles.{server_owned_at}
use Rattle.foreign_sessions.specs.declared.server.ServerSession.{ServerSession}
use Rattle.foreign_sessions.specs.contracts.server.ServerSession as session
use Rattle.foreign_sessions.proofs.server.ServerSession.TheSendSync.{the_send}
use Rattle.vulandrai_c.specs.contracts.server_handle.ServerPointer.{the_row, the_type}

owned_keyless : (a : Global) (p : Ptr) (c : Option ServerSession) → Keyless (server_owned_at a p c)
owned_keyless a p None = tt
owned_keyless a null_ptr (Some c) = (tt, frees.frees a (raw (lone (session.the_row).mir)) null_ptr)
owned_keyless a (block_ptr b o) (Some c) = (part_keyless session.the_row the_send full_share c b o, frees.frees a (raw (lone (session.the_row).mir)) (block_ptr b o))

pub send : IsSend the_row
send = owning_send the_type (search sendable, (heap.the_field_send, tt)) (λ d. owned_keyless d.alloc d.at d.session) (λ k x w. tt)
