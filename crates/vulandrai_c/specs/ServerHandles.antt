-- What the handle of a server owns.
use Rattle.std.specs.Prelude.{Option, None, Some}
use base.Fml.{Fml, ftrue}
use denote.RawPtr.{Ptr}
use Rattle.std.specs.declared.alloc.Global.{Global}
use Rattle.std.specs.contracts.impls.GlobalAllocator.TheImpl.{ghosts}
use Rattle.std_alloc.specs.Box.Ownership.{box_owns}
use Rattle.foreign_sessions.specs.declared.server.ServerSession.{ServerSession}
use Rattle.foreign_sessions.specs.contracts.server.ServerSession.{the_row}

-- what a place owns with an allocator: the box of a server, if there is one
abbrev pub server_owned_at : Global → Ptr → Option ServerSession → Fml
server_owned_at a p None = ftrue
server_owned_at a p (Some s) = box_owns (ghosts.dealloc_token a) the_row p s
