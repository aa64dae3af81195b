-- What the handles of both sides have in common. S is what one holds: a client, or a server.
use Rattle.std.specs.Prelude.{◌≡◌, ℕ, Option, None, Some, ⊤}
use Rattle.std.specs.declared.alloc.Global.{Global}
use Rattle.std.specs.declared.boxed.Box.{Box}

-- the handle holds something
abbrev pub IsThere : {S : Type 0} → Option S → Type 0
IsThere None = ⊥
IsThere (Some s) = ⊤

-- the mark of a handle: 1 if it holds something, 0 if it is closed
abbrev pub mark : {S : Type 0} → Option S → ℕ
mark None = 0
mark (Some s) = 1

-- what is in a box, if there is a box
abbrev pub inside : {S : Type 0} → Option (Box S Global) → Option S
inside None = None
inside (Some b) = Some b.value

-- a call on a handle: a closed one stays closed, and the code is 32; else what it held before and
-- what it holds after are as P says
abbrev pub CallsOn : {S : Type 0} → Option S → Option S → ℕ → (S → S → Type 0) → Type 0
CallsOn None None code P = code ≡ 32
CallsOn None (Some new) code P = ⊥
CallsOn (Some old) None code P = ⊥
CallsOn (Some old) (Some new) code P = P old new
