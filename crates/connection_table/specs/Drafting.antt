-- The sessions that edited a draft.
use Rattle.std.specs.Prelude.{ℕ, List, Bool, false, ◌&&◌, Option, None, Some, cond, is_none, nat_eq}
use Rattle.std.specs.List.{count_by}
use Rattle.service_watch.specs.declared.replies.ReplyHead.{ReplyHead}
use Rattle.connection_table.specs.declared.connection.ServedConnection.{ServedConnection}

-- whether a reply says that what was asked for is done
abbrev pub is_done : Option ReplyHead → Bool
is_done None = false
is_done (Some reply) = nat_eq reply.kind 0x87

-- The version whose draft a session has edited last, after a turn on the draft of a version: that
-- one, if the turn replied Done and published nothing.
abbrev pub edited_after : Option ℕ → Option ReplyHead → Option ℕ → ℕ → Option ℕ
edited_after before reply published version = cond (is_done reply && is_none published) (Some version) before

-- whether a number is there, and is this one
abbrev pub is_number : ℕ → Option ℕ → Bool
is_number n None = false
is_number n (Some m) = nat_eq m n

-- whether a connection's session has edited the draft of a version, and goes on
abbrev pub edits : ℕ → Option ServedConnection → Bool
edits version None = false
edits version (Some c) = is_none c.lingers && is_number version c.watch.edited

-- how many connections there are whose session has edited the draft of a version, and goes on
abbrev pub editor_count : ℕ → List (Option ServedConnection) → ℕ
editor_count version places = count_by (edits version) places
