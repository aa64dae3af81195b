-- What is seen of the streams of connections, and how many a peer has.
use Rattle.std.specs.Prelude.{ℕ, List, Bool, false, Option, None, Some, cond, drop, length, bytes_eq, nat_eq, nat_lt}
use Rattle.std.specs.List.{count_by}
use Rattle.service_watch.specs.declared.replies.ReplyHead.{ReplyHead}
use Rattle.service_watch.specs.Replies.{reply_head}
use Rattle.connection_table.specs.declared.connection.ServedConnection.{ServedConnection}

-- the reply that is at the end of what is owed, after so many bytes that were looked at; the one
-- before if there is none
abbrev pub seen_reply : ℕ → List ℕ → Option ReplyHead → Option ReplyHead
seen_reply seen owed before = cond (nat_lt seen (length owed)) (reply_head (drop seen owed)) before

-- whether a connection is of a peer
abbrev pub is_of : List ℕ → Option ServedConnection → Bool
is_of peer None = false
is_of peer (Some c) = bytes_eq c.peer peer

-- how many connections a peer has
abbrev pub peer_count : List ℕ → List (Option ServedConnection) → ℕ
peer_count peer places = count_by (is_of peer) places

-- the version that a turn published, from those before and after it
abbrev pub published_between : ℕ → ℕ → Option ℕ
published_between before after = cond (nat_eq before after) None (Some after)
