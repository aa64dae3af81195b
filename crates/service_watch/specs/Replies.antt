-- What a reply begins with.
use Rattle.std.specs.Prelude.{ℕ, List, Option, None, Some, cond, length, nat_lt, slice_index}
use Rattle.service_watch.specs.declared.replies.ReplyHead.{ReplyHead}

-- the first byte of a payload; 0 if there is none
abbrev pub first_payload_byte : List ℕ → ℕ
first_payload_byte bytes = cond (nat_lt 5 (length bytes)) (slice_index bytes 5) 0

-- the kind of a reply and the first byte of its payload; none if it doesn't have the five bytes
-- before a payload
abbrev pub reply_head : List ℕ → Option ReplyHead
reply_head bytes = cond (nat_lt (length bytes) 5) None (Some (record { kind = slice_index bytes 4; first = first_payload_byte bytes }))
