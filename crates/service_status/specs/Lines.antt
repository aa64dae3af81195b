-- Which lines are said, how many in a second, and what they are.
use Rattle.std.specs.Prelude.{◌+◌, ◌-◌, ◌++◌, ℕ, List, [], Bool, not, ◌&&◌, ◌||◌, Option, None, Some, is_some, option_copied, unwrap_or, cond, codes, decimal, nat_le, nat_lt}
use Rattle.service_watch.specs.declared.entries.Entry.{Entry}
use Rattle.service_watch.specs.declared.entries.ServiceEvent.{ServiceEvent}
use Rattle.service_watch.specs.declared.entries.ServiceEvent.TheVariants.{Accepted, Closed, Refused}
use Rattle.service_watch.specs.declared.entries.LogFormat.{LogFormat}
use Rattle.service_watch.specs.Entries.{entry_text}
use Rattle.service_status.specs.declared.lines.Quota.{Quota}

-- how many lines a second may have
abbrev pub most_lines : ℕ
most_lines = 20

-- the quota of a moment: that of a second which is over begins anew
abbrev pub quota_at : ℕ → Quota → Quota
quota_at now q = cond (nat_le 1000 (now - q.since)) (record { since = now; said = 0 }) q

-- one more line may be said
abbrev pub has_line : Quota → Bool
has_line q = nat_lt q.said most_lines

-- the quota after one more line, if it may be said
abbrev pub after_line : Quota → Quota
after_line q = cond (has_line q) (record q { said = q.said + 1 }) q

-- whether an entry of an event is said: of connections nothing if it is quiet, and without a format
-- only why one was closed
abbrev pub is_event_said : Bool → Bool → Bool → ServiceEvent → Bool
is_event_said quiet has_format has_cause Accepted = not quiet && has_format
is_event_said quiet has_format has_cause Refused = not quiet && has_format
is_event_said quiet has_format has_cause Closed = not quiet && (has_format || has_cause)
is_event_said quiet has_format has_cause _ = has_format

-- whether an entry is said
abbrev pub is_said : Bool → Option LogFormat → Entry → Bool
is_said quiet format e = is_event_said quiet (is_some format) (is_some e.what) e.event

-- a line without a format: of a count of lines that were left out, or of a cause
abbrev pub plain_text : List ℕ → Option ℕ → List ℕ
plain_text what (Some count) = codes "connections: " ++ (decimal count ++ codes " lines left out\n")
plain_text what None = codes "connection: " ++ (what ++ codes "\n")

-- an entry's line
abbrev pub line_text : Option LogFormat → List ℕ → Entry → List ℕ
line_text (Some format) time e = entry_text format time e
line_text None time e = plain_text (unwrap_or (option_copied e.what) []) e.code
