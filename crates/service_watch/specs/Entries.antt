-- The lines of a log.
use Rattle.std.specs.Prelude.{ℕ, List, [], ◌++◌, Bool, true, false, Option, None, Some, cond, is_some, option_copied, codes, decimal}
use Rattle.std.specs.Net.Text.{socket_text}
use Rattle.std.specs.declared.net.socket_addr.SocketAddr.{SocketAddr}
use Rattle.service_watch.specs.declared.entries.Entry.{Entry}
use Rattle.service_watch.specs.declared.entries.ServiceEvent.{ServiceEvent}
use Rattle.service_watch.specs.declared.entries.ServiceEvent.TheVariants.{Listening, Accepted, Closed, Refused, Published, Stopping, Stopped, LeftOut}
use Rattle.service_watch.specs.declared.entries.LogFormat.{LogFormat}
use Rattle.service_watch.specs.declared.entries.LogFormat.TheVariants.{Text, Json}

-- an event's name
abbrev pub event_name : ServiceEvent → List ℕ
event_name Listening = codes "listening"
event_name Accepted = codes "accepted"
event_name Closed = codes "closed"
event_name Refused = codes "refused"
event_name Published = codes "published"
event_name Stopping = codes "stopping"
event_name Stopped = codes "stopped"
event_name LeftOut = codes "left_out"

-- whether an event with a cause, or without one, is a warning
abbrev pub warns_of : ServiceEvent → Bool → Bool
warns_of Refused caused = true
warns_of LeftOut caused = true
warns_of Closed caused = caused
warns_of _ caused = false

-- whether an entry is a warning
abbrev pub is_warning : Entry → Bool
is_warning e = warns_of e.event (is_some e.what)

-- an entry's level
abbrev pub level_name : Entry → List ℕ
level_name e = cond (is_warning e) (codes "warn") (codes "info")

-- a line's time, level and event
abbrev pub head_text : LogFormat → List ℕ → Entry → List ℕ
head_text Text time e = time ++ (codes " " ++ (level_name e ++ (codes " " ++ event_name e.event)))
head_text Json time e =
    codes "{\"time\":\"" ++ (time ++ (codes "\",\"level\":\"" ++ (level_name e ++ (codes "\",\"event\":\"" ++ (event_name e.event ++ codes "\"")))))

-- a field whose value is written with no quotes
abbrev pub plain_field : LogFormat → List ℕ → List ℕ → List ℕ
plain_field Text name value = codes " " ++ (name ++ (codes "=" ++ value))
plain_field Json name value = codes ",\"" ++ (name ++ (codes "\":" ++ value))

-- a field whose value is written in quotes, in JSON
abbrev pub quoted_field : LogFormat → List ℕ → List ℕ → List ℕ
quoted_field Text name value = codes " " ++ (name ++ (codes "=" ++ value))
quoted_field Json name value = codes ",\"" ++ (name ++ (codes "\":\"" ++ (value ++ codes "\"")))

-- a number's field; nothing if there is none
abbrev pub number_field : LogFormat → List ℕ → Option ℕ → List ℕ
number_field format name None = []
number_field format name (Some n) = plain_field format name (decimal n)

-- an address's field; nothing if there is none
abbrev pub peer_field : LogFormat → Option SocketAddr → List ℕ
peer_field format None = []
peer_field format (Some a) = quoted_field format (codes "peer") (socket_text a)

-- a text's field; nothing if there is none
abbrev pub text_field : LogFormat → List ℕ → Option (List ℕ) → List ℕ
text_field format name None = []
text_field format name (Some text) = quoted_field format name text

-- the end of a line
abbrev pub tail_text : LogFormat → List ℕ
tail_text Text = codes "\n"
tail_text Json = codes "}\n"

-- the line of an entry, with its end
abbrev pub entry_text : LogFormat → List ℕ → Entry → List ℕ
entry_text format time e =
    head_text format time e ++ (number_field format (codes "session") e.session ++ (peer_field format e.address
    ++ (text_field format (codes "what") (option_copied e.what) ++ (number_field format (codes "code") e.code ++ tail_text format))))
