-- What a command line asks for.
use Rattle.std.specs.Prelude.{◌≡◌, ◌<◌, ◌≤◌, ◌^◌, ℕ, List, length, codes, Bool, true, false, Option, Some, None, MatchOption}
use Rattle.std.specs.Str.Parse.{IsNumeral, digits_value}
use Rattle.clap.specs.declared.parser.matches.Found.{Found}
use Rattle.clap.specs.Matches.{first_value, one_text}
use Rattle.command_words.specs.declared.secrets.Secret.{Secret}
use Rattle.command_words.specs.Given.{IsNumberGiven, IsNumberIfGiven, IsSecretGiven, IsFlagGiven}
use Rattle.command_words.specs.Secrets.{IsKey}
use Rattle.command_words.specs.Values.{bytes_in}
use Rattle.hint_file.specs.Texts.{scheme_text}
use Rattle.pir_client.specs.declared.server.Address.{Address}
use Rattle.pir_client.specs.declared.command_line.Task.{Task}
use Rattle.pir_client.specs.declared.command_line.Task.TheVariants.{Get, Put, Append, Publish, Folder, Rehearse}

-- a least dimension, if there is one, is that of some secrets
abbrev pub IsDimension : Option ℕ → Type 0
IsDimension None = Unit {0}
IsDimension (Some n) = (1 ≤ n) × (n ≤ 1024)

-- a time limit, if there is one, is of a second to a day
abbrev pub IsTimeout : Option ℕ → Type 0
IsTimeout None = Unit {0}
IsTimeout (Some seconds) = (1 ≤ seconds) × (seconds ≤ 86400)

-- the number of a retrieval is a possible one, a key is a publisher's, and the bytes of a record
-- fit a frame
abbrev pub TaskFits : Task → Type 0
TaskFits (Get server seed number least scheme index) = (number < 2 ^ 62) × IsDimension least
TaskFits (Put server key index bytes) = IsKey key × (length bytes.items ≤ 65535)
TaskFits (Append server key bytes) = IsKey key × (length bytes.items ≤ 65535)
TaskFits (Publish server key) = IsKey key
TaskFits (Folder task) = Unit {0}
TaskFits Rehearse = Unit {0}

-- the server at the port that was given, with the time limit that was given
abbrev pub IsServerGiven : Found → Address → Type 0
IsServerGiven found server =
    IsNumberGiven found (codes "port") server.port × IsNumberIfGiven found (codes "timeout") server.timeout
    × IsFlagGiven found (codes "wide") server.wide

-- the host that was given, or this machine
abbrev pub IsHostGiven : Found → Address → Type 0
IsHostGiven found server =
    MatchOption (first_value found (codes "host")) (server.host.now ≡ codes "127.0.0.1") (λ text. server.host.now ≡ text)

-- what was given for a name are these bytes in hex, or the dash for none
abbrev pub AreBytesGiven : Found → List ℕ → List ℕ → Type 0
AreBytesGiven found name bytes = MatchOption (first_value found name) ⊥ (λ text. bytes_in text ≡ Some bytes)

-- a retrieval, as the options and the word of `get` ask for it
abbrev pub ReadsGet : Found → Task → Type 0
ReadsGet found (Get server seed number least scheme index) =
    IsServerGiven found server × IsHostGiven found server × IsSecretGiven found (codes "seed") seed × IsNumberGiven found (codes "number") number
    × IsNumberIfGiven found (codes "least-dimension") least × (first_value found (codes "scheme") ≡ Some (scheme_text scheme))
    × IsNumberGiven found (codes "INDEX") index
ReadsGet found (Put server key index bytes) = ⊥
ReadsGet found (Append server key bytes) = ⊥
ReadsGet found (Publish server key) = ⊥
ReadsGet found (Folder task) = ⊥
ReadsGet found Rehearse = ⊥

-- an edit, as those of `put` do
abbrev pub ReadsPut : Found → Task → Type 0
ReadsPut found (Get server seed number least scheme index) = ⊥
ReadsPut found (Put server key index bytes) =
    IsServerGiven found server × IsSecretGiven found (codes "key") key × IsNumberGiven found (codes "INDEX") index
    × AreBytesGiven found (codes "HEX") bytes.items
ReadsPut found (Append server key bytes) = ⊥
ReadsPut found (Publish server key) = ⊥
ReadsPut found (Folder task) = ⊥
ReadsPut found Rehearse = ⊥

-- the addition of a record, as the options and the word of `append` ask for it
abbrev pub ReadsAppend : Found → Task → Type 0
ReadsAppend found (Get server seed number least scheme index) = ⊥
ReadsAppend found (Put server key index bytes) = ⊥
ReadsAppend found (Append server key bytes) =
    IsServerGiven found server × IsSecretGiven found (codes "key") key × AreBytesGiven found (codes "HEX") bytes.items
ReadsAppend found (Publish server key) = ⊥
ReadsAppend found (Folder task) = ⊥
ReadsAppend found Rehearse = ⊥

-- a publication, as those of `publish` do
abbrev pub ReadsPublish : Found → Task → Type 0
ReadsPublish found (Get server seed number least scheme index) = ⊥
ReadsPublish found (Put server key index bytes) = ⊥
ReadsPublish found (Append server key bytes) = ⊥
ReadsPublish found (Publish server key) = IsServerGiven found server × IsSecretGiven found (codes "key") key
ReadsPublish found (Folder task) = ⊥
ReadsPublish found Rehearse = ⊥
