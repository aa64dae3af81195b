-- What a command line asks for.
use Rattle.std.specs.Prelude.{◌≡◌, ◌+◌, ◌⊎◌, ℕ, List, codes, Bool, true, false, Option, None, Some, IsSomeAnd, MatchBool, MatchOption}
use Rattle.std.specs.Str.Parse.{IsNumeral, digits_value}
use Rattle.clap.specs.declared.parser.matches.Found.{Found}
use Rattle.clap.specs.Matches.{first_value, one_text}
use Rattle.command_words.specs.declared.secrets.Secret.{Secret}
use Rattle.command_words.specs.Given.{IsNumberGiven, IsNumberIfGiven, IsSecretGiven, IsFlagGiven}
use Rattle.service_watch.specs.declared.draft_life.DraftLife.{DraftLife}
use Rattle.service_watch.specs.declared.draft_life.DraftLife.TheVariants.{Publication, Session}
use Rattle.service_watch.specs.declared.entries.LogFormat.{LogFormat}
use Rattle.service_watch.specs.declared.entries.LogFormat.TheVariants.{Text, Json}
use Rattle.server_words.specs.declared.make_line.Making.{Making}
use Rattle.server_words.specs.declared.command_line.Migrating.{Migrating}
use Rattle.server_words.specs.declared.command_line.Widening.{Widening}
use Rattle.server_words.specs.declared.command_line.BackingUp.{BackingUp}
use Rattle.server_words.specs.declared.command_line.Rekeying.{Rekeying}
use Rattle.server_words.specs.declared.command_line.Serving.{Serving}
use Rattle.server_words.specs.declared.run_line.RunOptions.{RunOptions}

-- what was given for a name is this number in decimal digits, or nothing was given and it is the
-- usual one
abbrev pub IsNumberOr : ℕ → Found → List ℕ → ℕ → Type 0
IsNumberOr usual found name n =
    MatchOption (first_value found name) (n ≡ usual) (λ text. IsNumeral 10 text × (digits_value 10 text ≡ n))

-- a new store, as the options of `make` ask for it, but whether it must be new and whether it is
-- said how much was read
abbrev pub ReadsMake : Found → Making → Type 0
ReadsMake found making =
    (first_value found (codes "out") ≡ Some making.out.now) × IsNumberOr 1 found (codes "form") making.form
    × IsFlagGiven found (codes "wide") making.wide
    × IsNumberGiven found (codes "width") making.width × IsNumberGiven found (codes "record") making.record_len
    × IsNumberGiven found (codes "groups") making.groups × IsNumberIfGiven found (codes "count") making.count
    × IsSecretGiven found (codes "seed") making.seed
    × IsSecretGiven found (codes "key") making.key

-- a move into slots, as those of `migrate` do
abbrev pub ReadsMigrate : Found → Migrating → Type 0
ReadsMigrate found migrating =
    (first_value found (codes "file") ≡ Some migrating.file.now) × (first_value found (codes "out") ≡ Some migrating.out.now)

-- a wide store of a file's records, as those of `widen` do
abbrev pub ReadsWiden : Found → Widening → Type 0
ReadsWiden found widening =
    (first_value found (codes "file") ≡ Some widening.file.now) × (first_value found (codes "out") ≡ Some widening.out.now)
    × IsSecretGiven found (codes "seed") widening.seed

-- another publisher's key, as those of `rekey` do
abbrev pub ReadsRekey : Found → Rekeying → Type 0
ReadsRekey found rekeying =
    (first_value found (codes "file") ≡ Some rekeying.file.now) × IsSecretGiven found (codes "key") rekeying.key

-- so many connections one after the other, as those of `serve` do
abbrev pub ReadsServe : Found → Serving → Type 0
ReadsServe found serving =
    (first_value found (codes "file") ≡ Some serving.file.now) × IsNumberGiven found (codes "port") serving.port
    × IsNumberGiven found (codes "connections") serving.connections

-- How a log's lines are written, if that was given.
abbrev pub ReadsFormat : Found → Option LogFormat → Type 0
ReadsFormat found None = first_value found (codes "log") ≡ None
ReadsFormat found (Some Text) = first_value found (codes "log") ≡ Some (codes "text")
ReadsFormat found (Some Json) = first_value found (codes "log") ≡ Some (codes "json")

-- with what a draft ends: as the word given says, or with its publication alone
abbrev pub ReadsDraft : Found → DraftLife → Type 0
ReadsDraft found Publication = (first_value found (codes "draft") ≡ None) ⊎ (first_value found (codes "draft") ≡ Some (codes "publication"))
ReadsDraft found Session = first_value found (codes "draft") ≡ Some (codes "session")

-- How many seconds what was begun has after the end of standard input: the number given, or 10. If
-- the flag is not given, there is none, and none was given.
abbrev pub ReadsGrace : Found → Option ℕ → Type 0
ReadsGrace found grace =
    (stops : Bool) × IsFlagGiven found (codes "until-eof") stops
    × MatchBool stops (IsSomeAnd grace (IsNumberOr 10 found (codes "grace"))) ((grace ≡ None) × (first_value found (codes "grace") ≡ None))

-- how many connections there may be at once: the number given by the option's clearer name or, if
-- there is none, by the other one, or 256
abbrev pub ReadsMost : Found → ℕ → Type 0
ReadsMost found most =
    MatchOption (first_value found (codes "max-connections")) (IsNumberOr 256 found (codes "most") most)
    (λ text. IsNumeral 10 text × (digits_value 10 text ≡ most))

-- how many connections one address may have: the number given by either name, or none
abbrev pub ReadsMostPerPeer : Found → Option ℕ → Type 0
ReadsMostPerPeer found most =
    MatchOption (first_value found (codes "max-connections-per-peer")) (IsNumberIfGiven found (codes "most-per-peer") most)
    (λ text. IsNumeral 10 text × (most ≡ Some (digits_value 10 text)))

-- connections side by side, as those of `run` do, but the addresses, whether it is quiet, and
-- whether it is said how far the hints are
abbrev pub ReadsRun : Found → RunOptions → Type 0
ReadsRun found running =
    (first_value found (codes "file") ≡ Some running.file.now) × ReadsMost found running.most
    × IsNumberOr 60 found (codes "idle") running.idle × IsNumberOr 256 found (codes "memory") running.memory × IsNumberOr 64 found (codes "log-limit") running.log_limit
    × ReadsGrace found running.grace × ReadsMostPerPeer found running.most_per_peer × ReadsFormat found running.log
    × ReadsDraft found running.draft

-- a copy of a file's last version, as those of `backup` do
abbrev pub ReadsBackup : Found → BackingUp → Type 0
ReadsBackup found backing_up =
    (first_value found (codes "file") ≡ Some backing_up.file.now) × (first_value found (codes "out") ≡ Some backing_up.out.now)
