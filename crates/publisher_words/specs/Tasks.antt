-- What a command line asks for.
use Rattle.std.specs.Prelude.{◌≡◌, ◌≤◌, ℕ, List, length, codes, Some, MatchOption}
use Rattle.clap.specs.declared.parser.matches.Found.{Found}
use Rattle.clap.specs.Matches.{first_value}
use Rattle.command_words.specs.Values.{bytes_in}
use Rattle.command_words.specs.Given.{IsNumberGiven, IsNumberIfGiven, IsSecretGiven, IsFlagGiven}
use Rattle.server_words.specs.Tasks.{IsNumberOr}
use Rattle.publisher_words.specs.declared.command_line.AddOptions.{AddOptions}
use Rattle.publisher_words.specs.declared.command_line.PushOptions.{PushOptions}
use Rattle.publisher_words.specs.declared.command_line.SetOptions.{SetOptions}
use Rattle.publisher_words.specs.declared.command_line.ShowOptions.{ShowOptions}
use Rattle.publisher_words.specs.declared.init_line.InitOptions.{InitOptions}

-- what was given for a name is a record of these bytes
abbrev pub IsRecordGiven : Found → List ℕ → List ℕ → Type 0
IsRecordGiven found name bytes =
    MatchOption (first_value found name) ⊥ (λ text. (bytes_in text ≡ Some bytes) × (length bytes ≤ 65535))

-- the beginning of a folder, as the options of `init` ask for it; of `--progress` nothing is said
abbrev pub ReadsInit : Found → InitOptions → Type 0
ReadsInit found beginning =
    (first_value found (codes "dir") ≡ Some beginning.dir.now) × IsNumberOr 1 found (codes "form") beginning.making.form
    × IsFlagGiven found (codes "wide") beginning.making.wide
    × IsNumberGiven found (codes "width") beginning.making.width × IsNumberGiven found (codes "record") beginning.making.record_len
    × IsNumberGiven found (codes "groups") beginning.making.groups × IsNumberIfGiven found (codes "count") beginning.making.count
    × IsSecretGiven found (codes "seed") beginning.making.seed
    × IsSecretGiven found (codes "key") beginning.making.key

-- another record, as the options and the words of `set` ask for it
abbrev pub ReadsSet : Found → SetOptions → Type 0
ReadsSet found setting =
    (first_value found (codes "dir") ≡ Some setting.dir.now) × IsNumberGiven found (codes "INDEX") setting.index
    × IsRecordGiven found (codes "HEX") setting.bytes.items

-- one more record, as those of `add` do
abbrev pub ReadsAdd : Found → AddOptions → Type 0
ReadsAdd found adding =
    (first_value found (codes "dir") ≡ Some adding.dir.now) × IsRecordGiven found (codes "HEX") adding.bytes.items

-- what is to be shown, as those of `show` do
abbrev pub ReadsShow : Found → ShowOptions → Type 0
ReadsShow found showing =
    (first_value found (codes "dir") ≡ Some showing.dir.now) × IsNumberIfGiven found (codes "INDEX") showing.index

-- what is to be brought to servers, as those of `push` do, but which servers
abbrev pub ReadsPush : Found → PushOptions → Type 0
ReadsPush found pushing =
    (first_value found (codes "dir") ≡ Some pushing.dir.now) × IsSecretGiven found (codes "key") pushing.key
    × IsFlagGiven found (codes "watch") pushing.watch × IsFlagGiven found (codes "verify") pushing.verify
