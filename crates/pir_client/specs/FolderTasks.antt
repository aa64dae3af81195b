-- What a command line asks of a client's folder.
use Rattle.std.specs.Prelude.{◌≡◌, ◌⊎◌, ℕ, List, codes, Option, Some, None}
use Rattle.clap.specs.declared.parser.matches.Found.{Found}
use Rattle.clap.specs.Matches.{first_value}
use Rattle.command_words.specs.Given.{IsNumberGiven, IsNumberIfGiven}
use Rattle.hint_file.specs.Texts.{scheme_text}
use Rattle.pir_client.specs.Tasks.{IsHostGiven}
use Rattle.pir_client.specs.declared.choosing.SchemeChoice.{SchemeChoice}
use Rattle.pir_client.specs.declared.choosing.SchemeChoice.TheVariants.{One, Cheaper}
use Rattle.pir_client.specs.declared.folder_tasks.FolderTask.{FolderTask}
use Rattle.pir_client.specs.declared.folder_tasks.FolderTask.TheVariants.{Get, State, Forget}

-- the time limit that was given, or half a minute
abbrev pub IsTimeLimit : Found → Option ℕ → Type 0
IsTimeLimit found None = ⊥
IsTimeLimit found (Some seconds) =
    IsNumberIfGiven found (codes "timeout") (Some seconds) ⊎ (IsNumberIfGiven found (codes "timeout") None × (seconds ≡ 30))

-- what names a scheme, or that the cheaper one is taken, on a command line
unfoldable pub choice_text : SchemeChoice → List ℕ
choice_text (One scheme) = scheme_text scheme
choice_text (Cheaper times) = codes "auto"

-- retrievals with a folder, as the options of `get` ask for them
abbrev pub ReadsFolderGet : Found → FolderTask → Type 0
ReadsFolderGet found (Get state server least no_older progress choice indices) =
    (first_value found (codes "state") ≡ Some state.now) × IsNumberGiven found (codes "port") server.port × IsHostGiven found server
    × IsTimeLimit found server.timeout
    × (first_value found (codes "scheme") ≡ Some (choice_text choice))
ReadsFolderGet found (State state) = ⊥
ReadsFolderGet found (Forget state) = ⊥

-- a folder that is printed, or whose hint is dropped, as the option of `state` and `forget` names
-- it
abbrev pub ReadsFolder : Found → FolderTask → Type 0
ReadsFolder found (Get state server least no_older progress choice indices) = ⊥
ReadsFolder found (State state) = first_value found (codes "state") ≡ Some state.now
ReadsFolder found (Forget state) = first_value found (codes "state") ≡ Some state.now
