-- The lines that a rehearsal prints.
use Rattle.std.specs.Prelude.{ℕ, List, ◌++◌, codes}
use Rattle.std.specs.Fmt.{decimal}
use Rattle.command_words.specs.Values.{hex_or_dash}
use Rattle.client_core.specs.declared.state.Event.{Event}
use Rattle.client_core.specs.declared.state.Event.TheVariants as event
use Rattle.pir_schemes.specs.declared.scheme.Scheme.{Scheme}
use Rattle.pir_schemes.specs.declared.scheme.Scheme.TheVariants.{Simple, Double}
use Rattle.version_store.specs.declared.opening.OpenError.{OpenError}
use Rattle.version_store.specs.Names.{append_fault_name, edit_fault_name, publish_fault_name, open_fault_name}
use Rattle.client_core.specs.Names.{call_fault_name, client_fault_name}
use Rattle.pir_world.specs.declared.steps.Outcome.{Outcome}
use Rattle.pir_world.specs.declared.steps.Outcome.TheVariants.{Edited, EditRefused, Appended, AppendRefused, Published, PublishRefused, Reported, CallRefused, Failed}

-- the name of a scheme in a script
unfoldable pub scheme_name : Scheme → List ℕ
scheme_name Simple = codes "simple"
scheme_name Double = codes "double"

-- a line about a client
abbrev pub about_client : ℕ → List ℕ → List ℕ
about_client client text = codes "client " ++ (decimal client ++ text)

-- a retrieved record's line
abbrev pub retrieved_text : ℕ → ℕ → ℕ → List ℕ → List ℕ
retrieved_text client index version shown =
    about_client client (codes ": retrieved " ++ (decimal index ++ (codes " " ++ (decimal version ++ (codes " " ++ (shown ++ codes "\n"))))))

-- an event's line
abbrev pub event_text : ℕ → Event → List ℕ
event_text client (event.Welcomed version) = about_client client (codes ": welcomed " ++ (decimal version ++ codes "\n"))
event_text client (event.Synced scheme version) =
    about_client client (codes ": synced " ++ (scheme_name scheme ++ (codes " " ++ (decimal version ++ codes "\n"))))
event_text client (event.Retrieved index version bytes) = retrieved_text client index version (hex_or_dash bytes)
event_text client (event.Unreadable index version) =
    about_client client (codes ": unreadable " ++ (decimal index ++ (codes " " ++ (decimal version ++ codes "\n"))))
event_text client (event.Stale version) = about_client client (codes ": stale " ++ (decimal version ++ codes "\n"))
event_text client (event.Done version) = about_client client (codes ": done " ++ (decimal version ++ codes "\n"))
event_text client (event.Refused code) = about_client client (codes ": server refused " ++ (decimal code ++ codes "\n"))

-- a refused call's line
abbrev pub call_refused_text : ℕ → List ℕ → List ℕ
call_refused_text client name = about_client client (codes ": call refused " ++ (name ++ codes "\n"))

-- an outcome's line
abbrev pub outcome_text : Outcome → List ℕ
outcome_text (Edited index) = codes "edit " ++ (decimal index ++ codes ": accepted\n")
outcome_text (EditRefused index e) = codes "edit " ++ (decimal index ++ (codes ": refused " ++ (edit_fault_name e ++ codes "\n")))
outcome_text Appended = codes "append: accepted\n"
outcome_text (AppendRefused e) = codes "append: refused " ++ (append_fault_name e ++ codes "\n")
outcome_text (Published version) = codes "publish: version " ++ (decimal version ++ codes "\n")
outcome_text (PublishRefused e) = codes "publish: refused " ++ (publish_fault_name e ++ codes "\n")
outcome_text (Reported client e) = event_text client e
outcome_text (CallRefused client e) = call_refused_text client (call_fault_name e)
outcome_text (Failed client e) = about_client client (codes ": failed " ++ (client_fault_name e ++ codes "\n"))

-- the line of a step of a client that doesn't exist
abbrev pub no_client_text : ℕ → List ℕ
no_client_text client = about_client client (codes ": none\n")

-- the line of a line, counted from 1, that doesn't fit its place
abbrev pub bad_line_text : ℕ → List ℕ
bad_line_text number = codes "line " ++ (decimal number ++ codes ": bad\n")

-- the line of a world that can't be opened
abbrev pub refused_world_text : OpenError → List ℕ
refused_world_text e = codes "world: refused " ++ (open_fault_name e ++ codes "\n")

-- the line of a script that is too long
abbrev pub too_long_text : List ℕ
too_long_text = codes "script: too long\n"

-- the line printed if memory was refused
abbrev pub memory_text : List ℕ
memory_text = codes "memory\n"
