-- What a program's exit status says of a command that was not done.
use Rattle.std.specs.Prelude.{◌≡◌, ◌⊎◌, ℕ, List, Option, Some, None, codes}
use Rattle.clap.specs.declared.error.kind.ErrorKind.TheVariants.{DisplayHelp, DisplayVersion}
use Rattle.clap.specs.declared.error.kind.ErrorKind.{ErrorKind}
use Rattle.clap.specs.Values.{kind_of}
use Rattle.command_words.specs.declared.failure.Failure.{Failure}
use Rattle.command_words.specs.declared.failure.Failure.TheVariants.{Refused, Stale, Unreadable, Fault, Value, Memory}
use Rattle.command_words.specs.declared.bad_line.BadLine.{BadLine}
use Rattle.command_words.specs.declared.bad_line.BadLine.TheVariants as line

-- 1 for what the server said, 2 for a secret that its option doesn't take, 3 for a fault, 4 for
-- refused memory
abbrev pub status_of : Failure → ℕ
status_of (Refused code) = 1
status_of (Stale version) = 1
status_of (Unreadable index version) = 1
status_of (Fault name) = 3
status_of (Value takes) = 2
status_of Memory = 4

-- a file can't be opened or made
abbrev pub IsFileFault : Failure → Type 0
IsFileFault (Fault name) = name.now ≡ codes "File"
IsFileFault _ = ⊥

-- what was to be printed or written could not be
abbrev pub IsWriteFault : Failure → Type 0
IsWriteFault (Fault name) = name.now ≡ codes "Write"
IsWriteFault _ = ⊥

-- the text is what was asked for, and reports no mistake
abbrev pub AsksForHelp : ErrorKind → Type 0
AsksForHelp kind = (kind ≡ DisplayHelp) ⊎ (kind ≡ DisplayVersion)

-- 0 if help was asked for, 3 if it was and can't be printed, 2 for a bad command line, 4 if memory
-- was refused
abbrev pub Reports : BadLine → ℕ → Type 0
Reports (line.Form e) status =
    (((status ≡ 0) ⊎ (status ≡ 3)) × AsksForHelp (kind_of e)) ⊎ ((status ≡ 2) × (AsksForHelp (kind_of e) → ⊥))
Reports (line.Value takes) status = status ≡ 2
Reports (line.Given takes given) status = status ≡ 2
Reports line.Memory status = status ≡ 4

-- a bad command line by what is taken, and by the value given if there is one
abbrev pub Shows : List ℕ → Option (List ℕ) → BadLine → Type 0
Shows takes None (line.Value shown) = shown.now ≡ takes
Shows takes (Some given) (line.Given shown text) = (shown.now ≡ takes) × (text.now ≡ given)
Shows takes _ _ = ⊥
