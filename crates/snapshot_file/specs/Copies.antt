-- What stops the writing of a snapshot whose records are read meanwhile.
use Rattle.std.specs.Prelude.{◌≡◌, ◌<◌, ◌≤◌, ◌+◌, ℕ, List, length, Option}
use Rattle.std.specs.Io.KnownBytes.{IsAtEnd}
use Rattle.snapshot_file.specs.declared.copying.CopyFault.{CopyFault}
use Rattle.snapshot_file.specs.declared.copying.CopyFault.TheVariants.{Few, Many, Read, Write, Memory}

-- What had been read when it stopped, if so many bytes were wanted, and what was left: too few
-- bytes come to light at the end of the input, one too many when it has come, and a failed write
-- says how many had been read.
abbrev pub StopsCopyingAt : ℕ → CopyFault → List ℕ → Option (List ℕ) → Type 0
StopsCopyingAt wanted Few part left = (length part < wanted) × IsAtEnd left
StopsCopyingAt wanted Many part left = length part ≡ wanted + 1
StopsCopyingAt wanted Read part left = length part ≤ wanted
StopsCopyingAt wanted (Write n) part left = (length part ≡ n) × (n ≤ wanted)
StopsCopyingAt wanted Memory part left = length part ≡ 0
