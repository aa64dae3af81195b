-- Files that are replaced by records which are read meanwhile.
use Rattle.std.specs.Prelude.{◌≡◌, ℕ, List, length, Option, ⊤}
use Rattle.std.specs.Io.KnownBytes.{Consumes, IsAtEnd}
use Rattle.safe_files.specs.declared.replacing.ReplaceFault.{ReplaceFault}
use Rattle.safe_files.specs.declared.replacing.ReplaceFault.TheVariants as replace
use Rattle.server_files.specs.declared.reading_in.Unwritten.{Unwritten}
use Rattle.server_files.specs.declared.reading_in.Unwritten.TheVariants.{Input, File}

-- how a replacement ends if nothing was written: an input at fault ends it while the new file is
-- written, which is then removed
abbrev pub EndsReplacement : Unwritten → ReplaceFault → Type 0
EndsReplacement (Input _) fault = fault ≡ replace.Write
EndsReplacement (File _ _) fault = ⊤

-- so many bytes were read, and with them the input came to its end
abbrev pub IsReadWhole : ℕ → Option (List ℕ) → Option (List ℕ) → Type 0
IsReadWhole len old new = (bytes : List ℕ) × (length bytes ≡ len) × Consumes old new bytes × IsAtEnd new
