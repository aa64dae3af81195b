-- Secrets of a command line, which may be in a file.
use Rattle.std.specs.Prelude.{◌≡◌, ◌≢◌, ◌⊎◌, ◌∷◌, [], ◌++◌, ℕ, List, length, replicate, codes, Option, Some, None, Result, Ok, Err}
use Rattle.std.specs.Str.{IsUtf8}
use Rattle.hex.specs.Hex.{decode_of}
use Rattle.command_words.specs.declared.failure.Failure.{Failure}
use Rattle.command_words.specs.declared.failure.Failure.TheVariants.{Fault, Value}
use Rattle.command_words.specs.declared.secrets.Secret.{Secret}
use Rattle.command_words.specs.declared.secrets.Secret.TheVariants.{Bytes, File}
use Rattle.command_words.specs.Values.{IsNoBytes32, IsNoKey}

-- the secret that a text gives: the file after an `@`, or the bytes that its digits encode
abbrev pub IsSecretOf : List ℕ → Secret → Type 0
IsSecretOf text (Bytes bytes) = decode_of text ≡ Ok bytes
IsSecretOf text (File name) = text ≡ 64 ∷ name.now

-- bytes on the line itself are a publisher's key
abbrev pub IsKey : Secret → Type 0
IsKey (Bytes bytes) = bytes ≢ replicate 32 0
IsKey (File name) = Unit {0}

-- no text was given, or it names no file and isn't 64 hex digits
abbrev pub IsNoSecret : Option (List ℕ) → Type 0
IsNoSecret None = Unit {0}
IsNoSecret (Some text) = ((name : List ℕ) → text ≢ 64 ∷ name) × IsNoBytes32 (Some text)

-- no text was given, or it names no file and isn't 64 hex digits, or the digits are all 0
abbrev pub IsNoKeySecret : Option (List ℕ) → Type 0
IsNoKeySecret None = Unit {0}
IsNoKeySecret (Some text) = ((name : List ℕ) → text ≢ 64 ∷ name) × IsNoKey (Some text)

-- a text without a last character, if it ends with that one, and as it is if it doesn't
abbrev pub IsWithoutEnd : ℕ → List ℕ → List ℕ → Type 0
IsWithoutEnd end text rest = (text ≡ rest ++ (end ∷ [])) ⊎ ((text ≡ rest) × ((front : List ℕ) → text ≢ front ++ (end ∷ [])))

-- a text without a line feed at its end, and then without a carriage return there
abbrev pub IsLineOf : List ℕ → List ℕ → Type 0
IsLineOf text line = (rest : List ℕ) × IsWithoutEnd 10 text rest × IsWithoutEnd 13 rest line

-- a text that has a seed: without the end of its line it is 64 hex digits, which encode the seed
abbrev pub IsSeedText : List ℕ → List ℕ → Type 0
IsSeedText text seed = (line : List ℕ) × IsLineOf text line × (length line ≡ 64) × (decode_of line ≡ Ok seed)

-- a text that has none
abbrev pub IsNoSeedText : List ℕ → Type 0
IsNoSeedText text = (line : List ℕ) × IsLineOf text line × IsNoBytes32 (Some line)

-- what comes of what a file begins with: its seed, `Value` for a text that has none, `File` for
-- what is no text
abbrev pub IsReadAs : List ℕ → List ℕ → Result (List ℕ) Failure → Type 0
IsReadAs takes text (Ok seed) = IsSeedText text seed
IsReadAs takes text (Err (Value shown)) = IsUtf8 text × IsNoSeedText text × (shown.now ≡ takes)
IsReadAs takes text (Err (Fault name)) = (IsUtf8 text → ⊥) × (name.now ≡ codes "File")
IsReadAs takes text (Err _) = ⊥

-- what comes of a file that can't be read
abbrev pub IsUnreadFile : Result (List ℕ) Failure → Type 0
IsUnreadFile (Err (Fault name)) = name.now ≡ codes "File"
IsUnreadFile _ = ⊥

-- the bytes on the line itself are the seed; else what comes of the file, given which bytes each
-- file begins with and which can't be read
abbrev pub GivesSeed : (List ℕ → List ℕ → Type 0) → (List ℕ → Type 0) → List ℕ → Secret → Result (List ℕ) Failure → Type 0
GivesSeed begins fails takes (Bytes bytes) result = result ≡ Ok bytes
GivesSeed begins fails takes (File name) result =
    ((text : List ℕ) × begins name.now text × IsReadAs takes text result) ⊎ (fails name.now × IsUnreadFile result)

-- what a seed is as a key: itself, and `Value` if all its bytes are 0
abbrev pub IsKeyOf : List ℕ → Result (List ℕ) Failure → Result (List ℕ) Failure → Type 0
IsKeyOf takes (Ok seed) (Ok key) = (key ≡ seed) × (seed ≢ replicate 32 0)
IsKeyOf takes (Ok seed) (Err (Value shown)) = (seed ≡ replicate 32 0) × (shown.now ≡ takes)
IsKeyOf takes (Ok seed) (Err _) = ⊥
IsKeyOf takes (Err fault) result = result ≡ Err fault

-- what comes of the same secret as a seed, as a key
abbrev pub GivesKey : (List ℕ → List ℕ → Type 0) → (List ℕ → Type 0) → List ℕ → Secret → Result (List ℕ) Failure → Type 0
GivesKey begins fails takes secret result =
    (seed : Result (List ℕ) Failure) × GivesSeed begins fails takes secret seed × IsKeyOf takes seed result

-- a file can't be read or is no text, or it has no secret of the option's form
abbrev pub IsSecretFailure : List ℕ → Failure → Type 0
IsSecretFailure takes (Value shown) = shown.now ≡ takes
IsSecretFailure takes (Fault name) = name.now ≡ codes "File"
IsSecretFailure takes _ = ⊥
