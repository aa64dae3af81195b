-- What was given for a name on a command line.
use Rattle.std.specs.Prelude.{◌≡◌, ℕ, List, codes, Bool, true, false, Option, Some, None, MatchOption}
use Rattle.std.specs.Str.Parse.{IsNumeral, digits_value}
use Rattle.clap.specs.declared.parser.matches.Found.{Found}
use Rattle.clap.specs.Matches.{first_value, one_text}
use Rattle.command_words.specs.declared.secrets.Secret.{Secret}
use Rattle.command_words.specs.Secrets.{IsSecretOf}

-- what was given for a name is this number in decimal digits
abbrev pub IsNumberGiven : Found → List ℕ → ℕ → Type 0
IsNumberGiven found name n = MatchOption (first_value found name) ⊥ (λ text. IsNumeral 10 text × (digits_value 10 text ≡ n))

-- what was given for a name is this number in decimal digits, or nothing was given and there is
-- none
abbrev pub IsNumberIfGiven : Found → List ℕ → Option ℕ → Type 0
IsNumberIfGiven found name n =
    MatchOption (first_value found name) (n ≡ None) (λ text. IsNumeral 10 text × (n ≡ Some (digits_value 10 text)))

-- what was given for a name is this secret
abbrev pub IsSecretGiven : Found → List ℕ → Secret → Type 0
IsSecretGiven found name secret = MatchOption (first_value found name) ⊥ (λ text. IsSecretOf text secret)

-- whether a flag was given for a name
abbrev pub IsFlagGiven : Found → List ℕ → Bool → Type 0
IsFlagGiven found name flag =
    (one_text found name ≡ None → flag ≡ false) × (one_text found name ≡ Some (codes "true") → flag ≡ true)
