-- What is printed.
use Rattle.std.specs.Prelude.{ℕ, List, ◌++◌, codes}
use Rattle.std.specs.Fmt.{decimal}
use Rattle.command_words.specs.Values.{hex_or_dash}

-- the name of a file in a folder
abbrev pub name_in : List ℕ → List ℕ → List ℕ
name_in dir name = dir ++ (codes "/" ++ name)

-- the line of a changed record
abbrev pub changed_text : ℕ → List ℕ → List ℕ → List ℕ
changed_text index old new = decimal index ++ (codes " " ++ (hex_or_dash old ++ (codes " " ++ (hex_or_dash new ++ codes "\n"))))

-- the line of an appended record
abbrev pub appended_text : List ℕ → List ℕ
appended_text new = codes "+ " ++ (hex_or_dash new ++ codes "\n")
