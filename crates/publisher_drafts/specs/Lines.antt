-- The lines of an import.
use Rattle.std.specs.Prelude.{◌≡◌, ◌<◌, ◌≤◌, ◌^◌, ◌+◌, ◌==◌, ◌||◌, ℕ, List, Bool, Option, None, Some, MatchOption, codes, take, drop, length, position}
use Rattle.std.specs.Option.{option_map}
use Rattle.std.specs.Str.Parse.{IsNumeral, digits_value}
use Rattle.command_words.specs.Values.{bytes_in}
use Rattle.publisher_drafts.specs.declared.judging.Target.{Target}
use Rattle.publisher_drafts.specs.declared.judging.Target.TheVariants.{At, End}

-- whether a byte separates the two words of a line: a space or a comma
abbrev pub is_mark : ℕ → Bool
is_mark b = (b == 32) || (b == 44)

-- the two words of a line, before and after the first such byte
abbrev pub words_in : List ℕ → Option (List ℕ × List ℕ)
words_in line = option_map (λ at. (take at line, drop (at + 1) line)) (position is_mark line)

-- a word names a target: a number of decimal digits the record of that index, and a plus one after
-- the last
abbrev pub IsTarget : List ℕ → Target → Type 0
IsTarget word (At index) = IsNumeral 10 word × (digits_value 10 word ≡ index)
IsTarget word End = word ≡ codes "+"

-- a line asks for a record of these bytes at a target
abbrev pub IsLine : List ℕ → Target → List ℕ → Type 0
IsLine line target bytes = MatchOption (words_in line) ⊥ (λ words.
    IsTarget words.0 target × (bytes_in words.1 ≡ Some bytes) × (length bytes ≤ 65535))
