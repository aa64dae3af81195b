-- Values of words.
use Rattle.std.specs.Prelude.{◌≡◌, ◌≢◌, ◌≤◌, ◌==◌, ℕ, List, [], length, replicate, if◌then◌else◌, Option, Some, None, Ok, codes}
use Rattle.std.specs.List.{AllPass}
use Rattle.std.specs.Result.{result_ok}
use Rattle.std.specs.Str.{bytes_eq}
use Rattle.std.specs.Str.Parse.{IsNumeral, digits_value}
use Rattle.hex.specs.Hex.{decode_of, encode_lower, is_hex_digit}

-- bytes, two hex digits each; a dash for none
abbrev pub bytes_in : List ℕ → Option (List ℕ)
bytes_in text =
    if bytes_eq text (codes "-") then Some []
    else if length text == 0 then None
    else result_ok (decode_of text)

-- a record's bytes in hex, or a dash if there are none
unfoldable pub hex_or_dash : List ℕ → List ℕ
hex_or_dash bytes = if length bytes == 0 then codes "-" else encode_lower bytes

-- a text encodes no bytes that a record may be given as
abbrev pub IsNoRecord : List ℕ → Type 0
IsNoRecord text = (bytes : List ℕ) → bytes_in text ≡ Some bytes → length bytes ≤ 65535 → ⊥

-- no text was given, or it is no number up to the most
abbrev pub IsNoNumber : ℕ → Option (List ℕ) → Type 0
IsNoNumber most None = Unit {0}
IsNoNumber most (Some text) = IsNumeral 10 text → digits_value 10 text ≤ most → ⊥

-- no text was given, or it isn't 64 hex digits
abbrev pub IsNoBytes32 : Option (List ℕ) → Type 0
IsNoBytes32 None = Unit {0}
IsNoBytes32 (Some text) = length text ≡ 64 → AllPass is_hex_digit text → ⊥

-- no text was given, or it isn't 64 hex digits that are not all 0
abbrev pub IsNoKey : Option (List ℕ) → Type 0
IsNoKey None = Unit {0}
IsNoKey (Some text) = length text ≡ 64 → AllPass is_hex_digit text → decode_of text ≢ Ok (replicate 32 0) → ⊥
