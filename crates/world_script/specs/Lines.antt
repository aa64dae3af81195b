-- What a script's lines are, and what each says.
use Rattle.std.specs.Prelude.{ℕ, List, [], ◌∷◌, length, Bool, true, ◌==◌, ◌&&◌, ◌^◌, ◌-◌, nat_lt, if◌then◌else◌, Option, Some, None, codes}
use Rattle.std.specs.Char.{is_ascii, is_digit}
use Rattle.std.specs.List.{slice_split, list_all}
use Rattle.std.specs.Option.{option_map, option_and_then}
use Rattle.std.specs.Result.{result_ok}
use Rattle.std.specs.Str.{bytes_eq}
use Rattle.std.specs.Str.Parse.{digits_value}
use Rattle.hex.specs.Hex.{decode_of}
use Rattle.command_words.specs.Values.{bytes_in}
use Rattle.pir_schemes.specs.declared.scheme.Scheme.{Scheme}
use Rattle.pir_schemes.specs.declared.scheme.Scheme.TheVariants.{Simple, Double}
use Rattle.pir_world.specs.declared.steps.Step.{Step}
use Rattle.pir_world.specs.declared.steps.Step.TheVariants as step
use Rattle.world_script.specs.declared.line.HeaderSizes.{HeaderSizes}
use Rattle.world_script.specs.declared.line.Line.{Line}
use Rattle.world_script.specs.declared.line.Line.TheVariants as line

-- ---- where lines end

-- parts between line feeds as lines: after the last line feed there is one only if something is
-- there
abbrev pub lines_of_parts : List (List ℕ) → List (List ℕ)
lines_of_parts [] = []
lines_of_parts (part ∷ []) = if length part == 0 then [] else part ∷ []
lines_of_parts (part ∷ next ∷ parts) = part ∷ lines_of_parts (next ∷ parts)

-- a script's lines, without their line feeds
abbrev pub lines_of : List ℕ → List (List ℕ)
lines_of script = lines_of_parts (slice_split (λ b. b == 10) script)

-- an empty line, or one that begins with #
abbrev pub is_silent : List ℕ → Bool
is_silent [] = true
is_silent (b ∷ bs) = b == 35

-- ---- words

-- one decimal digit or more, and nothing else
abbrev pub is_numeral : List ℕ → Bool
is_numeral word = nat_lt 0 (length word) && list_all (λ c. is_digit c 10) word

-- the number that a numeral writes, if it is below a limit; leading zeros are ignored
abbrev pub numeral_value : ℕ → List ℕ → Option ℕ
numeral_value limit word = if is_numeral word && nat_lt (digits_value 10 word) limit then Some (digits_value 10 word) else None

-- how many bytes are handed on at most
abbrev pub most_in : List ℕ → Option ℕ
most_in word = if bytes_eq word (codes "all") then Some (2 ^ 64 - 1) else numeral_value (2 ^ 64) word

-- a scheme by its name
abbrev pub scheme_in : List ℕ → Option Scheme
scheme_in word =
    if bytes_eq word (codes "simple") then Some Simple
    else if bytes_eq word (codes "double") then Some Double
    else None

-- 32 bytes, two hex digits each
abbrev pub bytes32_in : List ℕ → Option (List ℕ)
bytes32_in word = if length word == 64 then result_ok (decode_of word) else None

-- ---- what a line says

-- the sizes of a world of a form
abbrev pub sizes_in : ℕ → List ℕ → List ℕ → List ℕ → List ℕ → Option HeaderSizes
sizes_in form w r g n =
    option_and_then (λ width. option_and_then (λ record_len. option_and_then (λ groups. option_map (λ dimension.
    record { form = form; width = width; record_len = record_len; groups = groups; dimension = dimension })
    (numeral_value (2 ^ 16) n)) (numeral_value (2 ^ 16) g)) (numeral_value (2 ^ 16) r)) (numeral_value (2 ^ 8) w)

-- the edit of a record
abbrev pub edit_in : List ℕ → List ℕ → Option Step
edit_in i b = option_and_then (λ index. option_map (λ bytes. step.Edit index bytes) (bytes_in b)) (numeral_value (2 ^ 32) i)

-- a record more
abbrev pub append_in : List ℕ → Option Step
append_in b = option_map (λ bytes. step.Append bytes) (bytes_in b)

-- a client's greeting
abbrev pub hello_in : List ℕ → Option Step
hello_in k = option_map (λ client. step.Hello client) (numeral_value (2 ^ 64) k)

-- a client's ask for a hint
abbrev pub sync_in : List ℕ → List ℕ → Option Step
sync_in k s = option_and_then (λ client. option_map (λ scheme. step.Sync client scheme) (scheme_in s)) (numeral_value (2 ^ 64) k)

-- a client's ask for a record
abbrev pub ask_in : List ℕ → List ℕ → Option Step
ask_in k i = option_and_then (λ client. option_map (λ index. step.Ask client index) (numeral_value (2 ^ 32) i)) (numeral_value (2 ^ 64) k)

-- a delivery to the server
abbrev pub to_server_in : List ℕ → List ℕ → Option Step
to_server_in k n = option_and_then (λ client. option_map (λ most. step.ToServer client most) (most_in n)) (numeral_value (2 ^ 64) k)

-- a delivery to a client
abbrev pub to_client_in : List ℕ → List ℕ → Option Step
to_client_in k n = option_and_then (λ client. option_map (λ most. step.ToClient client most) (most_in n)) (numeral_value (2 ^ 64) k)

-- a name with one word after it
abbrev pub line_of_one : List ℕ → List ℕ → Option Line
line_of_one name a =
    if bytes_eq name (codes "seed") then option_map line.Seed (bytes32_in a)
    else if bytes_eq name (codes "record") then option_map line.Record (bytes_in a)
    else if bytes_eq name (codes "client") then option_map line.Client (bytes32_in a)
    else if bytes_eq name (codes "append") then option_map line.Step (append_in a)
    else if bytes_eq name (codes "hello") then option_map line.Step (hello_in a)
    else None

-- a name with two words after it
abbrev pub line_of_two : List ℕ → List ℕ → List ℕ → Option Line
line_of_two name a b =
    if bytes_eq name (codes "edit") then option_map line.Step (edit_in a b)
    else if bytes_eq name (codes "sync") then option_map line.Step (sync_in a b)
    else if bytes_eq name (codes "ask") then option_map line.Step (ask_in a b)
    else if bytes_eq name (codes "to-server") then option_map line.Step (to_server_in a b)
    else if bytes_eq name (codes "to-client") then option_map line.Step (to_client_in a b)
    else None

-- a line by its words
abbrev pub line_of_words : List (List ℕ) → Option Line
line_of_words (name ∷ []) = if bytes_eq name (codes "publish") then Some (line.Step step.Publish) else None
line_of_words (name ∷ a ∷ []) = line_of_one name a
line_of_words (name ∷ a ∷ b ∷ []) = line_of_two name a b
line_of_words (name ∷ a ∷ b ∷ c ∷ d ∷ []) =
    if bytes_eq name (codes "world") then option_map line.World (sizes_in 1 a b c d)
    else if bytes_eq name (codes "world2") then option_map line.World (sizes_in 2 a b c d)
    else if bytes_eq name (codes "wide") then option_map line.World (sizes_in 129 a b c d)
    else if bytes_eq name (codes "wide2") then option_map line.World (sizes_in 130 a b c d)
    else None
line_of_words _ = None

-- what a line says: ASCII words, separated by one space each; nothing if no line is written so
abbrev pub line_of : List ℕ → Option Line
line_of text = if list_all is_ascii text then line_of_words (slice_split (λ b. b == 32) text) else None
