-- What is printed of hints, and the names of their files.
use Rattle.std.specs.Prelude.{ℕ, List, [], ◌∷◌, ◌++◌, codes}
use Rattle.std.specs.Fmt.{decimal}
use Rattle.sha2.specs.Sha256.{sha256}
use Rattle.hex.specs.Hex.{encode_lower}
use Rattle.pir_schemes.specs.declared.plan.Plan.{Plan}
use Rattle.pir_schemes.specs.declared.scheme.Scheme.{Scheme}
use Rattle.pir_schemes.specs.declared.scheme.Scheme.TheVariants.{Simple, Double}
use Rattle.hint_file.specs.declared.heads.HintFields.{HintFields}
use Rattle.hint_file.specs.declared.heads.KeptHead.{KeptHead}
use Rattle.hint_file.specs.Files.{plan_bytes}

-- a scheme, as the command line names it
abbrev pub scheme_text : Scheme → List ℕ
scheme_text Simple = codes "simple"
scheme_text Double = codes "double"

-- the name of the file of a hint in a folder, one for each scheme and store: the store is named by
-- the digest of its plan in hex
abbrev pub file_name : Scheme → Plan → List ℕ
file_name scheme plan = scheme_text scheme ++ (codes "-" ++ (encode_lower (sha256 (plan_bytes plan)) ++ codes ".hint"))

-- the lines on a hint: its scheme and version, and what the server had reported last
abbrev pub hint_text : HintFields → List ℕ
hint_text f =
    codes "hint " ++ (scheme_text f.scheme ++ (codes " " ++ (decimal f.version ++ (codes "\nversion " ++ (decimal f.known.version
    ++ (codes "\nrecords " ++ (decimal f.known.count ++ (codes "\ndimension " ++ (decimal f.known.plan.dimension ++ codes "\n")))))))))

-- the lines on each of some hints, one after another
unfoldable pub hint_texts : List KeptHead → List ℕ
hint_texts [] = []
hint_texts (head ∷ heads) = hint_text head.fields ++ hint_texts heads

-- all lines on the hints of a folder
unfoldable pub state_text : List KeptHead → List ℕ
state_text [] = codes "hint none\n"
state_text (head ∷ heads) = hint_texts (head ∷ heads)
