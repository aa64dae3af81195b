-- Whether a change can be made, and its place.
use Rattle.std.specs.Prelude.{◌+◌, ◌^◌, ◌&&◌, ℕ, List, nat_lt, if◌then◌else◌, Result, Ok, Err}
use Rattle.digit_pack.specs.Layout.{is_layout}
use Rattle.pir_schemes.specs.declared.plan.Plan.{Plan}
use Rattle.pir_schemes.specs.Plans.{fits, shape_at}
use Rattle.publisher_drafts.specs.declared.judging.Target.{Target}
use Rattle.publisher_drafts.specs.declared.judging.Target.TheVariants.{At, End}
use Rattle.publisher_drafts.specs.declared.judging.EditFault.{EditFault}
use Rattle.publisher_drafts.specs.declared.judging.EditFault.TheVariants.{BadIndex, BadLength, Full}

-- the place of a record that is replaced, or why it can't be
abbrev pub edit_verdict : Plan → ℕ → ℕ → List ℕ → Result ℕ EditFault
edit_verdict plan count index bytes = if nat_lt index count then (if fits plan bytes then Ok index else Err BadLength) else Err BadIndex

-- the place of a record after the last one, which has four bytes in a publication, or why there can
-- be none
abbrev pub append_verdict : Plan → ℕ → List ℕ → Result ℕ EditFault
append_verdict plan count bytes =
    if fits plan bytes then (if nat_lt count (2 ^ 32) && is_layout (shape_at plan (count + 1)) then Ok count else Err Full) else Err BadLength

-- the place of a change, or why it can't be made
abbrev pub verdict : Plan → ℕ → Target → List ℕ → Result ℕ EditFault
verdict plan count (At index) bytes = edit_verdict plan count index bytes
verdict plan count End bytes = append_verdict plan count bytes
