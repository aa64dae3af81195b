-- What changed is granted to all who ask, also if there is none to give.
use Rattle.std.proofs.Common.{◌≡◌, ℕ, List, length, true, Option, Some, None, refl, inl, inr}
use Rattle.std.specs.Prelude.{nat_le}
use Rattle.std.proofs.lemmas.Bool.{cases_Bool}
use Rattle.version_store.specs.Histories.{History}
use Rattle.server_core.specs.declared.standing.Standing.{Standing}
use Rattle.server_core.specs.Serving.{Setting, may_lack_memory, delta_asked, changes_asked}

-- rows, or that there are none to give
pub delta_granted : (x : Setting) (h : History) (st : Standing) (since : ℕ) (rows : Option (List ℕ)) →
    may_lack_memory (delta_asked x h st since rows).reply ≡ true
delta_granted x h st since None = refl
delta_granted x h st since (Some rows) = elim (cases_Bool (nat_le (length rows) 1024)) [
  | inl few ↦ rw few refl
  | inr many ↦ rw many refl
]

-- entries, or that there are none to give
pub changes_granted : (x : Setting) (h : History) (st : Standing) (since : ℕ) (entries : Option (List ℕ)) →
    may_lack_memory (changes_asked x h st since entries).reply ≡ true
changes_granted x h st since None = refl
changes_granted x h st since (Some entries) = refl
