use Rattle.std.proofs.Common.{◌≡◌, ℕ, Bool, false, List, Result, Ok, Err, subst, sym}
use Rattle.std.specs.Prelude.{IfOk, replicate}
use Rattle.std.specs.declared.vec.Vec.{Vec}
use Rattle.std.specs.declared.alloc.Global.{Global}
use Rattle.std.specs.declared.alloc.AllocError.{AllocError}
use Rattle.version_store.specs.Editions.{is_marked}
use Rattle.version_store.proofs.ChangedRows.{unmarked}
use Rattle.version_store.proofs.row_marks.marks_for.Goals as goal

none_marked : (n : ℕ) (answer : Result (Vec Bool Global) AllocError) → IfOk answer (λ v. ((y : Bool) → y ≡ false → y ≡ false) → v.items ≡ replicate n false) →
    IfOk answer (λ v. (r : ℕ) → is_marked v.items r ≡ false)
none_marked n (Ok v) items = λ r. subst (λ (xs : List Bool). is_marked xs r ≡ false) (sym (items (λ y e. e))) (unmarked n r)
none_marked n (Err e) items = tt

pub returns-clause-none : goal.returns-clause-none
returns-clause-none c = none_marked c.rows.result c.vec.result c.vec.ensures.items_if_clones_equal
