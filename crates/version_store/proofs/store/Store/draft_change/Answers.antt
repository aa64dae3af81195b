use Rattle.std.proofs.Common.{subst, arith, ◌≡◌, ◌<◌, ◌≤◌, ℕ, List, true, false, refl, Option, Some, None}
use Rattle.std.specs.Prelude.{IfSome, IfNone, IsSome, IsSomeAnd, ◌↔◌}
use Rattle.record_log.specs.OldRecords.{OldRecord}
use Rattle.version_store.specs.Drafts.{Changes, change_at, is_some_change, IsHeld}
use Rattle.version_store.specs.Editions.{Records}
use Rattle.version_store.specs.Histories.{StoreState}
use Rattle.version_store.specs.DraftChanges.{IsNextChange, HasNoChange}
use Rattle.version_store.proofs.DraftPlaces.{state_of, next_is, none_is, marked_by_change, none_marked}
use Rattle.version_store.proofs.store.Store.draft_change.Goals as goal

module _ {X : Type 0} (place : X → ℕ) (bytes : X → List ℕ) (changes : Changes) (low : ℕ) where
  some_found : (version : ℕ) (e : Records) (n : ℕ) (publisher : List ℕ) (log : List (List ℕ)) (olds : List (List OldRecord)) (held : IsHeld e n changes log) (o : Option X) →
      IfSome o (λ it. low ≤ place it) → IfSome o (λ it. IsSomeAnd (change_at changes (place it)) (λ v. bytes it ≡ v.items)) →
      IfSome o (λ it. (k : ℕ) → low ≤ k → k < place it → change_at changes k ≡ None) →
      IfSome o (λ it. IsNextChange (state_of version e n changes publisher log olds) low (place it) (bytes it))
  some_found version e n publisher log olds held None at some between = tt
  some_found version e n publisher log olds held (Some it) at some between =
      next_is version e n changes publisher log olds held low (place it) (bytes it) at some between

  none_found : (version : ℕ) (e : Records) (n : ℕ) (publisher : List ℕ) (log : List (List ℕ)) (olds : List (List OldRecord)) (held : IsHeld e n changes log) (o : Option X) →
      IfNone o ((k : ℕ) → low ≤ k → change_at changes k ≡ None) → IfNone o (HasNoChange (state_of version e n changes publisher log olds) low)
  none_found version e n publisher log olds held None none = none_is version e n changes publisher log olds held low none
  none_found version e n publisher log olds held (Some it) none = tt

  marked_found : (o : Option X) → IfSome o (λ it. IsSomeAnd (change_at changes (place it)) (λ v. bytes it ≡ v.items)) →
      IfNone o ((k : ℕ) → low ≤ k → change_at changes k ≡ None) → low ≡ 0 → IsSome o ↔ (is_some_change changes ≡ true)
  marked_found None some none e = (λ no. absurd (let bad : false ≡ true = no in cc), λ marked. absurd (none_marked changes (λ k. none k (omega (arith, e))) marked))
  marked_found (Some it) some none e = (λ yes. marked_by_change changes (place it) (bytes it) some, λ yes. refl)

pub returns-clause-some : goal.returns-clause-some
returns-clause-some g c =
    let is : StoreState → Type 0 = λ s. IfSome c.first_change.result (λ it. IsNextChange s c.args.from it.0 it.1.now) in
    let s = c.self.inside in
    subst is c.self.view_is
    (some_found (λ it. it.0) (λ it. it.1.now) s.changes.entries c.args.from s.log.version s.edition s.count s.publisher s.log.lists s.olds.lists c.self.invariant.0
    c.first_change.result c.first_change.ensures.at c.first_change.ensures.some c.first_change.ensures.between)

pub returns-clause-none : goal.returns-clause-none
returns-clause-none g c =
    let is : StoreState → Type 0 = λ s. IfNone c.first_change.result (HasNoChange s c.args.from) in
    let s = c.self.inside in
    subst is c.self.view_is
    (none_found (λ it. it.0) (λ it. it.1.now) s.changes.entries c.args.from s.log.version s.edition s.count s.publisher s.log.lists s.olds.lists c.self.invariant.0
    c.first_change.result c.first_change.ensures.none)

pub returns-clause-first : goal.returns-clause-first
returns-clause-first g c = λ e.
    let is : StoreState → Type 0 = λ s. IsSome c.first_change.result ↔ (s.marked ≡ true) in
    subst is c.self.view_is
    (marked_found (λ it. it.0) (λ it. it.1.now) c.self.inside.changes.entries c.args.from c.first_change.result c.first_change.ensures.some
    c.first_change.ensures.none e)
