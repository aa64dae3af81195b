-- Answers that are made together.
use Rattle.std.specs.Prelude.{◌≡◌, ◌<◌, ◌⊎◌, ℕ, List, Option, Some, None}
use Rattle.pir_schemes.specs.declared.scheme.Scheme.{Scheme}
use Rattle.version_store.specs.Editions.{Records}
use Rattle.version_store.specs.Preparing.{IsAllMade, IsMakingFor, IsPrepared, amount_made, scheme_made}
use Rattle.version_store.specs.declared.preparing.Preparation.{Preparation}
use Rattle.version_store.specs.declared.preparing.Preparations.{Preparations}

-- the answers that were begun are those of queries on this version
pub record ArePrepared (e : Records) (ps : Preparations) : Type 0 where
  pub first : IsPrepared e ps.first
  pub second : IsPrepared e ps.second
  pub third : IsPrepared e ps.third
  pub fourth : IsPrepared e ps.fourth

-- an answer on a version before and after one more step: more of it is made, unless all of it was
pub record IsStepped (e : Records) (old new : Preparation) : Type 0 where
  pub so_far : IsMakingFor e new.query.items new.making
  pub query : new.query ≡ old.query
  pub scheme : scheme_made new.making ≡ scheme_made old.making
  pub forward : IsAllMade old.making ⊎ amount_made e old.making < amount_made e new.making

-- one more step of an answer, if there is one
abbrev pub IsSteppedIf : Records → Option Preparation → Option Preparation → Type 0
IsSteppedIf e None new = new ≡ None
IsSteppedIf e (Some old) None = ⊥
IsSteppedIf e (Some old) (Some new) = IsStepped e old new

-- all of an answer is there, if there is one
abbrev pub IsAllMadeIf : Option Preparation → Type 0
IsAllMadeIf None = Unit {0}
IsAllMadeIf (Some p) = IsAllMade p.making

-- all of each is there
pub record AreAllMade (ps : Preparations) : Type 0 where
  pub first : IsAllMadeIf ps.first
  pub second : IsAllMadeIf ps.second
  pub third : IsAllMadeIf ps.third
  pub fourth : IsAllMadeIf ps.fourth

-- a whole answer to these words in a scheme, if there is one
abbrev pub IsWholeFor : Scheme → List ℕ → Option Preparation → Type 0
IsWholeFor scheme words None = ⊥
IsWholeFor scheme words (Some p) = IsAllMade p.making × (scheme_made p.making ≡ scheme) × (p.query.items ≡ words)

-- one of the answers is whole, and the one to these words in a scheme
abbrev pub HasWholeFor : Scheme → List ℕ → Preparations → Type 0
HasWholeFor scheme words ps =
    IsWholeFor scheme words ps.first ⊎ IsWholeFor scheme words ps.second ⊎ IsWholeFor scheme words ps.third ⊎ IsWholeFor scheme words ps.fourth
