-- An answer that is made in steps.
use Rattle.std.specs.Prelude.{◌≡◌, ◌↔◌, ℕ, ◌≤◌, List, length, true, Option, Some, None, Result, Ok, Err}
use Rattle.std.specs.declared.vec.Vec.{Vec}
use Rattle.std.specs.declared.alloc.Global.{Global}
use Rattle.matrix_u32.specs.Matrix.{times_vector}
use Rattle.digit_pack.specs.Layout.{digit_rows}
use Rattle.double_scheme.specs.Steps.{HasFirst, IsMadeSoFar, IsWholeAt, rows_made}
use Rattle.pir_schemes.specs.declared.scheme.Scheme.{Scheme}
use Rattle.pir_schemes.specs.declared.scheme.Scheme.TheVariants as scheme
use Rattle.pir_schemes.specs.Plans.{digits_at, second_public}
use Rattle.pir_schemes.specs.Retrievals.{server_hint, query_count, answer_words}
use Rattle.version_store.specs.Editions.{Records, version_shape}
use Rattle.version_store.specs.declared.preparing.AnswerMaking.{AnswerMaking}
use Rattle.version_store.specs.declared.preparing.AnswerMaking.TheVariants.{Simple, Double}
use Rattle.version_store.specs.declared.preparing.Preparation.{Preparation}

-- What is made of the answer to a query on a version is right, and whole if it is said to be.
abbrev pub IsMakingFor : Records → List ℕ → AnswerMaking → Type 0
IsMakingFor e query (Simple made out) =
    (length query ≡ query_count scheme.Simple (version_shape e)) × (made ≤ digit_rows (version_shape e)) × (length out.items ≡ digit_rows (version_shape e))
    × HasFirst made (times_vector (digits_at e.plan e.records) query) out.items
IsMakingFor e query (Double whole steps) =
    (length query ≡ query_count scheme.Double (version_shape e)) × (steps.layout ≡ version_shape e)
    × IsMadeSoFar (version_shape e) (digits_at e.plan e.records) (server_hint e.plan e.records)
    (second_public (version_shape e) e.plan.dimension e.plan.seed) query steps
    × (whole ≡ true ↔ IsWholeAt (version_shape e) steps.stage)

-- the scheme of an answer
abbrev pub scheme_made : AnswerMaking → Scheme
scheme_made (Simple made out) = scheme.Simple
scheme_made (Double whole steps) = scheme.Double

-- All of an answer is there.
abbrev pub IsAllMade : AnswerMaking → Type 0
IsAllMade (Simple made out) = made ≡ length out.items
IsAllMade (Double whole steps) = whole ≡ true

-- how much of an answer on a version is there, as one number that each step makes greater
abbrev pub amount_made : Records → AnswerMaking → ℕ
amount_made e (Simple made out) = made
amount_made e (Double whole steps) = rows_made (version_shape e) (server_hint e.plan e.records).rows steps.stage

-- the answer that was begun, if there is one, is that of a query on this version
abbrev pub IsPrepared : Records → Option Preparation → Type 0
IsPrepared e None = Unit {0}
IsPrepared e (Some p) = IsMakingFor e p.query.items p.making

-- What is asked for is given, and is the answer to these words; or what was begun is given back.
abbrev pub GivesAnswer : Records → Scheme → List ℕ → Result (Vec ℕ Global) (Option Preparation) → Type 0
GivesAnswer e s words (Ok answer) = answer.items ≡ answer_words s e.plan e.records words
GivesAnswer e s words (Err kept) = IsPrepared e kept
