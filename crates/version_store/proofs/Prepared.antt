-- The answer that is made in steps.
use Rattle.std.proofs.Common.{◌≡◌, Option, Some, None, ℕ, ◌*◌, arith, ap, sym, subst, ◌∙◌, List, length, true, false, Bool}
use Rattle.std.proofs.lemmas.List.{take_all}
use Rattle.std.specs.declared.vec.Vec.{Vec}
use Rattle.std.specs.declared.alloc.Global.{Global}
use Rattle.matrix_u32.specs.Sum.{dot}
use Rattle.matrix_u32.specs.Matrix.{WordMatrix, row, times_vector}
use Rattle.matrix_u32.proofs.Products.{length-list_of}
use Rattle.lane_kernels.specs.Digit.{split_count}
use Rattle.digit_pack.specs.Layout.{Shape, digit_rows}
use Rattle.simple_scheme.specs.Simple.{simple_answer}
use Rattle.double_scheme.specs.Double.{double_answer, double_query_count}
use Rattle.double_scheme.specs.Steps.{IsMadeSoFar, IsWholeAt}
use Rattle.double_scheme.specs.declared.steps.AnswerSteps.{AnswerSteps}
use Rattle.double_scheme.specs.declared.steps.AnswerStage.TheVariants.{Column}
use Rattle.pir_schemes.specs.declared.scheme.Scheme.TheVariants as scheme
use Rattle.pir_schemes.specs.Plans.{digits_at, second_public}
use Rattle.pir_schemes.specs.Retrievals.{server_hint, answer_words}
use Rattle.version_store.specs.Editions.{Records, version_shape}
use Rattle.version_store.specs.Preparing.{IsMakingFor, IsPrepared}
use Rattle.version_store.specs.Together.{IsSteppedIf}
use Rattle.version_store.specs.declared.preparing.Preparation.{Preparation}
use Rattle.version_store.specs.declared.preparing.AnswerMaking.TheVariants.{Simple, Double}
use Rattle.version_store.proofs.DoubleLemmas.{server_rows}

-- a SimplePIR answer of which all words are there
pub simple_whole : (e : Records) (query words : List ℕ) (made : ℕ) (out : Vec ℕ Global) → IsMakingFor e query (Simple made out) → made ≡ length out.items → query ≡ words →
    out.items ≡ answer_words scheme.Simple e.plan e.records words
unfolding answer_words simple_answer
simple_whole e query words made out h all same =
    let d : WordMatrix = digits_at e.plan e.records in
    let long : length (times_vector d query) ≡ digit_rows (version_shape e) = length-list_of d.rows (λ i. dot (row d i) query) in
    sym (take_all made out.items (omega (arith, all)))
    ∙ h.3
    ∙ take_all made (times_vector d query) (omega (arith, all, long, h.2))
    ∙ ap (times_vector d) same

-- a DoublePIR answer of which no step is left
pub double_whole : (e : Records) (query words : List ℕ) (whole : Bool) (steps : AnswerSteps) (answer : List ℕ) → IsMakingFor e query (Double whole steps) → whole ≡ true →
    query ≡ words →
    ((d h a2 : WordMatrix) (q : List ℕ) → IsMadeSoFar steps.layout d h a2 q steps → h.rows ≡ a2.cols * split_count steps.layout.width →
    IsWholeAt steps.layout steps.stage → answer ≡ double_answer steps.layout d h a2 q) →
    answer ≡ answer_words scheme.Double e.plan e.records words
unfolding answer_words
double_whole e query words whole steps answer h is same gives =
    let l : Shape = version_shape e in
    let d : WordMatrix = digits_at e.plan e.records in
    let server : WordMatrix = server_hint e.plan e.records in
    let a2 : WordMatrix = second_public l e.plan.dimension e.plan.seed in
    let shape : steps.layout ≡ l = h.1 in
    subst (λ (k : Shape). (IsMadeSoFar k d server a2 query steps → server.rows ≡ a2.cols * split_count k.width → IsWholeAt k steps.stage → answer ≡ double_answer k d server a2 query)) shape
    (gives d server a2 query) h.2 (server_rows e) (h.3.0 is)
    ∙ ap (double_answer l d server a2) same

-- a DoublePIR answer of which no step was made
pub double_begun : (e : Records) (l : Shape) (n : ℕ) (query : List ℕ) (steps : AnswerSteps) → version_shape e ≡ l → e.plan.dimension ≡ n →
    length query ≡ double_query_count l → ((d h a2 : WordMatrix) (q : List ℕ) → a2.cols ≡ n → IsMadeSoFar l d h a2 q steps) → steps.stage ≡ Column 0 →
    IsMakingFor e query (Double false steps)
double_begun e l n query steps shape dimension long begun stage =
    let made : IsMadeSoFar l (digits_at e.plan e.records) (server_hint e.plan e.records) (second_public (version_shape e) e.plan.dimension e.plan.seed) query steps =
    begun (digits_at e.plan e.records) (server_hint e.plan e.records) (second_public (version_shape e) e.plan.dimension e.plan.seed) query dimension in (
      long ∙ ap double_query_count (sym shape),
      made.room.layout ∙ sym shape,
      subst (λ (k : Shape). IsMadeSoFar k (digits_at e.plan e.records) (server_hint e.plan e.records) (second_public (version_shape e) e.plan.dimension e.plan.seed) query steps)
          (sym shape) made,
      ((λ is. let no : false ≡ true = is in cc), (λ whole. absurd (subst (IsWholeAt (version_shape e)) stage whole))),
    )

-- an answer of which one more step was made, if there is one, is still that of a query on the
-- version
pub prepared_on : (e : Records) (old new : Option Preparation) → IsPrepared e old → IsSteppedIf e old new → IsPrepared e new
prepared_on e None new so_far h = subst (IsPrepared e) (sym h) tt
prepared_on e (Some old) None so_far h = absurd h
prepared_on e (Some old) (Some new) so_far h = h.so_far
