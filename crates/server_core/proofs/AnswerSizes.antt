-- How long an answer is.
use Rattle.std.proofs.Common.{◌≡◌, ◌≤◌, ℕ, List, length}
use Rattle.digit_pack.specs.Layout.{Shape, IsLayout}
use Rattle.pir_schemes.specs.declared.scheme.Scheme.{Scheme}
use Rattle.pir_schemes.specs.declared.plan.Plan.{Plan}
use Rattle.pir_schemes.specs.Plans.{shape_at}
use Rattle.pir_schemes.specs.Retrievals.{answer_count, answer_words}
use Rattle.pir_schemes.proofs.Lengths.{length-answer}
use Rattle.pir_schemes.proofs.Sizes.{few_answer_words}

pub size_of_answer : (s : Scheme) (p : Plan) (records : List (List ℕ)) (words : List ℕ) →
    length (answer_words s p records words) ≡ answer_count s (shape_at p (length records)) p.dimension
size_of_answer s p records words = length-answer s p records words

pub few_words : (s : Scheme) (l : Shape) (n : ℕ) → IsLayout l → n ≤ 1024 → answer_count s l n ≤ 2109444
few_words s l n ok few = few_answer_words s l n ok few
