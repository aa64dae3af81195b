-- How long queries, answers and hints are.
use Rattle.std.proofs.Common.{◌≡◌, ℕ, List, length, refl}
use Rattle.matrix_u32.proofs.Products.{length-list_of}
use Rattle.digit_pack.specs.Layout.{Shape, digit_rows, digit_cols}
use Rattle.simple_scheme.specs.Simple.{hint_of, simple_query, simple_answer}
use Rattle.double_scheme.proofs.Lengths.{length-query_of, length-answer_of}
use Rattle.pir_schemes.specs.declared.scheme.Scheme.{Scheme}
use Rattle.pir_schemes.specs.declared.scheme.Scheme.TheVariants.{Simple, Double}
use Rattle.pir_schemes.specs.declared.plan.Plan.{Plan}
use Rattle.pir_schemes.specs.Plans.{shape_at, digits_at, first_public, second_public}
use Rattle.pir_schemes.specs.Retrievals.{server_hint, hint_matrix, query_count, query_words, answer_count, answer_words}
use Rattle.pir_schemes.specs.Laws.{HasHintSizes}

pub length_query : (s : Scheme) (l : Shape) (n : ℕ) (public seed : List ℕ) (number i : ℕ) →
    length (query_words s l n public seed number i) ≡ query_count s l
unfolding query_words simple_query
length_query Simple l n public seed number i = length-list_of (digit_cols l) _
length_query Double l n public seed number i =
    length-query_of l (first_public l n public) (second_public l n public) seed number i refl refl

pub length-answer : (s : Scheme) (p : Plan) (records : List (List ℕ)) (words : List ℕ) →
    length (answer_words s p records words) ≡ answer_count s (shape_at p (length records)) p.dimension
unfolding answer_words simple_answer server_hint
length-answer Simple p records words = length-list_of (digit_rows (shape_at p (length records))) _
length-answer Double p records words =
    let l : Shape = shape_at p (length records) in
    length-answer_of l (digits_at p records) (server_hint p records) (second_public l p.dimension p.seed) words refl

pub hint_sizes : (s : Scheme) (p : Plan) (records : List (List ℕ)) → HasHintSizes s p records
unfolding hint_matrix hint_of server_hint
hint_sizes Simple p records = record { rows = refl; cols = refl; whole = length-list_of _ _ }
hint_sizes Double p records = record { rows = refl; cols = refl; whole = length-list_of _ _ }
