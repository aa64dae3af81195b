-- How many words queries and answers have.
use Rattle.std.proofs.Common.{arith, ◌≡◌, ℕ, ◌+◌, ◌*◌, ap, mul_comm, ◌∙◌, List, ◌++◌, length, take}
use Rattle.std.proofs.lemmas.List.{length-append}
use Rattle.std.specs.Prelude.{flat_map}
use Rattle.std.specs.List.{range_with_len}
use Rattle.matrix_u32.specs.Matrix.{WordMatrix, product, times_vector}
use Rattle.matrix_u32.proofs.Products.{length-list_of}
use Rattle.lane_kernels.specs.Digit.{split_count}
use Rattle.digit_pack.specs.Layout.{Shape, digit_rows, digit_cols, digits_per_record}
use Rattle.simple_scheme.specs.Simple.{simple_query}
use Rattle.double_scheme.specs.Double.{first_query_of, part_query_of, double_query, double_query_count, first_answer_of, part_answer_of, part_of_query, double_answer, double_answer_count, answer_part_count}
use Rattle.double_scheme.proofs.Blocks.{length-blocks}

-- blocks of one length after a prefix
after_prefix : (prefix : List ℕ) (f : ℕ → List ℕ) (n b count : ℕ) → length prefix ≡ n → ((k : ℕ) → length (f k) ≡ b) →
    length (prefix ++ flat_map f (range_with_len 0 count)) ≡ n + count * b
after_prefix prefix f n b count l e =
    length-append prefix (flat_map f (range_with_len 0 count))
    ∙ ap (λ k. k + length (flat_map f (range_with_len 0 count))) l
    ∙ ap (λ k. n + k) (length-blocks f b 0 count e)

pub length-query_of : (l : Shape) (a1 a2 : WordMatrix) (seed : List ℕ) (number i : ℕ) → a1.rows ≡ digit_cols l → a2.rows ≡ digit_rows l →
    length (double_query l a1 a2 seed number i) ≡ double_query_count l
unfolding double_query simple_query
length-query_of l a1 a2 seed number i rows1 rows2 =
    after_prefix (first_query_of l a1 seed number i) (part_query_of l a2 seed number i) (digit_cols l) (digit_rows l) (digits_per_record l)
    (length-list_of a1.rows _ ∙ rows1) (λ k. length-list_of a2.rows _ ∙ rows2)

length-part : (w n : ℕ) (hint first : WordMatrix) (c : List ℕ) → hint.rows ≡ n * split_count w → first.rows ≡ split_count w →
    length (part_answer_of hint first c) ≡ answer_part_count w n
length-part w n hint first c e f =
    length-append (times_vector hint c) (times_vector first c)
    ∙ ap (λ k. k + length (times_vector first c)) (length-list_of hint.rows _ ∙ e)
    ∙ ap (λ k. n * split_count w + k) (length-list_of first.rows _ ∙ f)

length-hint : (w : ℕ) (first a2 : WordMatrix) → first.rows ≡ split_count w → length (product first a2).words ≡ a2.cols * split_count w
length-hint w first a2 e = length-list_of (first.rows * a2.cols) _ ∙ ap (λ k. k * a2.cols) e ∙ mul_comm (split_count w) a2.cols

pub length-answer_of : (l : Shape) (digits hint a2 : WordMatrix) (words : List ℕ) → hint.rows ≡ a2.cols * split_count l.width →
    length (double_answer l digits hint a2 words) ≡ double_answer_count l a2.cols
unfolding double_answer
length-answer_of l digits hint a2 words e =
    let first = first_answer_of l.width digits (take (digit_cols l) words) in
    let one : first.rows ≡ split_count l.width = mul_one (split_count l.width) in
    after_prefix (product first a2).words (λ d. part_answer_of hint first (part_of_query l words d)) (a2.cols * split_count l.width)
    (answer_part_count l.width a2.cols) (digits_per_record l)
    (length-hint l.width first a2 one) (λ k. length-part l.width a2.cols hint first (part_of_query l words k) e one)
  where
    mul_one : (n : ℕ) → 1 * n ≡ n
    mul_one n = omega arith
