-- How many words queries and answers have at most.
use Rattle.std.proofs.Common.{◌≤◌, ◌+◌, ◌*◌, ℕ, refl, arith}
use Rattle.std.proofs.lemmas.Nat.{mul-le}
use Rattle.lane_kernels.specs.Digit.{split_count}
use Rattle.digit_pack.specs.Layout.{Shape, IsLayout, digits_per_record}
use Rattle.digit_pack.proofs.Limits.{few_digits, few_rows, few_cols}
use Rattle.double_scheme.proofs.Sizes.{few_in_word, few_split}
use Rattle.pir_schemes.specs.declared.scheme.Scheme.{Scheme}
use Rattle.pir_schemes.specs.declared.scheme.Scheme.TheVariants.{Simple, Double}
use Rattle.pir_schemes.specs.Retrievals.{query_count, answer_count}

-- so a frame has room for a query
pub few_query_words : (s : Scheme) (l : Shape) → IsLayout l → query_count s l ≤ 32768 + 4128768
few_query_words Simple l ok = omega (arith, few_cols l ok)
few_query_words Double l ok = omega (arith, few_cols l ok, ok.groups.2)

pub few_answer_words : (s : Scheme) (l : Shape) (n : ℕ) → IsLayout l → n ≤ 1024 → answer_count s l n ≤ 2109444
few_answer_words Simple l n ok few = omega (arith, few_rows l ok)
few_answer_words Double l n ok few =
    let word : split_count l.width ≤ 6 = few_in_word l.width ok.width.0 in
    let first : n * split_count l.width ≤ 6144 = few_split l.width n (n * split_count l.width) ok.width.0 few refl in
    let parts : digits_per_record l * (n * split_count l.width + split_count l.width) ≤ 342 * 6150 =
    mul-le (digits_per_record l) (n * split_count l.width + split_count l.width) 342 6150 (few_digits l ok) (omega (arith, word, first)) in
    omega (arith, first, parts)
