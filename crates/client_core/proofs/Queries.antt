-- How long a query is.
use Rattle.std.proofs.Common.{◌≡◌, ◌≤◌, ◌+◌, ℕ, List, length}
use Rattle.digit_pack.specs.Layout.{Shape, IsLayout}
use Rattle.pir_schemes.specs.declared.scheme.Scheme.{Scheme}
use Rattle.pir_schemes.specs.Retrievals.{query_count, query_words}
use Rattle.pir_schemes.proofs.Lengths.{length_query}
use Rattle.pir_schemes.proofs.Sizes.{few_query_words}

pub length_of_query : (s : Scheme) (l : Shape) (n : ℕ) (public seed : List ℕ) (number i : ℕ) → IsLayout l →
    length (query_words s l n public seed number i) ≤ 32768 + 4128768
length_of_query s l n public seed number i ok = rw (length_query s l n public seed number i) (few_query_words s l ok)

pub size_of_query : (s : Scheme) (l : Shape) (n : ℕ) (public seed : List ℕ) (number i : ℕ) →
    length (query_words s l n public seed number i) ≡ query_count s l
size_of_query s l n public seed number i = length_query s l n public seed number i
