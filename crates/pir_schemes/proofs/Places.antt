-- Where two queries of one seed and number differ.
use Rattle.std.proofs.Common.{◌≡◌, ℕ, zero, suc, ◌+◌, ◌-◌, ◌*◌, ◌/◌, ◌%◌, ◌^◌, ◌<◌, ◌≤◌, Bool, true, false, List, ◌++◌, length, drop, refl, sym, ap, ◌∙◌, arith}
use Rattle.std.specs.Prelude.{ℤ, pos, ◌==◌, nat_lt, slice_index, slice_index_or, flat_map, if◌then◌else◌}
use Rattle.std.specs.List.{range_with_len}
use Rattle.std.proofs.lemmas.Bool.{ltb-true, ltb-false}
use Rattle.std.proofs.lemmas.Nat.{div_below, mod_below}
use Rattle.std.proofs.Math.Nat.{mod-add-mod, mod-add-div'}
use Rattle.std.proofs.lemmas.List.{get_or_append_left, get_or-take, get_or-drop}
use Rattle.matrix_u32.specs.Matrix.{WordMatrix, row}
use Rattle.matrix_u32.specs.Sum.{list_of, residue, dot}
use Rattle.matrix_u32.proofs.Products.{length-list_of, at-list_of}
use Rattle.noise_table.specs.Margin.{delta}
use Rattle.digit_pack.specs.Layout.{Shape, digit_rows, digit_cols, digits_per_record, column_of, first_row}
use Rattle.simple_scheme.specs.Simple.{secret, query_noise, simple_query}
use Rattle.double_scheme.specs.Double.{part_secret, part_noise, first_query_of, part_query_of, double_query}
use Rattle.double_scheme.proofs.Blocks.{block_after}
use Rattle.pir_schemes.specs.declared.scheme.Scheme.{Scheme}
use Rattle.pir_schemes.specs.declared.scheme.Scheme.TheVariants.{Simple, Double}
use Rattle.pir_schemes.specs.Plans.{first_public, second_public}
use Rattle.pir_schemes.specs.Retrievals.{query_count, query_words}
use Rattle.pir_schemes.specs.Laws.{is_place, QueriesDifferAtTheirPlaces}

-- a word of an encryption before delta is added
abbrev plain : WordMatrix → List ℕ → List ℤ → ℕ → ℕ
plain a s e j = dot (row a j) s + residue (slice_index_or e j (pos 0))

-- delta at a place
abbrev marked : ℕ → Bool → ℕ → ℕ
marked w here x = (x + (if here then delta w else 0)) % 2 ^ 32

-- a word of an encryption
cipher_word : (w : ℕ) (a : WordMatrix) (s : List ℕ) (e : List ℤ) (place j : ℕ) → j < a.rows →
    slice_index (list_of a.rows (λ k. marked w (k == place) (plain a s e k))) j ≡ marked w (j == place) (plain a s e j)
cipher_word w a s e place j lt = at-list_of a.rows _ j lt

-- the place of word k within the second layer: in part d, word r
record Inside (rows count k m d r : ℕ) : Type 0 where
  part : d < count
  word : r < rows
  whole : m + d * rows + r ≡ k

inside : (rows count k m : ℕ) → m ≤ k → k < m + count * rows → Inside rows count k m ((k - m) / rows) ((k - m) % rows)
inside zero count k m le lt = absurd (let none : count * zero ≡ 0 = omega arith in omega (arith, none))
inside (suc more) count k m le lt =
    let rows = suc more in
    let some : 0 < rows = omega arith in
    let below : k - m < count * rows = omega arith in
    let split : (k - m) % rows + (k - m) / rows * rows ≡ k - m = mod-add-div' (k - m) rows in
    record { part = div_below (k - m) rows count some below; word = mod_below (k - m) rows some; whole = omega (arith, split) }

-- a word of block d after a prefix
in_block : (prefix : List ℕ) (f : ℕ → List ℕ) (n b count d r : ℕ) → length prefix ≡ n → ((k : ℕ) → length (f k) ≡ b) → d < count → r < b →
    slice_index (prefix ++ flat_map f (range_with_len 0 count)) (n + d * b + r) ≡ slice_index (f d) r
in_block prefix f n b count d r len each inside_count inside_block =
    let whole = prefix ++ flat_map f (range_with_len 0 count) in
    sym (get_or-drop (n + d * b) whole r 0)
    ∙ sym (get_or-take b (drop (n + d * b) whole) r 0 inside_block)
    ∙ ap (λ (x : List ℕ). slice_index x r) (block_after prefix f n b count d len each inside_count)

-- ---- word k of a query before delta is added: the same for each record

unmarked : Scheme → Shape → ℕ → List ℕ → List ℕ → ℕ → ℕ → ℕ
unmarked Simple l n public seed number k =
    let a1 = first_public l n public in plain a1 (secret seed number a1.cols) (query_noise seed number a1.rows) k
unmarked Double l n public seed number k =
    let a1 = first_public l n public in
    let a2 = second_public l n public in
    if nat_lt k (digit_cols l) then plain a1 (secret seed number a1.cols) (query_noise seed number a1.rows) k
    else plain a2 (part_secret seed number a2.cols ((k - digit_cols l) / digit_rows l)) (part_noise seed number a2.rows ((k - digit_cols l) / digit_rows l))
    ((k - digit_cols l) % digit_rows l)

simple_word : (l : Shape) (n : ℕ) (public seed : List ℕ) (number i k : ℕ) → k < digit_cols l →
    slice_index (query_words Simple l n public seed number i) k ≡ marked l.width (is_place Simple l i k) (unmarked Simple l n public seed number k)
unfolding query_words simple_query unmarked
simple_word l n public seed number i k lt =
    let a1 = first_public l n public in cipher_word l.width a1 (secret seed number a1.cols) (query_noise seed number a1.rows) (column_of l i) k lt

double_word : (l : Shape) (n : ℕ) (public seed : List ℕ) (number i k : ℕ) → k < query_count Double l →
    slice_index (query_words Double l n public seed number i) k ≡ marked l.width (is_place Double l i k) (unmarked Double l n public seed number k)
unfolding query_words double_query simple_query unmarked
double_word l n public seed number i k lt = by (nat_lt k (digit_cols l)) refl
  where
    by : (b : Bool) → nat_lt k (digit_cols l) ≡ b →
        slice_index (query_words Double l n public seed number i) k ≡ marked l.width (is_place Double l i k) (unmarked Double l n public seed number k)
    by true is =
        let a1 = first_public l n public in
        let a2 = second_public l n public in
        let below : k < digit_cols l = ltb-true k (digit_cols l) is in
        let first = first_query_of l a1 seed number i in
        let inside_first : k < length first = omega (arith, length-list_of {X = ℕ} (digit_cols l), below) in
        rw is
        (get_or_append_left first (flat_map (part_query_of l a2 seed number i) (range_with_len 0 (digits_per_record l))) 0 k inside_first
        ∙ cipher_word l.width a1 (secret seed number a1.cols) (query_noise seed number a1.rows) (column_of l i) k below)
    by false is =
        let a1 = first_public l n public in
        let a2 = second_public l n public in
        let from : digit_cols l ≤ k = ltb-false k (digit_cols l) is in
        let d = (k - digit_cols l) / digit_rows l in
        let r = (k - digit_cols l) % digit_rows l in
        let place : Inside (digit_rows l) (digits_per_record l) k (digit_cols l) d r = inside (digit_rows l) (digits_per_record l) k (digit_cols l) from lt in
        let words = first_query_of l a1 seed number i ++ flat_map (part_query_of l a2 seed number i) (range_with_len 0 (digits_per_record l)) in
        rw is
        (ap (λ (x : ℕ). slice_index words x) (sym place.whole)
        ∙ in_block (first_query_of l a1 seed number i) (part_query_of l a2 seed number i) (digit_cols l) (digit_rows l) (digits_per_record l) d r
        (length-list_of (digit_cols l) _) (λ x. length-list_of (digit_rows l) _) place.part place.word
        ∙ cipher_word l.width a2 (part_secret seed number a2.cols d) (part_noise seed number a2.rows d) (first_row l i + d) r place.word)

query_word : (s : Scheme) (l : Shape) (n : ℕ) (public seed : List ℕ) (number i k : ℕ) → k < query_count s l →
    slice_index (query_words s l n public seed number i) k ≡ marked l.width (is_place s l i k) (unmarked s l n public seed number k)
query_word Simple l n public seed number i k lt = simple_word l n public seed number i k lt
query_word Double l n public seed number i k lt = double_word l n public seed number i k lt

more_by_delta : (w x : ℕ) (here there : Bool) → here ≡ true → there ≡ false → marked w here x ≡ (marked w there x + delta w) % 2 ^ 32
more_by_delta w x here there e f =
    let none : x + 0 ≡ x = omega arith in
    rw (e, f, none) (sym (mod-add-mod x (2 ^ 32) (delta w)))

pub queries_differ : QueriesDifferAtTheirPlaces
queries_differ s l n public seed number i j k lt =
    let x = unmarked s l n public seed number k in
    let first = query_word s l n public seed number i k lt in
    let second = query_word s l n public seed number j k lt in
    record {
      same = λ e. first ∙ ap (λ (b : Bool). marked l.width b x) e ∙ sym second;
      more = λ e f. first ∙ more_by_delta l.width x (is_place s l i k) (is_place s l j k) e f ∙ ap (λ (y : ℕ). (y + delta l.width) % 2 ^ 32) (sym second);
    }
