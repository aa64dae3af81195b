-- Rows of a hint, one after another.
use Rattle.std.proofs.Common.{◌≡◌, ℕ, ◌+◌, ◌*◌, ◌<◌, ◌≤◌, suc, arith, ap, ◌∙◌, sym, refl, List, [], ◌∷◌, ◌++◌, length, map, take, get_or}
use Rattle.std.proofs.lemmas.List.{append-nil, take_more, take_all, length-append}
use Rattle.std.proofs.Math.Nat.{mul-le-mul}
use Rattle.std.proofs.lemmas.List.Concat.{flat_map-cons, flat_map-append}
use Rattle.std.specs.List.{flat_map}
use Rattle.matrix_u32.specs.Matrix.{row}
use Rattle.matrix_u32.proofs.Products.{length-list_of}
use Rattle.pir_schemes.specs.declared.scheme.Scheme.TheVariants.{Simple}
use Rattle.pir_schemes.specs.Retrievals.{hint_matrix}
use Rattle.pir_schemes.proofs.Lengths.{hint_sizes}
use Rattle.frame_codec.specs.Rows.{Row, HasWholeRows}
use Rattle.server_core.specs.Serving.{Setting, hint_row, named_hint_rows}

-- a row's number, and its words
abbrev pub row_words : Row → List ℕ
row_words r = r.number ∷ r.words

-- the words of rows
abbrev pub words_sent : Setting → List (List ℕ) → List ℕ → List ℕ
words_sent x records rows = flat_map row_words (map (hint_row x records) rows)

pub words_of : (x : Setting) (records : List (List ℕ)) (rows : List ℕ) → (named_hint_rows x records rows).words ≡ words_sent x records rows
unfolding named_hint_rows
words_of x records rows = refl

map_push : (x : Setting) (records : List (List ℕ)) (rows : List ℕ) (r : ℕ) →
    map (hint_row x records) (rows ++ r ∷ []) ≡ map (hint_row x records) rows ++ hint_row x records r ∷ []
map_push x records [] r = refl
map_push x records (q ∷ rows) r = ap (λ (xs : List Row). hint_row x records q ∷ xs) (map_push x records rows r)

-- one row more
pub words_more : (x : Setting) (records : List (List ℕ)) (rows : List ℕ) (i r : ℕ) → i < length rows → r ≡ get_or rows i r →
    words_sent x records (take (i + 1) rows) ≡ words_sent x records (take i rows) ++ (r ∷ row (hint_matrix Simple x.plan records) r)
words_more x records rows i r l is =
    let one : take (i + 1) rows ≡ take i rows ++ r ∷ [] = take_more rows i r l ∙ ap (λ (q : ℕ). take i rows ++ q ∷ []) (sym is) in
    ap (words_sent x records) one
    ∙ ap (flat_map row_words) (map_push x records (take i rows) r)
    ∙ flat_map-append row_words (map (hint_row x records) (take i rows)) (hint_row x records r ∷ [])
    ∙ ap (λ (xs : List ℕ). words_sent x records (take i rows) ++ xs)
    (flat_map-cons row_words (hint_row x records r) [] ∙ append-nil (row_words (hint_row x records r)))

row_length : (x : Setting) (records : List (List ℕ)) (r : ℕ) → length (row (hint_matrix Simple x.plan records) r) ≡ x.plan.dimension
row_length x records r = length-list_of _ _ ∙ (hint_sizes Simple x.plan records).cols

-- so many words for each row
pub words_count : (x : Setting) (records : List (List ℕ)) (rows : List ℕ) → length (words_sent x records rows) ≡ length rows * (x.plan.dimension + 1)
words_count x records [] = omega arith
words_count x records (r ∷ rows) =
    let n : ℕ = x.plan.dimension in
    let first : length (row_words (hint_row x records r)) ≡ n + 1 = omega (arith, row_length x records r) in
    let others : length (words_sent x records rows) ≡ length rows * (n + 1) = words_count x records rows in
    let more : suc (length rows) * (n + 1) ≡ length rows * (n + 1) + (n + 1) = omega arith in
    ap length (flat_map-cons row_words (hint_row x records r) (map (hint_row x records) rows))
    ∙ length-append (row_words (hint_row x records r)) (words_sent x records rows)
    ∙ omega (arith, first, others, more)

-- they are the rows, which are whole
pub rows_are : (x : Setting) (records : List (List ℕ)) (rows : List ℕ) (n : ℕ) (words : List ℕ) → n ≡ x.plan.dimension → words ≡ words_sent x records rows →
    record { dimension = n; words = words } ≡ named_hint_rows x records rows
unfolding named_hint_rows
rows_are x records rows n words wide is = rw (wide, is) refl

pub whole_rows : (x : Setting) (records : List (List ℕ)) (rows : List ℕ) (n : ℕ) (words : List ℕ) → n ≡ x.plan.dimension → words ≡ words_sent x records rows →
    HasWholeRows (record { dimension = n; words = words })
whole_rows x records rows n words wide is = record {
  count = length rows;
  len = ap length is ∙ words_count x records rows ∙ ap (λ d. length rows * (d + 1)) (sym wide);
}

pub few_words : (x : Setting) (records : List (List ℕ)) (rows words : List ℕ) → length rows ≤ 1024 → x.plan.dimension ≤ 1024 →
    words ≡ words_sent x records rows → length words ≤ 1049600
few_words x records rows words few low is =
    let wide : x.plan.dimension + 1 ≤ 1025 = omega arith in
    let most : length rows * (x.plan.dimension + 1) ≤ 1024 * 1025 = mul-le-mul few wide in
    omega (arith, ap length is ∙ words_count x records rows, most)

-- all rows are sent
pub all_sent : (x : Setting) (records : List (List ℕ)) (rows words : List ℕ) (i : ℕ) → length rows ≤ i → words ≡ words_sent x records (take i rows) →
    words ≡ words_sent x records rows
all_sent x records rows words i all is = is ∙ ap (words_sent x records) (take_all i rows all)

pub count_of_words : (x : Setting) (records : List (List ℕ)) (rows : List ℕ) →
    length (named_hint_rows x records rows).words ≡ length rows * (x.plan.dimension + 1)
count_of_words x records rows = ap length (words_of x records rows) ∙ words_count x records rows
