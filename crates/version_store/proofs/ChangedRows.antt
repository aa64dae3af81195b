-- The rows that changed, as they are marked.
use Rattle.std.proofs.Common.{◌≡◌, ℕ, ◌+◌, ◌*◌, ◌/◌, ◌%◌, ◌<◌, ◌≤◌, zero, suc, arith, ap, ◌∙◌, sym, refl, inl, inr, List, [], ◌∷◌, ◌++◌, length, filter, Bool, true, false, not, cond, get_or-set_other}
use Rattle.std.proofs.lemmas.Bool.{cases_eq, cases_lt}
use Rattle.std.proofs.lemmas.List.{length-set, length-replicate, get_or-replicate, get_or_past, get_or-map, map-set}
use Rattle.std.proofs.lemmas.List.FromFn.{get_or-range_with_len, length-range_with_len}
use Rattle.std.proofs.lemmas.List.Elements.{All-filter, All-from_get_or}
use Rattle.std.specs.Prelude.{slice_index, slice_index_or, slice_set, nat_eq, All, replicate}
use Rattle.std.specs.List.{range_with_len}
use Rattle.std.specs.Cmp.Lexicographic.{pointwise, bytes_decides}
use Rattle.matrix_u32.specs.Matrix.{WordMatrix, entry, row}
use Rattle.matrix_u32.proofs.Products.{entry-matrix_of, same-list_of}
use Rattle.matrix_u32.proofs.Rows.{row_index}
use Rattle.lane_kernels.specs.Digit.{digit}
use Rattle.digit_pack.specs.Digits.{number_of}
use Rattle.digit_pack.specs.Layout.{Shape, digit_matrix, digit_at, digit_rows, digit_cols, digits_per_record, record_at}
use Rattle.pir_schemes.specs.declared.plan.Plan.{Plan}
use Rattle.pir_schemes.specs.Plans.{shape_at, digits_at, slot, slots}
use Rattle.version_store.specs.Deltas.{padded_row, differs_at, changed_rows}
use Rattle.version_store.specs.Editions.{Records, MarksChanges, is_marked, marked_rows}
use Rattle.version_store.proofs.Widened.{wide_rows}

-- ---- a record that is replaced once
-- digits of equal records
same_digit : (l : Shape) (a b : List (List ℕ)) (r j : ℕ) → r < digit_rows l → j < digit_cols l →
    record_at a (j * l.groups + r / digits_per_record l) ≡ record_at b (j * l.groups + r / digits_per_record l) →
    entry (digit_matrix l a) r j ≡ entry (digit_matrix l b) r j
same_digit l a b r j p q e =
    entry-matrix_of (digit_rows l) (digit_cols l) (digit_at l a) r j p q
    ∙ ap (λ (bytes : List ℕ). digit l.width (number_of 8 bytes) (r % digits_per_record l)) e
    ∙ sym (entry-matrix_of (digit_rows l) (digit_cols l) (digit_at l b) r j p q)

-- a row that is as at first after record i is replaced was so before, if the record was as at first
settled_digits : (l : Shape) (a b : List (List ℕ)) (i : ℕ) (bytes : List ℕ) → record_at b i ≡ record_at a i → (r : ℕ) → r < digit_rows l →
    row (digit_matrix l (slice_set b i bytes)) r ≡ row (digit_matrix l a) r → row (digit_matrix l b) r ≡ row (digit_matrix l a) r
settled_digits l a b i bytes same r p e =
    same-list_of (digit_cols l) (λ j. entry (digit_matrix l b) r j) (λ j. entry (digit_matrix l a) r j) (λ j q.
    let k : ℕ = j * l.groups + r / digits_per_record l in
    elim (cases_eq k i) [
      | inl here ↦ same_digit l b a r j p q (ap (record_at b) here ∙ same ∙ ap (record_at a) (sym here))
      | inr apart ↦
          same_digit l b (slice_set b i bytes) r j p q (sym (get_or-set_other b i k bytes [] apart))
          ∙ sym (row_index (digit_matrix l (slice_set b i bytes)) r j q)
          ∙ ap (λ (x : List ℕ). slice_index x j) e
          ∙ row_index (digit_matrix l a) r j q
    ])

settled_records : (p : Plan) (a b : List (List ℕ)) (i : ℕ) (bytes : List ℕ) → length b ≡ length a → i < length b → record_at b i ≡ record_at a i →
    (r : ℕ) → r < (digits_at p a).rows → row (digits_at p (slice_set b i bytes)) r ≡ row (digits_at p a) r → row (digits_at p b) r ≡ row (digits_at p a) r
settled_records p a b i bytes long inside same r below e =
    let l : Shape = shape_at p (length a) in
    let here : digits_at p b ≡ digit_matrix l (slots p b) = ap (λ n. digit_matrix (shape_at p n) (slots p b)) long in
    let there : digits_at p (slice_set b i bytes) ≡ digit_matrix l (slice_set (slots p b) i (slot p bytes)) =
    ap (λ n. digit_matrix (shape_at p n) (slots p (slice_set b i bytes))) (length-set b i bytes ∙ long)
    ∙ ap (digit_matrix l) (map-set (slot p) b i bytes) in
    let alike : record_at (slots p b) i ≡ record_at (slots p a) i =
    get_or-map (slot p) b i [] [] inside ∙ ap (slot p) same ∙ sym (get_or-map (slot p) a i [] [] (omega (arith, inside, long))) in
    ap (λ (m : WordMatrix). row m r) here
    ∙ settled_digits l (slots p a) (slots p b) i (slot p bytes) alike r below (ap (λ (m : WordMatrix). row m r) (sym there) ∙ e)

pub settled : (first between last : Records) (i : ℕ) (bytes : List ℕ) → between ≡ record first { records = between.records } →
    last ≡ record between { records = slice_set between.records i bytes } → length between.records ≡ length first.records → i < length between.records →
    record_at between.records i ≡ record_at first.records i → (r : ℕ) → r < (digits_at first.plan first.records).rows →
    row (digits_at last.plan last.records) r ≡ row (digits_at first.plan first.records) r →
    row (digits_at between.plan between.records) r ≡ row (digits_at first.plan first.records) r
settled first between last i bytes is changed long inside same r below e =
    let p : Plan = first.plan in
    let plan : between.plan ≡ p = ap (λ (x : Records). x.plan) is in
    let old : List (List ℕ) = between.records in
    let end : digits_at last.plan last.records ≡ digits_at p (slice_set old i bytes) =
    ap (λ (x : Records). digits_at x.plan x.records) changed ∙ ap (λ q. digits_at q (slice_set old i bytes)) plan in
    ap (λ q. row (digits_at q old) r) plan
    ∙ settled_records p first.records old i bytes long inside same r below (ap (λ (m : WordMatrix). row m r) (sym end) ∙ e)

-- ---- marked rows are the changed ones
-- the numbers of a range that pass either of two tests which agree
pub filter_same : (p q : ℕ → Bool) (a n : ℕ) → ((r : ℕ) → a ≤ r → r < a + n → p r ≡ q r) → filter p (range_with_len a n) ≡ filter q (range_with_len a n)
filter_same p q a zero h = refl
filter_same p q a (suc n) h =
    let here : p a ≡ q a = h a (omega arith) (omega arith) in
    let others : filter p (range_with_len (a + 1) n) ≡ filter q (range_with_len (a + 1) n) =
    filter_same p q (a + 1) n (λ r low high. h r (omega arith) (omega arith)) in
    ap (λ b. cond b (a ∷ filter p (range_with_len (a + 1) n)) (filter p (range_with_len (a + 1) n))) here
    ∙ ap (λ (xs : List ℕ). cond (q a) (a ∷ xs) xs) others

opposite : (a b : Bool) → (a ≡ false → b ≡ true) → (b ≡ true → a ≡ false) → a ≡ not b
opposite true true f g = let bad : true ≡ false = g refl in absurd cc
opposite true false f g = refl
opposite false true f g = refl
opposite false false f g = let bad : false ≡ true = f refl in absurd cc

pub marked_is_changed : (old new : WordMatrix) (before after : List Bool) → MarksChanges old new before after → new.rows ≡ old.rows → new.cols ≡ old.cols →
    length before ≡ new.rows → ((r : ℕ) → is_marked before r ≡ false) → marked_rows after ≡ changed_rows old new
unfolding changed_rows
marked_is_changed old new before after m rows cols count none =
    ap (λ n. filter (is_marked after) (range_with_len 0 n)) (m.count ∙ count)
    ∙ filter_same (is_marked after) (differs_at old new) 0 new.rows (λ r low high.
    let wide = wide_rows old new r cols (omega (arith, rows)) (omega arith) in
    let decides = bytes_decides (padded_row old new old r) (padded_row old new new r) in
    opposite (is_marked after r) (pointwise nat_eq (padded_row old new old r) (padded_row old new new r))
    (λ e. decides.1 (wide.0 ∙ sym (m.kept r (omega (arith, rows)) e).1 ∙ sym wide.1))
    (λ e. m.only r (omega (arith, rows)) (none r) (sym wide.1 ∙ sym (decides.0 e) ∙ wide.0)))

-- every changed row is one
pub changed_below : (old new : WordMatrix) → All (λ r. r < new.rows) (changed_rows old new)
unfolding changed_rows
changed_below old new =
    All-filter (differs_at old new) (λ r. r < new.rows) (range_with_len 0 new.rows)
    (All-from_get_or (λ r. r < new.rows) (range_with_len 0 new.rows) 0 (λ i h.
    let low : i < new.rows = omega (arith, h, length-range_with_len 0 new.rows) in
    let at : slice_index_or (range_with_len 0 new.rows) i 0 ≡ 0 + i = get_or-range_with_len 0 new.rows i 0 low in
    omega (arith, at, low)))

-- ---- marks
pub unmarked : (n r : ℕ) → is_marked (replicate n false) r ≡ false
unmarked n r = elim (cases_lt r n) [
  | inl l ↦ get_or-replicate n r false false l
  | inr g ↦ get_or_past (replicate n false) r false (omega (arith, g, length-replicate n false))
]

pub range_more : (a n : ℕ) → range_with_len a (n + 1) ≡ range_with_len a n ++ (a + n) ∷ []
range_more a zero = let here : a ≡ a + 0 = omega arith in ap (λ (x : ℕ). x ∷ []) here
range_more a (suc n) =
    let more : suc n + 1 ≡ suc (n + 1) = omega arith in
    let place : a + 1 + n ≡ a + suc n = omega arith in
    ap (range_with_len a) more ∙ ap (λ (xs : List ℕ). a ∷ xs) (range_more (a + 1) n ∙ ap (λ (x : ℕ). range_with_len (a + 1) n ++ x ∷ []) place)
