-- Rows of a hint in place of others.
use Rattle.std.proofs.Common.{◌≡◌, ◌≢◌, ◌⊎◌, ℕ, zero, suc, ◌+◌, ◌*◌, ◌/◌, ◌<◌, ◌≤◌, Bool, true, false, List, [], ◌∷◌, ◌++◌, length, take, drop, get_or, refl, sym, ap, ◌∙◌, arith, inl, inr}
use Rattle.std.specs.Prelude.{map, slice_index, nat_le, nat_lt, ◌&&◌, ◌==◌}
use Rattle.std.specs.List.{flat_map, AllByRecursion, Contains}
use Rattle.std.proofs.lemmas.Bool.{and_parts, eq-eqb, ne_eqb, leb-true, ltb-true, le-leb, lt-ltb, lt-leb, le-ltb, cases_eq}
use Rattle.std.proofs.Math.Nat.{mul-div_cancel}
use Rattle.std.proofs.lemmas.List.{take_more, drop_more, take_at, drop_at, drop-drop, length-append, length-map, get_or-map, get_or-drop, drop_all, take_all}
use Rattle.std.proofs.lemmas.List.FromFn.{fill_by_all}
use Rattle.matrix_u32.specs.Matrix.{WordMatrix, IsWhole, entry, row, with_row}
use Rattle.matrix_u32.proofs.Products.{length-list_of, at-list_of_any}
use Rattle.matrix_u32.proofs.Changes.{matrix_by_entries}
use Rattle.matrix_u32.proofs.Rows.{with_row-same, with_row-other, row_index, length-row}
use Rattle.frame_codec.specs.Rows.{Row, RowList, row_list, row_count, row_at, rows_in}
use Rattle.digit_pack.specs.Layout.{digit_rows}
use Rattle.client_core.specs.States.{shape_known}
use Rattle.client_core.specs.declared.state.ServerInfo.{ServerInfo}
use Rattle.client_core.specs.Replies.{is_current, are_ascending, row_numbers, is_delta, with_rows_replaced}
use Rattle.client_core.specs.Laws.{rows_of}

-- ---- the sizes stay

pub with_rows-rows : (m : WordMatrix) (rs : List Row) → (with_rows_replaced m rs).rows ≡ m.rows
unfolding with_rows_replaced
with_rows-rows m [] = refl
with_rows-rows m (r ∷ rs) = with_rows-rows (with_row m r.number r.words) rs

pub with_rows-cols : (m : WordMatrix) (rs : List Row) → (with_rows_replaced m rs).cols ≡ m.cols
unfolding with_rows_replaced
with_rows-cols m [] = refl
with_rows-cols m (r ∷ rs) = with_rows-cols (with_row m r.number r.words) rs

-- ---- one row more

with_rows-append : (m : WordMatrix) (rs : List Row) (r : Row) → with_rows_replaced m (rs ++ r ∷ []) ≡ with_row (with_rows_replaced m rs) r.number r.words
unfolding with_rows_replaced
with_rows-append m [] r = refl
with_rows-append m (x ∷ rs) r = with_rows-append (with_row m x.number x.words) rs r

pub with_rows-none : (m : WordMatrix) → m ≡ with_rows_replaced m []
unfolding with_rows_replaced
with_rows-none m = refl

pub with_rows-more : (m : WordMatrix) (rs : List Row) (j : ℕ) (d : Row) → j < length rs →
    with_rows_replaced m (take (j + 1) rs) ≡ with_row (with_rows_replaced m (take j rs)) (get_or rs j d).number (get_or rs j d).words
with_rows-more m rs j d lt = ap (λ (x : List Row). with_rows_replaced m x) (take_more rs j d lt) ∙ with_rows-append m (take j rs) (get_or rs j d)

-- ---- the numbers of rows, and their order

pub length-rows_in : (rows : RowList) → length (rows_in rows) ≡ row_count rows
length-rows_in rows = length-list_of (row_count rows) (row_at rows)

pub rows_in-at : (rows : RowList) (j : ℕ) (d : Row) → j < row_count rows → get_or (rows_in rows) j d ≡ row_at rows j
rows_in-at rows j d lt = at-list_of_any (row_count rows) (row_at rows) j d lt

pub length-numbers : (rows : RowList) → length (row_numbers rows) ≡ row_count rows
length-numbers rows = length-map (rows_in rows) (λ r. r.number) ∙ length-rows_in rows

pub numbers-at : (rows : RowList) (j : ℕ) → j < row_count rows → get_or (row_numbers rows) j 0 ≡ (row_at rows j).number
numbers-at rows j lt =
    get_or-map (λ r. r.number) (rows_in rows) j (row_at rows j) 0 (omega (arith, length-rows_in rows))
    ∙ ap (λ (r : Row). r.number) (rows_in-at rows j (row_at rows j) lt)

ascending_more : (from limit j i : ℕ) (is : List ℕ) → j < length is → get_or is j 0 ≡ i →
    are_ascending from limit (drop j is) ≡ ((nat_le from i && nat_lt i limit) && are_ascending (i + 1) limit (drop (j + 1) is))
unfolding are_ascending
ascending_more from limit j i is lt e =
    ap (λ (x : List ℕ). are_ascending from limit x) (drop_more is j 0 lt)
    ∙ ap (λ (x : ℕ). (nat_le from x && nat_lt x limit) && are_ascending (x + 1) limit (drop (j + 1) is)) e

-- one more number is in order
pub ascending_step : (from limit j i : ℕ) (is : List ℕ) → j < length is → get_or is j 0 ≡ i → from ≤ i → i < limit →
    are_ascending from limit (drop j is) ≡ are_ascending (i + 1) limit (drop (j + 1) is)
ascending_step from limit j i is lt e low high = ascending_more from limit j i is lt e ∙ rw (le-leb from i low, lt-ltb i limit high) refl

-- one number is below those before it
pub ascending_falls : (from limit j i : ℕ) (is : List ℕ) → j < length is → get_or is j 0 ≡ i → i < from → are_ascending from limit (drop j is) ≡ false
ascending_falls from limit j i is lt e low = ascending_more from limit j i is lt e ∙ rw (lt-leb from i low) refl

-- one number is beyond the limit
pub ascending_leaves : (from limit j i : ℕ) (is : List ℕ) → j < length is → get_or is j 0 ≡ i → from ≤ i → limit ≤ i →
    are_ascending from limit (drop j is) ≡ false
ascending_leaves from limit j i is lt e low high = ascending_more from limit j i is lt e ∙ rw (le-leb from i low, le-ltb i limit high) refl

-- no number is left
pub ascending_ends : (from limit j : ℕ) (is : List ℕ) → length is ≤ j → are_ascending from limit (drop j is) ≡ true
unfolding are_ascending
ascending_ends from limit j is le = ap (λ (x : List ℕ). are_ascending from limit x) (drop_all j is le)

pub ascending_begins : (limit : ℕ) (is : List ℕ) → are_ascending 0 limit is ≡ are_ascending 0 limit (drop 0 is)
ascending_begins limit is = refl

-- a number in order is within the limits
pub ascending_here : (from limit i : ℕ) (is : List ℕ) → are_ascending from limit (i ∷ is) ≡ true →
    (from ≤ i) × (i < limit) × (are_ascending (i + 1) limit is ≡ true)
unfolding are_ascending
ascending_here from limit i is h =
    let a = and_parts (nat_le from i && nat_lt i limit) (are_ascending (i + 1) limit is) h in
    let b = and_parts (nat_le from i) (nat_lt i limit) a.0 in
    (leb-true from i b.0, ltb-true i limit b.1, a.1)

pub ascending_below : (from limit : ℕ) (is : List ℕ) (j d : ℕ) → are_ascending from limit is ≡ true → j < length is → get_or is j d < limit
ascending_below from limit [] j d h lt = absurd (omega arith)
ascending_below from limit (i ∷ is) zero d h lt = (ascending_here from limit i is h).1
ascending_below from limit (i ∷ is) (suc j) d h lt =
    ascending_below (i + 1) limit is j d (ascending_here from limit i is h).2 (omega arith)

-- each row is below the limit
pub rows_below : (limit : ℕ) (rows : RowList) (j : ℕ) → are_ascending 0 limit (row_numbers rows) ≡ true → j < row_count rows → (row_at rows j).number < limit
rows_below limit rows j h lt = rw (← numbers-at rows j lt) (ascending_below 0 limit (row_numbers rows) j 0 h (omega (arith, length-numbers rows)))

-- one row more of those in a list, and all of them
pub with_rows-next : (m : WordMatrix) (rows : RowList) (j : ℕ) → j < row_count rows →
    with_rows_replaced m (take (j + 1) (rows_in rows)) ≡ with_row (with_rows_replaced m (take j (rows_in rows))) (row_at rows j).number (row_at rows j).words
with_rows-next m rows j lt =
    with_rows-more m (rows_in rows) j (row_at rows j) (omega (arith, length-rows_in rows))
    ∙ ap (λ (r : Row). with_row (with_rows_replaced m (take j (rows_in rows))) r.number r.words) (rows_in-at rows j (row_at rows j) lt)

pub with_rows-all : (m : WordMatrix) (rows : RowList) (j : ℕ) → row_count rows ≤ j → with_rows_replaced m (take j (rows_in rows)) ≡ with_rows_replaced m (rows_in rows)
with_rows-all m rows j le = ap (λ (x : List Row). with_rows_replaced m x) (take_all j (rows_in rows) (omega (arith, length-rows_in rows)))

-- ---- what makes a Delta one that was asked for

and_no : (a b : Bool) → a ≡ false → (a && b) ≡ false
and_no true b e = absurd cc
and_no false b e = refl

and_then_no : (a b : Bool) → b ≡ false → (a && b) ≡ false
and_then_no true b e = e
and_then_no false b e = refl

pub other_since : (k : ServerInfo) (asked since now count n : ℕ) (is : List ℕ) → since ≢ asked → is_delta k asked since now count n is ≡ false
other_since k asked since now count n is ne = and_no (since == asked) _ (ne_eqb since asked ne)

pub other_dimension : (k : ServerInfo) (asked since now count n : ℕ) (is : List ℕ) → n ≢ k.plan.dimension → is_delta k asked since now count n is ≡ false
other_dimension k asked since now count n is ne =
    and_then_no (since == asked) _ (and_then_no (is_current k now count) _ (and_no (n == k.plan.dimension) _ (ne_eqb n k.plan.dimension ne)))

pub too_many : (k : ServerInfo) (asked since now count n : ℕ) (is : List ℕ) → 1024 < length is → is_delta k asked since now count n is ≡ false
too_many k asked since now count n is lt =
    and_then_no (since == asked) _ (and_then_no (is_current k now count) _ (and_then_no (n == k.plan.dimension) _
    (and_no (nat_le (length is) 1024) _ (lt-leb (length is) 1024 lt))))

-- where all else is right, the version and the count decide
pub delta_is_current : (k : ServerInfo) (asked since now count n : ℕ) (is : List ℕ) → since ≡ asked → n ≡ k.plan.dimension → length is ≤ 1024 →
    are_ascending 0 (digit_rows (shape_known k)) is ≡ true → is_delta k asked since now count n is ≡ is_current k now count
delta_is_current k asked since now count n is same size few order =
    rw (eq-eqb since asked same, eq-eqb n k.plan.dimension size, le-leb (length is) 1024 few, order) (and_true (is_current k now count))
  where
    and_true : (b : Bool) → (b && true) ≡ b
    and_true true = refl
    and_true false = refl

-- ---- rows of one length, one after another, are these rows again

abbrev flat : List Row → List ℕ
flat rs = flat_map (λ r. r.number ∷ r.words) rs

abbrev HaveLength : ℕ → List Row → Type 0
HaveLength n rs = AllByRecursion (λ r. length r.words ≡ n) rs

length-flat : (n : ℕ) (rs : List Row) → HaveLength n rs → length (flat rs) ≡ length rs * (n + 1)
length-flat n [] all = omega arith
length-flat n (r ∷ rs) all =
    let more : length (flat rs) ≡ length rs * (n + 1) = length-flat n rs all.1 in
    let here : length r.words ≡ n = all.0 in
    omega (arith, length-append (r.number ∷ r.words) (flat rs))

row_count-flat : (n : ℕ) (rs : List Row) → HaveLength n rs → row_count (row_list n rs) ≡ length rs
row_count-flat n rs all = let e : length (flat rs) ≡ length rs * (n + 1) = length-flat n rs all in rw e (multiple n (length rs))
  where
    multiple : (n k : ℕ) → (k * (n + 1)) / (n + 1) ≡ k
    multiple n k = mul-div_cancel k {n = n + 1} (omega arith)

row_at-flat : (n : ℕ) (rs : List Row) (k : ℕ) (d : Row) → HaveLength n rs → k < length rs → get_or rs k d ≡ row_at (row_list n rs) k
row_at-flat n [] k d all lt = absurd (omega arith)
row_at-flat n (r ∷ rs) zero d all lt =
    let place : 0 * (n + 1) ≡ 0 = omega arith in
    let words : take n (r.words ++ flat rs) ≡ r.words = take_at r.words (flat rs) n all.0 in
    let whole : row_at (row_list n (r ∷ rs)) 0 ≡ record { number = r.number; words = take n (r.words ++ flat rs) } =
    ap (λ (p : ℕ). record { number = slice_index (flat (r ∷ rs)) p; words = take n (drop (p + 1) (flat (r ∷ rs))) }) place in
    sym (whole ∙ ap (λ (x : List ℕ). record { number = r.number; words = x }) words)
row_at-flat n (r ∷ rs) (suc k) d all lt =
    let place : suc k * (n + 1) ≡ (n + 1) + k * (n + 1) = omega arith in
    let size : length (r.number ∷ r.words) ≡ n + 1 = let here : length r.words ≡ n = all.0 in omega arith in
    let later : drop (n + 1) (flat (r ∷ rs)) ≡ flat rs = drop_at (r.number ∷ r.words) (flat rs) (n + 1) size in
    let number : slice_index (flat (r ∷ rs)) ((n + 1) + k * (n + 1)) ≡ slice_index (flat rs) (k * (n + 1)) =
    sym (get_or-drop (n + 1) (flat (r ∷ rs)) (k * (n + 1)) 0) ∙ ap (λ (x : List ℕ). slice_index x (k * (n + 1))) later in
    let order : (n + 1) + k * (n + 1) + 1 ≡ (n + 1) + (k * (n + 1) + 1) = omega arith in
    let words : drop ((n + 1) + k * (n + 1) + 1) (flat (r ∷ rs)) ≡ drop (k * (n + 1) + 1) (flat rs) =
    ap (λ (p : ℕ). drop p (flat (r ∷ rs))) order ∙ sym (drop-drop (k * (n + 1) + 1) (n + 1) (flat (r ∷ rs)))
    ∙ ap (drop (k * (n + 1) + 1)) later in
    let whole : row_at (row_list n (r ∷ rs)) (suc k) ≡ record {
      number = slice_index (flat (r ∷ rs)) ((n + 1) + k * (n + 1));
      words = take n (drop ((n + 1) + k * (n + 1) + 1) (flat (r ∷ rs)));
    } = ap (λ (p : ℕ). record { number = slice_index (flat (r ∷ rs)) p; words = take n (drop (p + 1) (flat (r ∷ rs))) }) place in
    row_at-flat n rs k d all.1 (omega arith)
    ∙ sym (whole ∙ ap (λ (x : ℕ). record { number = x; words = take n (drop ((n + 1) + k * (n + 1) + 1) (flat (r ∷ rs))) }) number
    ∙ ap (λ (x : List ℕ). record { number = slice_index (flat rs) (k * (n + 1)); words = take n x }) words)

pub rows_in_list : (n : ℕ) (rs : List Row) → HaveLength n rs → rows_in (row_list n rs) ≡ rs
rows_in_list n rs all =
    let count : row_count (row_list n rs) ≡ length rs = row_count-flat n rs all in
    sym (fill_by_all (row_at (row_list n rs)) rs (row_count (row_list n rs)) (record { number = 0; words = [] }) (sym count)
    (λ k lt. row_at-flat n rs k (record { number = 0; words = [] }) all (omega arith)))

-- ---- the rows of another matrix

rows_have_length : (m : WordMatrix) (is : List ℕ) → HaveLength m.cols (rows_of m is)
rows_have_length m [] = tt
rows_have_length m (i ∷ is) = (length-row m i, rows_have_length m is)

numbers_of_rows : (m : WordMatrix) (is : List ℕ) → map (λ r. r.number) (rows_of m is) ≡ is
numbers_of_rows m [] = refl
numbers_of_rows m (i ∷ is) = ap (λ (x : List ℕ). i ∷ x) (numbers_of_rows m is)

-- the rows that a Delta of some rows of a matrix has
pub rows_sent : (m : WordMatrix) (is : List ℕ) → rows_in (row_list m.cols (rows_of m is)) ≡ rows_of m is
rows_sent m is = rows_in_list m.cols (rows_of m is) (rows_have_length m is)

pub numbers_sent : (m : WordMatrix) (is : List ℕ) → row_numbers (row_list m.cols (rows_of m is)) ≡ is
numbers_sent m is = ap (λ (x : List Row). map (λ r. r.number) x) (rows_sent m is) ∙ numbers_of_rows m is

pub with_rows-whole : (m : WordMatrix) (rs : List Row) → IsWhole m → IsWhole (with_rows_replaced m rs)
unfolding with_rows_replaced
with_rows-whole m [] whole = whole
with_rows-whole m (r ∷ rs) whole = with_rows-whole (with_row m r.number r.words) rs (length-list_of (m.rows * m.cols) _)

-- a number that is one of some is the first of them, or one of the others
first_or_other : (i x : ℕ) (is : List ℕ) → Contains (i ∷ is) x → (x ≡ i) ⊎ Contains is x
first_or_other i x is (zero, lt, e) = inl (sym e)
first_or_other i x is (suc k, lt, e) = inr (k, omega arith, e)

named_entry : (new m : WordMatrix) (is : List ℕ) (i j : ℕ) → m.rows ≡ new.rows → m.cols ≡ new.cols → i < m.rows → j < m.cols →
    Contains is i ⊎ (entry m i j ≡ entry new i j) → entry (with_rows_replaced m (rows_of new is)) i j ≡ entry new i j
unfolding with_rows_replaced
named_entry new m [] i j r c p q (inl (k, lt, e)) = absurd (omega arith)
named_entry new m [] i j r c p q (inr e) = e
named_entry new m (x ∷ is) i j r c p q h =
    named_entry new (with_row m x (row new x)) is i j r c p q (elim (cases_eq i x) [
      | inl e ↦ inr (rw e (with_row-same m x j (row new x) (omega (arith, e)) q ∙ row_index new x j (omega arith)))
      | inr other ↦ kept other h
    ])
  where
    kept : (i ≡ x → ⊥) → Contains (x ∷ is) i ⊎ (entry m i j ≡ entry new i j) →
        Contains is i ⊎ (entry (with_row m x (row new x)) i j ≡ entry new i j)
    kept other (inl has) = elim (first_or_other x i is has) [
      | inl e ↦ absurd (other e)
      | inr more ↦ inl more
    ]
    kept other (inr e) = inr (with_row-other m x i j (row new x) p other q ∙ e)

pub named_rows_make_it : (old new : WordMatrix) (is : List ℕ) → IsWhole old → IsWhole new → old.rows ≡ new.rows → old.cols ≡ new.cols →
    ((i : ℕ) → i < new.rows → Contains is i ⊎ (row old i ≡ row new i)) → with_rows_replaced old (rows_of new is) ≡ new
named_rows_make_it old new is whole other r c same =
    matrix_by_entries (with_rows_replaced old (rows_of new is)) new.rows new.cols (entry new) (with_rows-rows old (rows_of new is) ∙ r)
    (with_rows-cols old (rows_of new is) ∙ c)
    (with_rows-whole old (rows_of new is) whole) (λ i j p q. named_entry new old is i j r c (omega arith) (omega arith) (at i j p q (same i p)))
    ∙ sym (matrix_by_entries new new.rows new.cols (entry new) refl refl other (λ i j p q. refl))
  where
    at : (i j : ℕ) → i < new.rows → j < new.cols → Contains is i ⊎ (row old i ≡ row new i) → Contains is i ⊎ (entry old i j ≡ entry new i j)
    at i j p q (inl has) = inl has
    at i j p q (inr e) = inr (sym (row_index old i j (omega arith)) ∙ ap (λ (x : List ℕ). slice_index x j) e ∙ row_index new i j q)
