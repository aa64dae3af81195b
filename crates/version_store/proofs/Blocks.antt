-- Records that are written after others: some groups in all columns, then the next ones.
use Rattle.std.proofs.Common.{◌≡◌, ◌≢◌, ◌∙◌, ℕ, ◌+◌, ◌-◌, ◌*◌, ◌/◌, ◌%◌, ◌<◌, ◌≤◌, List, [], ◌++◌, length, take, drop, refl, if◌then◌else◌, nat_lt, ap, sym, arith, inl, inr, mul_comm}
use Rattle.std.proofs.lemmas.Bool.{cases_lt}
use Rattle.std.proofs.lemmas.Bool.Decides.{nat_tests}
use Rattle.std.proofs.lemmas.List.{get_or_append_left, get_or-append_right, get_or_past, length-append, take-take, drop-take, drop-drop}
use Rattle.std.proofs.lemmas.Nat.{le-div, div-mul-add, mod-mul-add}
use Rattle.std.proofs.Math.Nat.{div-add-mod, div-mul-le_self, mod-lt, mul-le-mul_right}
use Rattle.matrix_u32.specs.Matrix.{WordMatrix}
use Rattle.matrix_u32.specs.Sum.{list_of}
use Rattle.matrix_u32.proofs.Products.{at-list_of_any, length-list_of, same-list_of}
use Rattle.digit_pack.specs.Columns.{WritesColumn}
use Rattle.digit_pack.specs.Layout.{Shape, IsLayout, digit_cols, digit_matrix, first_row, column_of, record_at, record_digits, records_in}
use Rattle.digit_pack.proofs.RecordLemmas.{shape_of_layout, record_written}
use Rattle.digit_pack.proofs.Turns.{taken, left, same_digits, column_inside}
use Rattle.snapshot_file.proofs.Pieces.{add_times}
use Rattle.version_store.specs.KeptRecords.{counted, records_of_groups, records_over}

-- a layout with fewer records
pub fewer_records : (l : Shape) (k : ℕ) → IsLayout l → 1 ≤ k → k ≤ l.count → IsLayout (counted l k)
fewer_records l k h some few = record {
  side = h.side;
  width = h.width;
  noise = h.noise;
  record_len = h.record_len;
  groups = h.groups;
  count = (some, omega (arith, h.count.1, columns));
}
  where
    columns : (k + l.groups - 1) / l.groups ≤ digit_cols l
    columns = le-div ((k + l.groups - 1) / l.groups) (l.count + l.groups - 1) l.groups h.groups.0
        (omega (arith, div-mul-le_self (k + l.groups - 1) l.groups, few))

-- how many columns so many records have, by the groups' number
pub columns_are : (k g h : ℕ) → g ≡ h → (k + g - 1) / g ≡ (k + h - 1) / h
columns_are k g h e = ap (λ x. (k + x - 1) / x) e

-- the bytes of m records from record b on end among those of all
pub run_end : (b m k r len total : ℕ) → b + m ≤ k → r ≡ len → total ≡ k * len → b * r + m * r ≤ total
run_end b m k r len total fits same is =
    omega (arith, mul-le-mul_right r fits, add_times b m r, ap (λ x. k * x) same, is)

-- a record among them is the one that is there
pub record_of_run : (l : Shape) (k m b i r : ℕ) (bytes : List ℕ) → r ≡ l.record_len → b + m ≤ k → i < m →
    record_at (records_in (counted l m) (take (b * r + m * r - b * r) (drop (b * r) bytes))) i ≡ record_at (records_in (counted l k) bytes) (b + i)
record_of_run l k m b i r bytes same fits lt =
    let s : ℕ = l.record_len in
    let run : List ℕ = take (b * r + m * r - b * r) (drop (b * r) bytes) in
    let as_run : run ≡ take (m * s) (drop (b * s) bytes) =
    ap (λ x. take (b * x + m * x - b * x) (drop (b * x) bytes)) same ∙ ap (λ n. take n (drop (b * s) bytes)) (omega arith) in
    let apart : m ≡ i + (m - i) = omega (arith, lt) in
    let split : m * s ≡ i * s + (m - i) * s = ap (λ x. x * s) apart ∙ add_times i (m - i) s in
    let one : 1 ≤ m - i = omega (arith, lt) in
    let room : s ≤ (m - i) * s = omega (arith, mul-le-mul_right s one) in
    at-list_of_any m (λ j. take s (drop (j * s) run)) i [] lt
    ∙ ap (λ (x : List ℕ). take s (drop (i * s) x)) (as_run ∙ ap (λ n. take n (drop (b * s) bytes)) split)
    ∙ ap (take s) (drop-take (i * s) ((m - i) * s) (drop (b * s) bytes))
    ∙ take-take s ((m - i) * s) (drop (i * s) (drop (b * s) bytes)) room
    ∙ ap (take s) (drop-drop (i * s) (b * s) bytes)
    ∙ ap (λ n. take s (drop n bytes)) (sym (add_times b i s))
    ∙ sym (at-list_of_any k (λ j. take s (drop (j * s) bytes)) (b + i) [] (omega (arith, fits, lt)))

-- ---- records of which some were written over others

-- a place, by its group and its column
pub row_of_place : (l : Shape) (i group col : ℕ) → group < l.groups → col * l.groups + group ≡ i → group ≡ i % l.groups
row_of_place l i group col low is = sym (ap (λ x. x % l.groups) (sym is) ∙ mod-mul-add col l.groups group low)

pub col_of_place : (l : Shape) (i group col : ℕ) → group < l.groups → col * l.groups + group ≡ i → col ≡ i / l.groups
col_of_place l i group col low is = sym (ap (λ x. x / l.groups) (sym is) ∙ div-mul-add col l.groups group low)

-- a place is that of its column and group
pub whole_place : (i g x : ℕ) → x ≡ g → i / x * g + i % x ≡ i + 0
whole_place i g x same = ap (λ y. i / y * g + i % y) same ∙ omega (arith, div-add-mod i g, mul_comm g (i / g))

module _ (l : Shape) (xs : List (List ℕ)) (m : ℕ) (ys : List (List ℕ)) where
  abbrev over : ℕ → List (List ℕ)
  over k = records_over l xs m k ys

  abbrev chosen_over : ℕ → ℕ → List ℕ
  chosen_over k q = if nat_lt q m then record_at xs q else (if nat_lt q (m + k) then record_at ys (q - m) else record_at xs q)

  at : (k q : ℕ) → q < l.count → record_at (over k) q ≡ chosen_over k q
  at k q inside = at-list_of_any l.count (chosen_over k) q [] inside

  pub over_past : (k q : ℕ) → l.count ≤ q → record_at (over k) q ≡ []
  over_past k q past = get_or_past (over k) q [] (omega (arith, past, length-list_of l.count (chosen_over k)))

  pub over_below : (k q : ℕ) → q < l.count → q < m → record_at (over k) q ≡ record_at xs q
  over_below k q inside low =
      at k q inside ∙ taken q m (record_at xs q) (if nat_lt q (m + k) then record_at ys (q - m) else record_at xs q) low

  pub over_in : (k q : ℕ) → q < l.count → m ≤ q → q < m + k → record_at (over k) q ≡ record_at ys (q - m)
  over_in k q inside from below =
      at k q inside
      ∙ left q m (record_at xs q) (if nat_lt q (m + k) then record_at ys (q - m) else record_at xs q) from
      ∙ taken q (m + k) (record_at ys (q - m)) (record_at xs q) below

  pub over_above : (k q : ℕ) → q < l.count → m + k ≤ q → record_at (over k) q ≡ record_at xs q
  over_above k q inside above =
      at k q inside
      ∙ left q m (record_at xs q) (if nat_lt q (m + k) then record_at ys (q - m) else record_at xs q) (omega (arith, above))
      ∙ left q (m + k) (record_at ys (q - m)) (record_at xs q) above

  -- none is written at first
  pub over_none : length xs ≤ l.count → digit_matrix l xs ≡ digit_matrix l (over 0)
  over_none few = same_digits l xs (over 0) (λ q. elim (cases_lt q l.count) [
    | inl inside ↦ elim (cases_lt q m) [
      | inl low ↦ sym (over_below 0 q inside low)
      | inr high ↦ sym (over_above 0 q inside (omega (arith, high)))
    ]
    | inr past ↦ get_or_past xs q [] (omega (arith, past, few)) ∙ sym (over_past 0 q past)
  ])

  others : (k q : ℕ) → q ≢ m + k → record_at (over (k + 1)) q ≡ record_at (over k) q
  others k q apart = elim (cases_lt q l.count) [
    | inl inside ↦ elim (cases_lt q m) [
      | inl low ↦ over_below (k + 1) q inside low ∙ sym (over_below k q inside low)
      | inr high ↦ elim (cases_lt q (m + k)) [
        | inl mid ↦ over_in (k + 1) q inside high (omega (arith, mid)) ∙ sym (over_in k q inside high mid)
        | inr above ↦ elim (cases_lt q (m + k + 1)) [
          | inl same ↦ absurd (apart (omega (arith, same, above)))
          | inr after ↦ over_above (k + 1) q inside (omega (arith, after)) ∙ sym (over_above k q inside above)
        ]
      ]
    ]
    | inr past ↦ over_past (k + 1) q past ∙ sym (over_past k q past)
  ]

  -- one record more is written
  pub over_more : (k : ℕ) (new : WordMatrix) → IsLayout l → m + k < l.count →
      WritesColumn (digit_matrix l (over k)) new (first_row l (m + k)) (column_of l (m + k)) (record_digits l (record_at ys k)) →
      new ≡ digit_matrix l (over (k + 1))
  over_more k new layout inside w =
      let place : m + k - m ≡ k = omega arith in
      record_written l (over k) (over (k + 1)) (m + k) (record_at ys k) new (shape_of_layout l layout) inside
      (over_in (k + 1) (m + k) inside (omega arith) (omega arith) ∙ ap (record_at ys) place)
      (others k)
      w

-- ---- blocks of groups

-- whether place p of column j has its record: those of places before f have, and those before t in
-- the first n columns
abbrev chosen : ℕ → ℕ → ℕ → ℕ → ℕ → List ℕ → List ℕ → List ℕ
chosen p f t j n v d = if nat_lt p f then v else (if nat_lt p t then (if nat_lt j n then v else d) else d)

begun : (p f t j : ℕ) (v d : List ℕ) → (if nat_lt p f then v else d) ≡ chosen p f t j 0 v d
begun p f t j v d = grind (arith, nat_tests)

ended : (p f t j n : ℕ) (v d : List ℕ) → f ≤ t → j < n → chosen p f t j n v d ≡ (if nat_lt p t then v else d)
ended p f t j n v d le lt = grind (arith, nat_tests)

above_block : (p f t j n : ℕ) (v d : List ℕ) → p < f → chosen p f t j n v d ≡ v
above_block p f t j n v d lt = grind (arith, nat_tests)

below_block : (p f t j n : ℕ) (v d : List ℕ) → f ≤ t → t ≤ p → chosen p f t j n v d ≡ d
below_block p f t j n v d le past = grind (arith, nat_tests)

in_block : (p f t j n : ℕ) (v d : List ℕ) → p < t → j < n → chosen p f t j n v d ≡ v
in_block p f t j n v d lt col = grind (arith, nat_tests)

column_before : (p f t j n : ℕ) (v d : List ℕ) → j < n → chosen p f t j n v d ≡ chosen p f t j (n + 1) v d
column_before p f t j n v d lt = grind (arith, nat_tests)

column_after : (p f t j n : ℕ) (v d : List ℕ) → n < j → chosen p f t j n v d ≡ chosen p f t j (n + 1) v d
column_after p f t j n v d lt = grind (arith, nat_tests)

-- the records of the groups before `from`, and in the first n columns those up to `to`; the others
-- are blank
abbrev pub in_columns : Shape → List (List ℕ) → ℕ → ℕ → ℕ → List (List ℕ)
in_columns l ys from to n = list_of l.count (λ q. chosen (q % l.groups) from to (q / l.groups) n (record_at ys q) [])

module _ (l : Shape) (k : ℕ) (xs ys : List (List ℕ)) (layout : IsLayout l) (few : length xs + k ≤ l.count) (from to : ℕ) (le : from ≤ to)
    (inside : to ≤ l.groups) where
  abbrev block : ℕ → List (List ℕ)
  block n = in_columns (counted l k) ys from to n

  abbrev chosen_in : ℕ → ℕ → List ℕ
  chosen_in n q = chosen (q % l.groups) from to (q / l.groups) n (record_at ys q) []

  there : (n q : ℕ) → q < k → record_at (block n) q ≡ chosen_in n q
  there n q lt = at-list_of_any k (chosen_in n) q [] lt

  beyond : (n q : ℕ) → k ≤ q → record_at (block n) q ≡ []
  beyond n q past = get_or_past (block n) q [] (omega (arith, past, length-list_of k (chosen_in n)))

  first : (n q : ℕ) → q < length xs → record_at (xs ++ block n) q ≡ record_at xs q
  first n q lt = get_or_append_left xs (block n) [] q lt

  second : (n q : ℕ) → length xs ≤ q → record_at (xs ++ block n) q ≡ record_at (block n) (q - length xs)
  second n q ge = get_or-append_right xs (block n) (length xs) q [] refl ge

  pub long_block : (n : ℕ) → length (xs ++ block n) ≤ l.count
  long_block n = omega (arith, few, length-append xs (block n), length-list_of k (chosen_in n))

  pub block_begun : digit_matrix l (xs ++ records_of_groups (counted l k) ys from) ≡ digit_matrix l (xs ++ block 0)
  block_begun =
      ap (λ zs. digit_matrix l (xs ++ zs)) (same-list_of k (λ q. if nat_lt (q % l.groups) from then record_at ys q else []) (chosen_in 0)
      (λ q _. begun (q % l.groups) from to (q / l.groups) (record_at ys q) []))

  pub block_ended : (n : ℕ) → digit_cols (counted l k) ≤ n → digit_matrix l (xs ++ block n) ≡ digit_matrix l (xs ++ records_of_groups (counted l k) ys to)
  block_ended n all =
      ap (λ zs. digit_matrix l (xs ++ zs)) (same-list_of k (chosen_in n) (λ q. if nat_lt (q % l.groups) to then record_at ys q else [])
      (λ q lt. ended (q % l.groups) from to (q / l.groups) n (record_at ys q) [] le
      (omega (arith, all, column_inside (counted l k) q (fewer_records l k layout (omega (arith, lt)) (omega (arith, few))) lt))))

  -- what is before column n of the block, or above it
  unchanged_before : (n p : ℕ) → p < n * l.groups + from → record_at (block n) p ≡ record_at (block (n + 1)) p
  unchanged_before n p lt = elim (cases_lt p k) [
    | inl is ↦
        there n p is
        ∙ elim (cases_lt (p / l.groups) n) [
          | inl col ↦ column_before (p % l.groups) from to (p / l.groups) n (record_at ys p) [] col
          | inr col ↦
              let whole = div-add-mod p l.groups in
              let turned = mul_comm l.groups (p / l.groups) in
              let low : n * l.groups ≤ p / l.groups * l.groups = mul-le-mul_right l.groups col in
              let row : p % l.groups < from = omega (arith, whole, turned, low, lt) in
              above_block (p % l.groups) from to (p / l.groups) n (record_at ys p) [] row
              ∙ sym (above_block (p % l.groups) from to (p / l.groups) (n + 1) (record_at ys p) [] row)
        ]
        ∙ sym (there (n + 1) p is)
    | inr out ↦ beyond n p out ∙ sym (beyond (n + 1) p out)
  ]

  -- what is after it, or below it
  unchanged_after : (n p : ℕ) → (p < k → n * l.groups + to ≤ p) → record_at (block n) p ≡ record_at (block (n + 1)) p
  unchanged_after n p after = elim (cases_lt p k) [
    | inl is ↦
        there n p is
        ∙ elim (cases_lt n (p / l.groups)) [
          | inl col ↦ column_after (p % l.groups) from to (p / l.groups) n (record_at ys p) [] col
          | inr col ↦
              let whole = div-add-mod p l.groups in
              let turned = mul_comm l.groups (p / l.groups) in
              let high : p / l.groups * l.groups ≤ n * l.groups = mul-le-mul_right l.groups col in
              let row : to ≤ p % l.groups = omega (arith, whole, turned, high, after is) in
              below_block (p % l.groups) from to (p / l.groups) n (record_at ys p) [] le row
              ∙ sym (below_block (p % l.groups) from to (p / l.groups) (n + 1) (record_at ys p) [] le row)
        ]
        ∙ sym (there (n + 1) p is)
    | inr out ↦ beyond n p out ∙ sym (beyond (n + 1) p out)
  ]

  -- a record of column n of the block
  record_of_column : (n i : ℕ) → n * l.groups + from + i < k → from + i < to →
      record_at (block (n + 1)) (n * l.groups + from + i) ≡ record_at ys (n * l.groups + from + i)
  record_of_column n i is low =
      let p : ℕ = n * l.groups + from + i in
      let place : p ≡ n * l.groups + (from + i) = omega arith in
      let row : p % l.groups ≡ from + i = ap (λ x. x % l.groups) place ∙ mod-mul-add n l.groups (from + i) (omega (arith, low, inside)) in
      let col : p / l.groups ≡ n = ap (λ x. x / l.groups) place ∙ div-mul-add n l.groups (from + i) (omega (arith, low, inside)) in
      there (n + 1) p is ∙ in_block (p % l.groups) from to (p / l.groups) (n + 1) (record_at ys p) [] (omega (arith, row, low)) (omega (arith, col))

  -- the records of column n are written over what was blank
  pub block_more : (n e : ℕ) (zs : List (List ℕ)) → ((q : ℕ) → n * l.groups + from + e ≤ q → q < k → n * l.groups + to ≤ q) →
      ((i : ℕ) → i < e → (n * l.groups + from + i < k) × (from + i < to) × (record_at zs i ≡ record_at ys (n * l.groups + from + i))) →
      digit_matrix l (records_over l (xs ++ block n) (length xs + (n * l.groups + from)) e zs) ≡ digit_matrix l (xs ++ block (n + 1))
  block_more n e zs ends run = same_digits l (records_over l (xs ++ block n) m e zs) (xs ++ block (n + 1)) (λ q. elim (cases_lt q l.count) [
    | inl is ↦ elim (cases_lt q m) [
      | inl low ↦ over_below l (xs ++ block n) m zs e q is low ∙ before q low
      | inr high ↦ elim (cases_lt q (m + e)) [
        | inl mid ↦ over_in l (xs ++ block n) m zs e q is high mid ∙ within q high mid
        | inr past ↦ over_above l (xs ++ block n) m zs e q is past ∙ after q past
      ]
    ]
    | inr past ↦
        over_past l (xs ++ block n) m zs e q past
        ∙ sym (second (n + 1) q (omega (arith, past, few)) ∙ beyond (n + 1) (q - length xs) (omega (arith, past, few)))
  ])
    where
      m : ℕ
      m = length xs + (n * l.groups + from)

      before : (q : ℕ) → q < m → record_at (xs ++ block n) q ≡ record_at (xs ++ block (n + 1)) q
      before q low = elim (cases_lt q (length xs)) [
        | inl lt ↦ first n q lt ∙ sym (first (n + 1) q lt)
        | inr ge ↦ second n q ge ∙ unchanged_before n (q - length xs) (omega (arith, low, ge)) ∙ sym (second (n + 1) q ge)
      ]

      after : (q : ℕ) → m + e ≤ q → record_at (xs ++ block n) q ≡ record_at (xs ++ block (n + 1)) q
      after q past =
          let ge : length xs ≤ q = omega (arith, past) in
          second n q ge
          ∙ unchanged_after n (q - length xs) (λ lt. ends (q - length xs) (omega (arith, past)) lt)
          ∙ sym (second (n + 1) q ge)

      within : (q : ℕ) → m ≤ q → q < m + e → record_at zs (q - m) ≡ record_at (xs ++ block (n + 1)) q
      within q high mid =
          let i : ℕ = q - m in
          let its = run i (omega (arith, high, mid)) in
          let place : q - length xs ≡ n * l.groups + from + i = omega (arith, high) in
          its.2
          ∙ sym (second (n + 1) q (omega (arith, high)) ∙ ap (record_at (block (n + 1))) place ∙ record_of_column n i its.0 its.1)

  -- a column in which the block has no record
  pub block_skipped : (n : ℕ) → ((q : ℕ) → n * l.groups + from + 0 ≤ q → q < k → n * l.groups + to ≤ q) →
      digit_matrix l (xs ++ block n) ≡ digit_matrix l (xs ++ block (n + 1))
  block_skipped n ends =
      over_none l (xs ++ block n) (length xs + (n * l.groups + from)) [] (long_block n)
      ∙ block_more n 0 [] ends (λ i lt. absurd (omega (arith, lt)))

-- no groups, and all of them
module _ (l : Shape) (k : ℕ) (xs ys : List (List ℕ)) (layout : IsLayout l) where
  abbrev groups : ℕ → List (List ℕ)
  groups g = records_of_groups (counted l k) ys g

  at_groups : (g q : ℕ) → q < k → record_at (groups g) q ≡ (if nat_lt (q % l.groups) g then record_at ys q else [])
  at_groups g q lt = at-list_of_any k (λ i. if nat_lt (i % l.groups) g then record_at ys i else []) q [] lt

  past_groups : (g q : ℕ) → k ≤ q → record_at (groups g) q ≡ []
  past_groups g q past =
      get_or_past (groups g) q [] (omega (arith, past, length-list_of k (λ i. if nat_lt (i % l.groups) g then record_at ys i else [])))

  behind : (zs : List (List ℕ)) (q : ℕ) → length xs ≤ q → record_at (xs ++ zs) q ≡ record_at zs (q - length xs)
  behind zs q ge = get_or-append_right xs zs (length xs) q [] refl ge

  pub no_groups : digit_matrix l xs ≡ digit_matrix l (xs ++ groups 0)
  no_groups = same_digits l xs (xs ++ groups 0) (λ q. elim (cases_lt q (length xs)) [
    | inl lt ↦ sym (get_or_append_left xs (groups 0) [] q lt)
    | inr ge ↦ get_or_past xs q [] ge ∙ sym (behind (groups 0) q ge ∙ blank (q - length xs))
  ])
    where
      blank : (p : ℕ) → record_at (groups 0) p ≡ []
      blank p = elim (cases_lt p k) [
        | inl lt ↦ at_groups 0 p lt ∙ left (p % l.groups) 0 (record_at ys p) [] (omega arith)
        | inr past ↦ past_groups 0 p past
      ]

  pub all_groups : (g : ℕ) → l.groups ≤ g → length ys ≡ k → digit_matrix l (xs ++ groups g) ≡ digit_matrix l (xs ++ ys)
  all_groups g all long = same_digits l (xs ++ groups g) (xs ++ ys) (λ q. elim (cases_lt q (length xs)) [
    | inl lt ↦ get_or_append_left xs (groups g) [] q lt ∙ sym (get_or_append_left xs ys [] q lt)
    | inr ge ↦ behind (groups g) q ge ∙ alike (q - length xs) ∙ sym (behind ys q ge)
  ])
    where
      alike : (p : ℕ) → record_at (groups g) p ≡ record_at ys p
      alike p = elim (cases_lt p k) [
        | inl lt ↦ at_groups g p lt ∙ taken (p % l.groups) g (record_at ys p) [] (omega (arith, all, mod-lt p layout.groups.0))
        | inr past ↦ past_groups g p past ∙ sym (get_or_past ys p [] (omega (arith, past, long)))
      ]
