-- Records that are written group by group, and in each group by columns.
use Rattle.std.proofs.Common.{◌≡◌, ◌≢◌, ℕ, ◌+◌, ◌-◌, ◌*◌, ◌/◌, ◌%◌, ◌<◌, ◌≤◌, if◌then◌else◌, nat_lt, arith, ap, ◌∙◌, sym, inl, inr, List, [], length, mul_comm, mul-le-mul_right}
use Rattle.std.proofs.lemmas.Bool.{cases_lt}
use Rattle.std.proofs.lemmas.Bool.Decides.{nat_tests}
use Rattle.std.proofs.lemmas.List.{get_or_past}
use Rattle.std.proofs.lemmas.Nat.{div-mul-add, mod-mul-add, div_below, le-div}
use Rattle.std.proofs.Math.Nat.{mod-lt, div-add-mod}
use Rattle.matrix_u32.specs.Sum.{list_of}
use Rattle.matrix_u32.specs.Matrix.{zero_matrix}
use Rattle.matrix_u32.proofs.Products.{at-list_of_any, length-list_of}
use Rattle.matrix_u32.proofs.Changes.{same-matrix_of}
use Rattle.lane_kernels.specs.Digit.{digit}
use Rattle.digit_pack.specs.Digits.{number_of}
use Rattle.digit_pack.specs.Layout.{Shape, IsLayout, digit_matrix, digit_at, digit_rows, digit_cols, digits_per_record, record_at}
use Rattle.digit_pack.proofs.RecordLemmas.{no_records}
use Rattle.digit_pack.proofs.Limits.{few_groups, few_cols}

-- when record k is written
abbrev pub turn_of : Shape → ℕ → ℕ
turn_of l k = k % l.groups * digit_cols l + k / l.groups

-- the records that are written before turn n; the others are blank
abbrev pub records_before : Shape → List (List ℕ) → ℕ → List (List ℕ)
records_before l xs n = list_of l.count (λ k. if nat_lt (turn_of l k) n then record_at xs k else [])

-- before its turn is past a record is written, and after it the place is blank
pub taken : (k n : ℕ) (v d : List ℕ) → k < n → (if nat_lt k n then v else d) ≡ v
taken k n v d l = grind (arith, nat_tests)

pub left : (k n : ℕ) (v d : List ℕ) → n ≤ k → (if nat_lt k n then v else d) ≡ d
left k n v d l = grind (arith, nat_tests)

pub written_at : (l : Shape) (xs : List (List ℕ)) (n k : ℕ) → k < l.count → turn_of l k < n → record_at (records_before l xs n) k ≡ record_at xs k
written_at l xs n k inside before =
    at-list_of_any l.count (λ k. if nat_lt (turn_of l k) n then record_at xs k else []) k [] inside ∙ taken (turn_of l k) n (record_at xs k) [] before

pub past_blank : (l : Shape) (xs : List (List ℕ)) (n k : ℕ) → l.count ≤ k → record_at (records_before l xs n) k ≡ []
past_blank l xs n k past =
    get_or_past (records_before l xs n) k [] (omega (arith, length-list_of l.count (λ k. if nat_lt (turn_of l k) n then record_at xs k else [])))

pub blank_at : (l : Shape) (xs : List (List ℕ)) (n k : ℕ) → n ≤ turn_of l k → record_at (records_before l xs n) k ≡ []
blank_at l xs n k after = elim (cases_lt k l.count) [
  | inl inside ↦ at-list_of_any l.count (λ k. if nat_lt (turn_of l k) n then record_at xs k else []) k [] inside ∙ left (turn_of l k) n (record_at xs k) [] after
  | inr past ↦ past_blank l xs n k past
]

-- the same records give the same digits
pub same_digits : (l : Shape) (xs ys : List (List ℕ)) → ((k : ℕ) → record_at xs k ≡ record_at ys k) → digit_matrix l xs ≡ digit_matrix l ys
same_digits l xs ys each =
    same-matrix_of (digit_rows l) (digit_cols l) (digit_at l xs) (digit_at l ys) (λ r j p q.
    ap (λ b. digit l.width (number_of 8 b) (r % digits_per_record l)) (each (j * l.groups + r / digits_per_record l)))

-- none is written at first
pub none_before : (l : Shape) (xs : List (List ℕ)) → zero_matrix (digit_rows l) (digit_cols l) ≡ digit_matrix l (records_before l xs 0)
none_before l xs = no_records l ∙ same_digits l [] (records_before l xs 0) (λ k. sym (blank_at l xs 0 k (omega arith)))

-- there is a column
pub some_cols : (l : Shape) → IsLayout l → 0 < digit_cols l
some_cols l h = le-div 1 (l.count + l.groups - 1) l.groups (omega arith) (omega arith)

-- a record's column is one of them
pub column_inside : (l : Shape) (k : ℕ) → IsLayout l → k < l.count → k / l.groups < digit_cols l
column_inside l k h below =
    let n : ℕ = l.count + l.groups - 1 in
    let some : 0 < l.groups = omega arith in
    let low : n % l.groups < l.groups = mod-lt n some in
    let whole = div-add-mod n l.groups in
    let turned = mul_comm l.groups (n / l.groups) in
    div_below k l.groups (n / l.groups) some (omega (arith, low, whole, turned, below))

-- the record of a turn
pub turn_is : (l : Shape) (n : ℕ) → IsLayout l → n < l.groups * digit_cols l → turn_of l (n % digit_cols l * l.groups + n / digit_cols l) ≡ n
turn_is l n h inside =
    let c : ℕ = digit_cols l in
    let some : 0 < c = some_cols l h in
    let group : n / c < l.groups = div_below n c l.groups some inside in
    ap (λ k. k * c + (n % c * l.groups + n / c) / l.groups) (mod-mul-add (n % c) l.groups (n / c) group)
    ∙ ap (λ k. n / c * c + k) (div-mul-add (n % c) l.groups (n / c) group)
    ∙ ap (λ k. k + n % c) (mul_comm (n / c) c) ∙ div-add-mod n c

-- no other record has it
pub turn_of_one : (l : Shape) (n k : ℕ) → IsLayout l → k < l.count → turn_of l k ≡ n → k ≡ n % digit_cols l * l.groups + n / digit_cols l
turn_of_one l n k h below is =
    let c : ℕ = digit_cols l in
    let col : k / l.groups < c = column_inside l k h below in
    let group : n / c ≡ k % l.groups = ap (λ x. x / c) (sym is) ∙ div-mul-add (k % l.groups) c (k / l.groups) col in
    let place : n % c ≡ k / l.groups = ap (λ x. x % c) (sym is) ∙ mod-mul-add (k % l.groups) c (k / l.groups) col in
    sym (ap (λ x. x * l.groups + n / c) place ∙ ap (λ x. k / l.groups * l.groups + x) group
    ∙ ap (λ x. x + k % l.groups) (mul_comm (k / l.groups) l.groups) ∙ div-add-mod k l.groups)

-- every other record is as it was
pub others_as_before : (l : Shape) (xs : List (List ℕ)) (n k : ℕ) → IsLayout l → k ≢ n % digit_cols l * l.groups + n / digit_cols l →
    record_at (records_before l xs (n + 1)) k ≡ record_at (records_before l xs n) k
others_as_before l xs n k h apart = elim (cases_lt k l.count) [
  | inr past ↦ past_blank l xs (n + 1) k past ∙ sym (past_blank l xs n k past)
  | inl inside ↦ elim (cases_lt (turn_of l k) n) [
    | inl before ↦ written_at l xs (n + 1) k inside (omega arith) ∙ sym (written_at l xs n k inside before)
    | inr after ↦
        let other : turn_of l k ≢ n = λ e. apart (turn_of_one l n k h inside e) in
        blank_at l xs (n + 1) k (omega (arith, other)) ∙ sym (blank_at l xs n k after)
  ]
]

-- a turn without a record
pub no_record : (l : Shape) (xs : List (List ℕ)) (n : ℕ) → IsLayout l → l.count ≤ n % digit_cols l * l.groups + n / digit_cols l →
    digit_matrix l (records_before l xs n) ≡ digit_matrix l (records_before l xs (n + 1))
no_record l xs n h past = same_digits l (records_before l xs n) (records_before l xs (n + 1)) (λ k. elim (cases_lt k l.count) [
  | inl inside ↦ sym (others_as_before l xs n k h (λ e. absurd (omega (arith, e))))
  | inr out ↦ past_blank l xs n k out ∙ sym (past_blank l xs (n + 1) k out)
])

-- after the last turn all are written
pub all_before : (l : Shape) (xs : List (List ℕ)) (n : ℕ) → IsLayout l → length xs ≡ l.count → l.groups * digit_cols l ≤ n →
    digit_matrix l (records_before l xs n) ≡ digit_matrix l xs
all_before l xs n h count all = same_digits l (records_before l xs n) xs (λ k. elim (cases_lt k l.count) [
  | inl inside ↦
      let c : ℕ = digit_cols l in
      let some : 0 < l.groups = omega arith in
      let group : k % l.groups < l.groups = mod-lt k some in
      let col : k / l.groups < c = column_inside l k h inside in
      let last : (k % l.groups + 1) * c ≤ l.groups * c = mul-le-mul_right c (omega (arith, group)) in
      written_at l xs n k inside (omega (arith, last, col))
  | inr past ↦ past_blank l xs n k past ∙ sym (get_or_past xs k [] (omega (arith, count)))
])

few_products : (a b : ℕ) → a ≤ 32768 → b ≤ 32768 → a * b ≤ 1073741824
few_products a b p q = omega (arith, mul-le-mul_right b p)

-- how many turns there are
pub few_turns : (l : Shape) → IsLayout l → l.groups * digit_cols l ≤ 1073741824
few_turns l h = few_products l.groups (digit_cols l) (few_groups l h) (few_cols l h)

-- the number of a turn's record fits
pub few_places : (l : Shape) (n : ℕ) → IsLayout l → n < l.groups * digit_cols l → n % digit_cols l * l.groups + n / digit_cols l ≤ 1073774592
few_places l n h inside =
    let c : ℕ = digit_cols l in
    let cols : 0 < c = some_cols l h in
    let few : l.groups ≤ 32768 = few_groups l h in
    let low : n % c < c = mod-lt n cols in
    let group : n / c < l.groups = div_below n c l.groups cols inside in
    omega (arith, few, group, few_products (n % c) l.groups (omega (arith, low, few_cols l h)) few)
