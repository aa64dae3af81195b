-- Digit matrices into which one record's digits are written.
use Rattle.std.proofs.Common.{◌≡◌, ◌≢◌, ℕ, ◌+◌, ◌-◌, ◌*◌, ◌/◌, ◌%◌, ◌<◌, ◌≤◌, arith, ap, ◌∙◌, sym, refl, inl, inr, List, [], length, take, drop, lit<, ◌^◌, get_or, get_or-set_same, get_or-set_other}
use Rattle.std.proofs.lemmas.Bool.{cases_eq, cases_lt}
use Rattle.std.proofs.lemmas.List.{get_or-take, get_or_past, length-take, length-set}
use Rattle.std.proofs.lemmas.List.FromFn.{fill_by_all}
use Rattle.std.proofs.lemmas.Nat.{row_fits}
use Rattle.std.proofs.lemmas.Simd.{put_chunk_is, length-put_chunk, get_or-put_chunk_below, get_or-put_chunk_at, get_or-put_chunk_above}
use Rattle.std.specs.Simd.Lanes.{put_chunk}
use Rattle.std.proofs.Math.ListN.{set}
use borrow.Rule.Slice.PartMut.{put_mid}
use Rattle.matrix_u32.specs.Sum.{list_of}
use Rattle.std.proofs.lemmas.List.Elements.{All-from_get_or}
use Rattle.std.proofs.Math.Nat.{pow-le-pow_right}
use Rattle.std.specs.Prelude.{slice_index, All}
use Rattle.matrix_u32.specs.Matrix.{WordMatrix, entry, zero_matrix}
use Rattle.matrix_u32.proofs.Products.{at-list_of, at-list_of_any, length-list_of, entry-matrix_of, same-list_of, piece-list_of}
use Rattle.matrix_u32.proofs.Changes.{matrix_by_entries}
use Rattle.matrix_u32.proofs.Rows.{zero_matrix_is}
use Rattle.lane_kernels.specs.Digit.{digit}
use Rattle.digit_pack.specs.Digits.{number_of}
use Rattle.digit_pack.specs.Laws.{IsPlaceOf}
use Rattle.digit_pack.specs.Layout.{Shape, IsShape, IsLayout, digit_matrix, digit_at, digit_rows, digit_cols, digits_per_record, first_row, column_of, record_at, record_digits}
use Rattle.digit_pack.proofs.Changes.{place_of, record_of_place, digit_of_place, some_digits, unused_slot}
use Rattle.digit_pack.proofs.DigitSums.{digit-lt}
use Rattle.digit_pack.specs.Columns.{WritesColumn}
use Rattle.digit_pack.specs.Layout.{records_in}

pub shape_of_layout : (l : Shape) → IsLayout l → IsShape l
shape_of_layout l h = record { width = omega arith; record_len = omega arith; groups = omega arith; small = omega arith }

pub length-record_digits : (l : Shape) (bytes : List ℕ) → length (record_digits l bytes) ≡ digits_per_record l
length-record_digits l bytes = length-list_of (digits_per_record l) (λ t. digit l.width (number_of 8 bytes) t)

-- the digit matrix of xs, with the digits of record i written in their place, is that of ys, if ys
-- has that record and otherwise those of xs
pub record_written : (l : Shape) (xs ys : List (List ℕ)) (i : ℕ) (bytes : List ℕ) (new : WordMatrix) → IsShape l → i < l.count →
    record_at ys i ≡ bytes → ((k : ℕ) → k ≢ i → record_at ys k ≡ record_at xs k) →
    WritesColumn (digit_matrix l xs) new (first_row l i) (column_of l i) (record_digits l bytes) → new ≡ digit_matrix l ys
record_written l xs ys i bytes new s p here others w =
    let n : ℕ = digits_per_record l in
    let some : 0 < n = some_digits l s in
    matrix_by_entries new (digit_rows l) (digit_cols l) (digit_at l ys) w.rows w.cols w.whole (λ r j h k.
    let q : ℕ = j * l.groups + r / n in
    elim (cases_eq q i) [
      | inl same ↦
          let place : IsPlaceOf l i r j = place_of l i r j some h same in
          let d : ℕ = r - first_row l i in
          let low : d < n = omega (arith, place.1, place.2) in
          let row : r ≡ first_row l i + d = omega (arith, place.1) in
          ap (λ x. entry new x j) row ∙ ap (λ x. entry new (first_row l i + d) x) place.0
          ∙ w.here d (omega (arith, low, length-record_digits l bytes))
          ∙ at-list_of n (λ t. digit l.width (number_of 8 bytes) t) d low
          ∙ ap (λ b. digit l.width (number_of 8 b) d) (sym here)
          ∙ ap (λ x. digit l.width (number_of 8 (record_at ys x)) d) (sym same)
          ∙ ap (λ t. digit l.width (number_of 8 (record_at ys q)) t) (sym (ap (λ x. x % n) row ∙ digit_of_place l i d low))
      | inr apart ↦
          w.elsewhere r j h k (λ inside. apart (record_of_place l i r j some s.groups
          (inside.0, inside.1, omega (arith, inside.2, length-record_digits l bytes))))
          ∙ entry-matrix_of (digit_rows l) (digit_cols l) (digit_at l xs) r j h k
          ∙ ap (λ b. digit l.width (number_of 8 b) (r % n)) (sym (others q apart))
    ])

-- no records yet
pub no_records : (l : Shape) → zero_matrix (digit_rows l) (digit_cols l) ≡ digit_matrix l []
no_records l =
    sym (zero_matrix_is (digit_matrix l []) (digit_rows l) (digit_cols l) refl refl (length-list_of (digit_rows l * digit_cols l) _)
    (λ r j p q. unused_slot l [] r j p q (omega arith)))

-- the first n + 1 records are the first n and record n
pub next_record : (xs : List (List ℕ)) (n : ℕ) → record_at (take (n + 1) xs) n ≡ record_at xs n
next_record xs n = get_or-take (n + 1) xs n [] (omega arith)

pub other_records : (xs : List (List ℕ)) (n k : ℕ) → k ≢ n → record_at (take (n + 1) xs) k ≡ record_at (take n xs) k
other_records xs n k apart = elim (cases_lt k n) [
  | inl below ↦ get_or-take (n + 1) xs k [] (omega arith) ∙ sym (get_or-take n xs k [] below)
  | inr above ↦
      get_or_past (take (n + 1) xs) k [] (omega (arith, length-take (n + 1) xs)) ∙ sym (get_or_past (take n xs) k [] (omega (arith, length-take n xs)))
]

-- the bytes of record i
pub record_in : (l : Shape) (bytes : List ℕ) (i len : ℕ) → len ≡ l.record_len → i < l.count →
    take (i * len + len - i * len) (drop (i * len) bytes) ≡ record_at (records_in l bytes) i
record_in l bytes i len e h =
    let cut : i * len + len - i * len ≡ len = omega arith in
    ap (λ n. take n (drop (i * len) bytes)) cut
    ∙ ap (λ n. take n (drop (i * n) bytes)) e
    ∙ sym (at-list_of_any l.count (λ i. take l.record_len (drop (i * l.record_len) bytes)) i [] h)

-- a record's digits fit every store
pub small_digits : (l : Shape) (bytes : List ℕ) → IsLayout l → All (λ d. d < 1024) (record_digits l bytes)
small_digits l bytes h =
    All-from_get_or (λ d. d < 1024) (record_digits l bytes) 0 (λ k p.
    let inside : k < digits_per_record l = omega (arith, p, length-record_digits l bytes) in
    let is : slice_index (record_digits l bytes) k ≡ digit l.width (number_of 8 bytes) k =
    at-list_of (digits_per_record l) (λ t. digit l.width (number_of 8 bytes) t) k inside in
    let ten : l.width ≤ 10 = omega arith in
    let fits : 2 ^ l.width ≤ 2 ^ 10 = pow-le-pow_right (lit< tt) ten in
    omega (arith, is, digit-lt l.width (number_of 8 bytes) k, fits))

-- a list of f 0, f 1, .. with another element in place i
pub set-list_of : {X : Type 0} (n i : ℕ) (f g : ℕ → X) (v d : X) → i < n → g i ≡ v → ((k : ℕ) → k < n → k ≢ i → g k ≡ f k) → list_of n g ≡ set (list_of n f) i v
set-list_of n i f g v d h e others =
    sym (fill_by_all g (set (list_of n f) i v) n d (length-set (list_of n f) i v ∙ length-list_of n f) (λ k l. elim (cases_eq k i) [
      | inl same ↦ ap (λ k. get_or (set (list_of n f) i v) k d) same ∙ get_or-set_same (list_of n f) i v d (omega (arith, h, length-list_of n f)) ∙ sym e
          ∙ ap g (sym same)
      | inr apart ↦ get_or-set_other (list_of n f) i k v d apart ∙ at-list_of_any n f k d l ∙ sym (others k l apart)
    ]))

-- a part of a list of bytes
part_is : (bytes : List ℕ) (a n : ℕ) → a + n ≤ length bytes → take n (drop a bytes) ≡ list_of n (λ j. slice_index bytes (a + j))
part_is bytes a n room =
    let cut : a + n - a ≡ n = omega arith in
    ap (λ m. take m (drop a bytes)) (sym cut) ∙ piece-list_of bytes a n room

-- a record that is written over changes no other
pub written_record : (l : Shape) (bytes ys : List ℕ) (i len n : ℕ) → len ≡ l.record_len → n ≡ len → length bytes ≡ l.count * l.record_len → i < l.count →
    length ys ≡ len →
    records_in l (put_mid (i * len) n bytes ys) ≡ set (records_in l bytes) i ys
written_record l bytes ys i len n el en count inside long =
    let size : ℕ = l.record_len in
    let fits : i * size + size ≤ l.count * size = row_fits i size l.count size inside (omega arith) in
    let room : i * size + length ys ≤ length bytes = omega (arith, fits, count, long, el) in
    let new : List ℕ = put_chunk (i * size) bytes ys in
    let same : put_mid (i * len) n bytes ys ≡ new =
    ap (λ n. put_mid (i * len) n bytes ys) (en ∙ sym long) ∙ ap (λ m. put_mid (i * m) (length ys) bytes ys) el
    ∙ sym (put_chunk_is (i * size) bytes ys room) in
    let total : length new ≡ l.count * size = length-put_chunk (i * size) bytes ys ∙ count in
    ap (records_in l) same
    ∙ set-list_of l.count i (λ k. take size (drop (k * size) bytes)) (λ k. take size (drop (k * size) new)) ys [] inside
    (part_is new (i * size) size (omega (arith, fits, total))
    ∙ sym (fill_by_all (λ j. slice_index new (i * size + j)) ys size 0 (long ∙ el) (λ j h.
    sym (get_or-put_chunk_at (i * size) bytes ys j 0 (omega (arith, h, long, el)) room))))
    (λ k h apart.
    let there : k * size + size ≤ l.count * size = row_fits k size l.count size h (omega arith) in
    part_is new (k * size) size (omega (arith, there, total))
    ∙ same-list_of size (λ j. slice_index new (k * size + j)) (λ j. slice_index bytes (k * size + j)) (λ j p. elim (cases_lt k i) [
      | inl below ↦
          let before : k * size + size ≤ i * size = row_fits k size i size below (omega arith) in
          get_or-put_chunk_below (i * size) bytes ys (k * size + j) 0 (omega (arith, before, p))
      | inr above ↦
          let lt : i < k = omega (arith, apart) in
          let after : i * size + size ≤ k * size = row_fits i size k size lt (omega arith) in
          get_or-put_chunk_above (i * size) bytes ys (k * size + j) 0 (omega (arith, after, p, long, el))
    ])
    ∙ sym (part_is bytes (k * size) size (omega (arith, there, count))))

-- with one record's digits replaced, the digit matrix is that of the records with this one replaced
pub record_replaced : (l : Shape) (xs : List (List ℕ)) (i : ℕ) (bytes : List ℕ) (new : WordMatrix) → IsShape l → i < l.count → i < length xs →
    WritesColumn (digit_matrix l xs) new (first_row l i) (column_of l i) (record_digits l bytes) → new ≡ digit_matrix l (set xs i bytes)
record_replaced l xs i bytes new s p h w =
    record_written l xs (set xs i bytes) i bytes new s p (get_or-set_same xs i bytes [] h) (λ k apart. get_or-set_other xs i k bytes [] apart) w
