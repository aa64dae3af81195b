-- Records that are read out of the digits that keep them, and put into them.
use Rattle.std.proofs.Common.{◌≡◌, ◌∙◌, ℕ, ◌+◌, ◌-◌, ◌*◌, ◌/◌, ◌%◌, ◌^◌, ◌<◌, ◌≤◌, List, [], ◌++◌, All, length, take, drop, slice_set, refl, sym, ap, subst, arith, inl, inr}
use Rattle.std.proofs.Math.Nat.{mul-le-mul_left, mul-div_cancel, div-mul-le_self}
use borrow.Rule.Slice.PartMut.{put_mid, post_of}
use Rattle.std.proofs.lemmas.Bool.{cases_lt}
use Rattle.std.proofs.lemmas.Nat.{row_fits, le-div}
use Rattle.std.proofs.lemmas.List.{length-append, length-take-le, length-drop, get_or_past}
use Rattle.std.proofs.lemmas.List.Elements.{All-append, All-take, All-drop}
use Rattle.matrix_u32.specs.Matrix.{WordMatrix, entry_or_zero, widened}
use Rattle.matrix_u32.specs.Sum.{sum_below}
use Rattle.matrix_u32.proofs.Products.{at-list_of_any, same-list_of, entry-matrix_of}
use Rattle.matrix_u32.proofs.Changes.{same-matrix_of}
use Rattle.lane_kernels.specs.Digit.{digit}
use Rattle.digit_pack.specs.Digits.{number_of}
use Rattle.digit_pack.specs.Columns.{WritesColumn}
use Rattle.digit_pack.specs.Held.{record_in_digits, HoldsRecord}
use Rattle.digit_pack.specs.Laws.{PacksAndUnpacks}
use Rattle.digit_pack.specs.Layout.{Shape, IsLayout, IsRecord, FitsRecord, digit_at, digit_matrix, digit_rows, digit_cols, digits_per_record, first_row, column_of, record_at, record_bytes, record_digits, records_in}
use Rattle.digit_pack.proofs.Changes.{zero_digit}
use Rattle.digit_pack.proofs.HeldRecords.{digits_back}
use Rattle.digit_pack.proofs.RecordLemmas.{shape_of_layout, record_replaced, written_record}
use Rattle.digit_pack.proofs.Records.{unpack-pack}
use Rattle.version_store.specs.KeptRecords.{IsKept, counted, bytes_in_digits}
use Rattle.version_store.specs.Openings.{bytes_of_records}
use Rattle.version_store.proofs.KeptBytes.{below_count}
use Rattle.version_store.proofs.RecordBytes.{joined_records}
use Rattle.version_store.proofs.Versions.{long_records}
use Rattle.version_store.proofs.Widened.{within, past}

-- ---- records that digits are made of

module _ (l : Shape) (n : ℕ) (bytes : List ℕ) (layout : IsLayout l) (few : n ≤ l.count) (long : length bytes ≡ n * l.record_len)
    (small : All (λ x. x < 2 ^ 8) bytes) where
  abbrev xs : List (List ℕ)
  xs = records_in (counted l n) bytes

  at : (i : ℕ) → i < n → record_at xs i ≡ take l.record_len (drop (i * l.record_len) bytes)
  at i lt = at-list_of_any n (λ k. take l.record_len (drop (k * l.record_len) bytes)) i [] lt

  each : (i : ℕ) → i < n → IsRecord l (record_at xs i)
  each i lt =
      let room : i * l.record_len + l.record_len ≤ n * l.record_len = row_fits i l.record_len n l.record_len lt (omega arith) in
      record {
        len = ap length (at i lt)
            ∙ length-take-le l.record_len (drop (i * l.record_len) bytes) (omega (arith, room, long, length-drop (i * l.record_len) bytes));
        each = subst (All (λ x. x < 2 ^ 8)) (sym (at i lt))
            (All-take (λ x. x < 2 ^ 8) l.record_len (drop (i * l.record_len) bytes) (All-drop (λ x. x < 2 ^ 8) (i * l.record_len) bytes small));
      }

  back : (i : ℕ) → i < n → record_in_digits l (digit_matrix l xs) i ≡ record_at xs i
  back i lt =
      ap (record_bytes l) (digits_back l xs i (shape_of_layout l layout) (omega (arith, lt, few)))
      ∙ (unpack-pack l (record_at xs i) (shape_of_layout l layout).width (each i lt)).same

  module _ (digits : WordMatrix) (made : digits ≡ digit_matrix l xs) where
    pub bytes_back : bytes_in_digits l n digits ≡ bytes
    bytes_back =
        ap bytes_of_records (same-list_of n (record_in_digits l digits) (λ i. take l.record_len (drop (i * l.record_len) bytes)) (λ i lt.
        ap (λ (m : WordMatrix). record_in_digits l m i) made ∙ back i lt ∙ at i lt))
        ∙ joined_records (counted l n) bytes long

    pub record_back : (i : ℕ) → i < n → record_in_digits l digits i ≡ take l.record_len (drop (i * l.record_len) bytes)
    record_back i lt = ap (λ (m : WordMatrix). record_in_digits l m i) made ∙ back i lt ∙ at i lt

    pub there : (i : ℕ) → i < n → HoldsRecord l digits i
    there i lt =
        let packed : PacksAndUnpacks l (record_at xs i) = unpack-pack l (record_at xs i) (shape_of_layout l layout).width (each i lt) in
        let own = sym (digits_back l xs i (shape_of_layout l layout) (omega (arith, lt, few))) in
        subst (λ (m : WordMatrix). HoldsRecord l m i) (sym made) (record {
          small = subst (All (λ d. d < 2 ^ l.width)) own packed.small;
          fits = subst (FitsRecord l) own packed.accepted;
        })

    pub is_kept : IsKept l n digits
    is_kept = record {
      layout = layout;
      few = few;
      small = subst (All (λ x. x < 2 ^ 8)) (sym bytes_back) small;
      len = ap length bytes_back ∙ long;
      digits_are = made ∙ ap (λ (b : List ℕ). digit_matrix l (records_in (counted l n) b)) (sym bytes_back);
    }

-- ---- a record is replaced

module _ (l : Shape) (bytes s : List ℕ) (i : ℕ) (layout : IsLayout l) (below : i < l.count) (long : length bytes ≡ l.count * l.record_len)
    (size : length s ≡ l.record_len) where
  abbrev pub with_record : List ℕ
  with_record = put_mid (i * l.record_len) l.record_len bytes s

  pub as_long : length with_record ≡ length bytes
  as_long =
      let r : ℕ = l.record_len in
      let fits : i * r + r ≤ l.count * r = row_fits i r l.count r below (omega arith) in
      length-append (take (i * r) bytes) (s ++ post_of (i * r) r bytes)
      ∙ omega (
        arith,
        length-append s (post_of (i * r) r bytes),
        size,
        length-take-le (i * r) bytes (omega (arith, fits, long)),
        length-drop r (drop (i * r) bytes),
        length-drop (i * r) bytes,
        fits,
        long,
      )

  pub records_with : records_in l with_record ≡ slice_set (records_in l bytes) i s
  records_with = written_record l bytes s i l.record_len l.record_len refl refl long below size

  pub small_with : All (λ x. x < 2 ^ 8) bytes → All (λ x. x < 2 ^ 8) s → All (λ x. x < 2 ^ 8) with_record
  small_with small each =
      let r : ℕ = l.record_len in
      All-append (λ x. x < 2 ^ 8) (take (i * r) bytes) (s ++ post_of (i * r) r bytes) (All-take (λ x. x < 2 ^ 8) (i * r) bytes small)
      (All-append (λ x. x < 2 ^ 8) s (post_of (i * r) r bytes) each
      (All-drop (λ x. x < 2 ^ 8) r (drop (i * r) bytes) (All-drop (λ x. x < 2 ^ 8) (i * r) bytes small)))

  pub made_with : (digits new : WordMatrix) → digits ≡ digit_matrix l (records_in l bytes) →
      WritesColumn digits new (first_row l i) (column_of l i) (record_digits l s) → new ≡ digit_matrix l (records_in l with_record)
  made_with digits new made written =
      record_replaced l (records_in l bytes) i s new (shape_of_layout l layout) below (omega (arith, below, long_records l bytes))
      (subst (λ (m : WordMatrix). WritesColumn m new (first_row l i) (column_of l i) (record_digits l s)) made written)
      ∙ ap (digit_matrix l) (sym records_with)

-- ---- room for further records

no_number : number_of 8 [] ≡ 0
unfolding number_of sum_below
no_number = refl

-- the digits of the same records in a layout of more
pub made_wider : (l : Shape) (m : ℕ) (xs : List (List ℕ)) → 0 < l.groups → length xs ≤ l.count →
    widened (digit_matrix l xs) (digit_cols (counted l m)) ≡ digit_matrix (counted l m) xs
made_wider l m xs some few =
    let wide : Shape = counted l m in
    sym (same-matrix_of (digit_rows l) (digit_cols wide) (digit_at wide xs) (entry_or_zero (digit_matrix l xs)) (λ r j high right.
    let k : ℕ = j * l.groups + r / digits_per_record l in
    elim (cases_lt j (digit_cols l)) [
      | inl inside ↦ sym (within (digit_matrix l xs) r j inside ∙ entry-matrix_of (digit_rows l) (digit_cols l) (digit_at l xs) r j high inside)
      | inr outside ↦
          let beyond : l.count ≤ k = omega (arith, mul-le-mul_left l.groups outside, some) in
          ap (λ (b : List ℕ). digit l.width (number_of 8 b) (r % digits_per_record l)) (get_or_past xs k [] (omega (arith, beyond, few)))
          ∙ ap (λ (x : ℕ). digit l.width x (r % digits_per_record l)) no_number
          ∙ zero_digit l.width (r % digits_per_record l)
          ∙ sym (past (digit_matrix l xs) r j outside)
    ]))

-- as many records as a layout has, by their bytes
pub all_taken : (n count r : ℕ) → 1 ≤ r → n * r ≡ count * r → n ≡ count
all_taken n count r some e = sym (mul-div_cancel n some) ∙ ap (λ (x : ℕ). x / r) e ∙ mul-div_cancel count some

-- more records take as many columns or more
pub wider_columns : (l : Shape) (m : ℕ) → 0 < l.groups → l.count ≤ m → digit_cols l ≤ digit_cols (counted l m)
wider_columns l m some le =
    le-div (digit_cols l) (m + l.groups - 1) l.groups some (omega (arith, div-mul-le_self (l.count + l.groups - 1) l.groups, le))

-- ---- what is kept

module _ (l : Shape) (n : ℕ) (digits : WordMatrix) (kept : IsKept l n digits) where
  -- all records are there
  pub is_whole : length (bytes_in_digits l n digits) ≡ l.count * l.record_len → n ≡ l.count
  is_whole whole = all_taken n l.count l.record_len kept.layout.record_len.0 (sym kept.len ∙ whole)

  pub made_whole : length (bytes_in_digits l n digits) ≡ l.count * l.record_len → digits ≡ digit_matrix l (records_in l (bytes_in_digits l n digits))
  made_whole whole = kept.digits_are ∙ ap (λ (k : ℕ). digit_matrix l (records_in (counted l k) (bytes_in_digits l n digits))) (is_whole whole)

  -- record i is one of them
  pub is_taken : (i : ℕ) → i * l.record_len + l.record_len ≤ length (bytes_in_digits l n digits) → i < n
  is_taken i room = below_count i n l.record_len kept.layout.record_len.0 (omega (arith, room, kept.len))

  pub kept_there : (i : ℕ) → i < n → HoldsRecord l digits i
  kept_there i lt = there l n (bytes_in_digits l n digits) kept.layout kept.few kept.len kept.small digits kept.digits_are i lt

  pub kept_record : (i : ℕ) → i < n → record_in_digits l digits i ≡ take l.record_len (drop (i * l.record_len) (bytes_in_digits l n digits))
  kept_record i lt = record_back l n (bytes_in_digits l n digits) kept.layout kept.few kept.len kept.small digits kept.digits_are i lt

  -- another record i
  module _ (s : List ℕ) (new : WordMatrix) (i : ℕ) (below : i < l.count) (size : length s ≡ l.record_len) (small : All (λ x. x < 2 ^ 8) s)
      (whole : length (bytes_in_digits l n digits) ≡ l.count * l.record_len)
      (written : WritesColumn digits new (first_row l i) (column_of l i) (record_digits l s)) where
    abbrev old : List ℕ
    old = bytes_in_digits l n digits

    abbrev after : List ℕ
    after = with_record l old s i kept.layout below whole size

    made_after : new ≡ digit_matrix l (records_in (counted l n) after)
    made_after =
        made_with l old s i kept.layout below whole size digits new (made_whole whole) written
        ∙ ap (λ (k : ℕ). digit_matrix l (records_in (counted l k) after)) (sym (is_whole whole))

    long_after : length after ≡ n * l.record_len
    long_after = as_long l old s i kept.layout below whole size ∙ kept.len

    pub kept_with : IsKept l n new
    kept_with =
        is_kept l n after kept.layout kept.few long_after (small_with l old s i kept.layout below whole size kept.small small) new made_after

    bytes_with : bytes_in_digits l n new ≡ after
    bytes_with =
        bytes_back l n after kept.layout kept.few long_after (small_with l old s i kept.layout below whole size kept.small small) new made_after

    pub len_with : length (bytes_in_digits l n new) ≡ length old
    len_with = ap length bytes_with ∙ as_long l old s i kept.layout below whole size

    pub put_with : records_in l (bytes_in_digits l n new) ≡ slice_set (records_in l old) i s
    put_with = ap (records_in l) bytes_with ∙ records_with l old s i kept.layout below whole size

  -- room for further records
  module _ (m : ℕ) (layout : IsLayout (counted l m)) (le : l.count ≤ m) where
    wide : widened digits (digit_cols (counted l m)) ≡ digit_matrix (counted l m) (records_in (counted l n) (bytes_in_digits l n digits))
    wide =
        ap (λ (d : WordMatrix). widened d (digit_cols (counted l m))) kept.digits_are
        ∙ made_wider l m (records_in (counted l n) (bytes_in_digits l n digits)) kept.layout.groups.0
        (omega (arith, kept.few, long_records (counted l n) (bytes_in_digits l n digits)))

    pub kept_wider : IsKept (counted l m) n (widened digits (digit_cols (counted l m)))
    kept_wider =
        is_kept (counted l m) n (bytes_in_digits l n digits) layout (omega (arith, kept.few, le)) kept.len kept.small
        (widened digits (digit_cols (counted l m))) wide

    pub bytes_wider : bytes_in_digits (counted l m) n (widened digits (digit_cols (counted l m))) ≡ bytes_in_digits l n digits
    bytes_wider =
        bytes_back (counted l m) n (bytes_in_digits l n digits) layout (omega (arith, kept.few, le)) kept.len kept.small
        (widened digits (digit_cols (counted l m))) wide

-- the same, under other names
module _ (l : Shape) (n : ℕ) (digits : WordMatrix) (kept : IsKept l n digits) (m : Shape) (sizes : m ≡ counted l (l.count + 1)) (layout : IsLayout m)
    (cols : ℕ) (columns : cols ≡ digit_cols m) (new : WordMatrix) (is : new ≡ widened digits cols) where
  abbrev more : ℕ
  more = l.count + 1

  new_is : new ≡ widened digits (digit_cols (counted l more))
  new_is = is ∙ ap (widened digits) (columns ∙ ap digit_cols sizes)

  pub kept_grown : IsKept m n new
  kept_grown =
      subst (λ (s : Shape). IsKept s n new) (sym sizes)
      (subst (IsKept (counted l more) n) (sym new_is) (kept_wider l n digits kept more (subst IsLayout sizes layout) (omega arith)))

  pub bytes_grown : bytes_in_digits m n new ≡ bytes_in_digits l n digits
  bytes_grown =
      ap (λ (s : Shape). bytes_in_digits s n new) sizes
      ∙ ap (bytes_in_digits (counted l more) n) new_is
      ∙ bytes_wider l n digits kept more (subst IsLayout sizes layout) (omega arith)
