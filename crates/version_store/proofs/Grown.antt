-- Records with blanks after them: their bytes, their digits and their hints.
use Rattle.std.proofs.Common.{◌≡◌, ◌∙◌, ℕ, zero, suc, ◌+◌, ◌-◌, ◌*◌, ◌/◌, ◌%◌, ◌^◌, ◌<◌, ◌≤◌, ◌==◌, List, [], ◌∷◌, ◌++◌, Bool, true, false, cond, length, take, drop, map, get_or, replicate, if◌then◌else◌, refl, sym, ap, arith, inl, inr}
use Rattle.std.specs.Prelude.{Option, Some, None, MatchOption, nat_eq, nat_le, not, max}
use Rattle.std.specs.Cmp.Lexicographic.{pointwise}
use Rattle.std.specs.declared.vec.Vec.{Vec}
use Rattle.std.specs.declared.alloc.Global.{Global}
use Rattle.std.specs.BTreeMap.{BTreeMap, Updates}
use Rattle.std.specs.Ordering.{nat_cmp}
use Rattle.std.proofs.lemmas.Bool.{cases_lt, eq-eqb, le-leb}
use Rattle.std.proofs.lemmas.Nat.{row_fits, le-div}
use Rattle.std.proofs.lemmas.List.{append-nil, length-append, length-replicate, replicate-append-replicate, length-drop, length-map, get_or_append_left, get_or-append_right, get_or-replicate, get_or_past, take-append-le, take-replicate, drop-append-le, drop-replicate, map-append}
use Rattle.std.proofs.Math.Nat.{mul-le-mul_left, div-mul-le_self}
use Rattle.std.proofs.Math.Seq.{drop-append-add}
use Rattle.std.proofs.lemmas.List.FromFn.{fill_by_all, map-range_with_len_more}
use Rattle.matrix_u32.specs.Matrix.{WordMatrix, row, entry_or_zero, widened, product, transpose}
use Rattle.matrix_u32.specs.Sum.{list_of}
use Rattle.matrix_u32.proofs.Sums.{sum_same, sum_zero}
use Rattle.matrix_u32.proofs.Products.{length-list_of, at-list_of_any, same-list_of, entry-matrix_of}
use Rattle.matrix_u32.proofs.Changes.{same-matrix_of, transpose-product}
use Rattle.seed_expand.specs.Words.{public_rows}
use Rattle.lane_kernels.specs.Digit.{digit}
use Rattle.digit_pack.specs.Digits.{number_of, decomposed}
use Rattle.digit_pack.specs.Slots.{is_form, is_slotted, slot_of}
use Rattle.digit_pack.proofs.Changes.{zero_digit}
use Rattle.digit_pack.proofs.FormLemmas.{two_bytes}
use Rattle.digit_pack.specs.Layout.{Shape, record_at, records_in, digit_at, digit_matrix, digit_rows, digit_cols, digits_per_record}
use Rattle.double_scheme.specs.Double.{client_hint_of}
use Rattle.simple_scheme.specs.Simple.{hint_of}
use Rattle.pir_schemes.specs.declared.scheme.Scheme.TheVariants.{Simple, Double}
use Rattle.pir_schemes.specs.declared.plan.Plan.{Plan}
use Rattle.pir_schemes.specs.Plans.{IsPlan, shape_at, fits, slot, slots, digits_at, first_public, second_public}
use Rattle.pir_schemes.specs.Retrievals.{hint_matrix, server_hint}
use Rattle.snapshot_file.proofs.Pieces.{add_times}
use Rattle.version_store.specs.Deltas.{padded_row, differs_at, changed_rows}
use Rattle.version_store.specs.Drafts.{Changes, FitRecords, bytes_or, change_at, draft_of, grown_to}
use Rattle.version_store.specs.Editions.{Records, IsMadeTwice, blank, grown}
use Rattle.version_store.proofs.Versions.{long_records}
use Rattle.version_store.proofs.DraftLemmas.{updated_here, updated_elsewhere}
use Rattle.version_store.proofs.ChangedRows.{filter_same}
use Rattle.version_store.proofs.Widened.{within, past, same_wide, hint_wide}

-- ---- lists

-- lists of one length that are the same at each index
same_list : {X : Type 0} (d : X) (xs ys : List X) → length xs ≡ length ys → ((k : ℕ) → k < length ys → get_or xs k d ≡ get_or ys k d) → xs ≡ ys
same_list d xs ys long each =
    fill_by_all (λ k. get_or ys k d) xs (length ys) d long each ∙ sym (fill_by_all (λ k. get_or ys k d) ys (length ys) d refl (λ k h. refl))

pub map-replicate : {X Y : Type 0} (f : X → Y) (n : ℕ) (x : X) → map f (replicate n x) ≡ replicate n (f x)
map-replicate f zero x = refl
map-replicate f (suc n) x = ap (λ ys. f x ∷ ys) (map-replicate f n x)

-- ---- blanks

abbrev blank_by : Bool → ℕ → List ℕ
blank_by b len = if b then [] else replicate len 0

fits_by : (b : Bool) (len : ℕ) → (b ≡ true → 2 ≤ len) → cond b (nat_le (length (blank_by b len) + 2) len) (length (blank_by b len) == len) ≡ true
fits_by true len wide = le-leb (length (blank_by true len) + 2) len (wide refl)
fits_by false len wide = eq-eqb (length (blank_by false len)) len (length-replicate {A = ℕ} len 0)

-- a blank can be a record
pub blank-fits : (p : Plan) → is_form p.form p.record_len ≡ true → fits p (blank p) ≡ true
unfolding fits
blank-fits p form = fits_by (is_slotted p.form) p.record_len (λ two. two_bytes p.form p.record_len form two)

slot_by : (b : Bool) (len : ℕ) → (b ≡ true → 2 ≤ len) →
    cond b (slot_of len (blank_by b len)) (blank_by b len) ≡ replicate len 0
slot_by true len wide = replicate-append-replicate 2 (len - 2) 0 ∙ ap (λ n. replicate n 0) (omega (arith, wide refl))
slot_by false len wide = refl

-- and has zeros in the digits
pub blank-slot : (p : Plan) → is_form p.form p.record_len ≡ true → slot p (blank p) ≡ replicate p.record_len 0
unfolding slot
blank-slot p form = slot_by (is_slotted p.form) p.record_len (λ two. two_bytes p.form p.record_len form two)

-- ---- records

pub length-grown : (p : Plan) (n : ℕ) (records : List (List ℕ)) → length records ≤ n → length (grown p n records) ≡ n
length-grown p n records le =
    omega (arith, length-append records (replicate (n - length records) (blank p)), length-replicate {A = List ℕ} (n - length records) (blank p), le)

-- as many records as there are
pub grown-same : (p : Plan) (records : List (List ℕ)) → grown p (length records) records ≡ records
grown-same p records =
    let none : length records - length records ≡ 0 = omega arith in
    ap (λ k. records ++ replicate k (blank p)) none ∙ append-nil records

pub grown-old : (p : Plan) (n : ℕ) (records : List (List ℕ)) (k : ℕ) → k < length records → record_at (grown p n records) k ≡ record_at records k
grown-old p n records k lt = get_or_append_left records (replicate (n - length records) (blank p)) [] k lt

pub grown-new : (p : Plan) (n : ℕ) (records : List (List ℕ)) (k : ℕ) → length records ≤ k → k < n → record_at (grown p n records) k ≡ blank p
grown-new p n records k low high =
    get_or-append_right records (replicate (n - length records) (blank p)) (length records) k [] refl low
    ∙ get_or-replicate (n - length records) (k - length records) (blank p) [] (omega arith)

-- with one blank more the others stay
one-more : (p : Plan) (n : ℕ) (records : List (List ℕ)) (k : ℕ) → k < n → record_at (grown p (n + 1) records) k ≡ record_at (grown p n records) k
one-more p n records k lt = elim (cases_lt k (length records)) [
  | inl old ↦ grown-old p (n + 1) records k old ∙ sym (grown-old p n records k old)
  | inr new ↦ grown-new p (n + 1) records k new (omega arith) ∙ sym (grown-new p n records k new lt)
]

-- ---- a draft

-- the draft has as many records
pub length-draft : (e : Records) (n : ℕ) (changes : Changes) → length e.records ≤ n → length (draft_of (grown_to n e).records changes) ≡ n
length-draft e n changes le =
    let rs : List (List ℕ) = grown e.plan n e.records in
    length-list_of (length rs) (λ i. bytes_or (change_at changes i) (record_at rs i)) ∙ length-grown e.plan n e.records le

-- an append puts one record after those of the draft
pub draft-appended : (e : Records) (n : ℕ) (old new : BTreeMap ℕ (Vec ℕ Global)) (v : Vec ℕ Global) → length e.records ≤ n →
    Updates nat_cmp old new n (Some v) → draft_of (grown_to (n + 1) e).records new.entries ≡ draft_of (grown_to n e).records old.entries ++ v.items ∷ []
draft-appended e n old new v le u =
    let longer : List (List ℕ) = grown e.plan (n + 1) e.records in
    let before : List (List ℕ) = grown e.plan n e.records in
    let f : ℕ → List ℕ = λ i. bytes_or (change_at new.entries i) (record_at longer i) in
    let g : ℕ → List ℕ = λ i. bytes_or (change_at old.entries i) (record_at before i) in
    ap (λ k. list_of k f) (length-grown e.plan (n + 1) e.records (omega arith))
    ∙ map-range_with_len_more f 0 n n (omega arith)
    ∙ ap (λ (xs : List (List ℕ)). xs ++ f n ∷ [])
    (same-list_of n f g (λ i lt.
    ap (λ c. bytes_or c (record_at longer i)) (updated_elsewhere old new n i (Some v) u (omega arith))
    ∙ ap (bytes_or (change_at old.entries i)) (one-more e.plan n e.records i lt)))
    ∙ ap (λ k. list_of k g ++ f n ∷ []) (sym (length-grown e.plan n e.records le))
    ∙ ap (λ c. list_of (length before) g ++ bytes_or c (record_at longer n) ∷ []) (updated_here old new n (Some v) u)

-- and the changes of the others fit
pub fit-appended : (e : Records) (n : ℕ) (changes : Changes) → length e.records ≤ n → FitRecords (grown_to n e) changes → FitRecords (grown_to (n + 1) e) changes
fit-appended e n changes le fit i = by (change_at changes i) (fit i)
  where
    by : (o : Option (Vec ℕ Global)) →
        MatchOption o (Unit {0}) (λ v. (i < length (grown e.plan n e.records)) × (fits e.plan v.items ≡ true)) →
        MatchOption o (Unit {0}) (λ v. (i < length (grown e.plan (n + 1) e.records)) × (fits e.plan v.items ≡ true))
    by None h = tt
    by (Some v) h =
        (omega (arith, h.0, length-grown e.plan n e.records le, length-grown e.plan (n + 1) e.records (omega arith)), h.1)

-- ---- their bytes

-- the bytes of records with zeros for further ones after them
pub zeros_after : (l m : Shape) (bytes : List ℕ) (k : ℕ) → m.record_len ≡ l.record_len → m.count ≡ l.count + k → length bytes ≡ l.count * l.record_len →
    records_in m (bytes ++ replicate (k * l.record_len) 0) ≡ records_in l bytes ++ replicate k (replicate l.record_len 0)
zeros_after l m bytes k len count long =
    let r : ℕ = l.record_len in
    let zeros : List ℕ = replicate (k * r) 0 in
    let further : List (List ℕ) = replicate k (replicate r 0) in
    let at : (i : ℕ) → i < m.count → record_at (records_in m (bytes ++ zeros)) i ≡ take r (drop (i * r) (bytes ++ zeros)) = λ i lt.
    at-list_of_any m.count (λ i. take m.record_len (drop (i * m.record_len) (bytes ++ zeros))) i [] lt
    ∙ ap (λ (n : ℕ). take n (drop (i * n) (bytes ++ zeros))) len in
    same_list [] (records_in m (bytes ++ zeros)) (records_in l bytes ++ further)
    (omega (arith, long_records m (bytes ++ zeros), length-append (records_in l bytes) further, long_records l bytes, length-replicate {A = List ℕ} k (replicate r 0), count))
    (λ i lt.
    let below : i < m.count = omega (arith, lt, length-append (records_in l bytes) further, long_records l bytes, length-replicate {A = List ℕ} k (replicate r 0), count) in
    elim (cases_lt i l.count) [
      | inl old ↦
          let room : i * r + r ≤ l.count * r = row_fits i r l.count r old (omega arith) in
          at i below
          ∙ ap (take r) (drop-append-le (i * r) bytes zeros (omega (arith, room, long)))
          ∙ take-append-le r (drop (i * r) bytes) zeros (omega (arith, room, long, length-drop (i * r) bytes))
          ∙ sym (at-list_of_any l.count (λ i. take r (drop (i * r) bytes)) i [] old)
          ∙ sym (get_or_append_left (records_in l bytes) further [] i (omega (arith, old, long_records l bytes)))
      | inr new ↦
          let j : ℕ = i - l.count in
          let few : j < k = omega (arith, new, below, count) in
          let is : i ≡ l.count + j = omega (arith, new) in
          let room : j * r + r ≤ k * r = row_fits j r k r few (omega arith) in
          let past : i * r ≡ length bytes + j * r = ap (λ (x : ℕ). x * r) is ∙ add_times l.count j r ∙ ap (λ (x : ℕ). x + j * r) (sym long) in
          at i below
          ∙ ap (λ (x : ℕ). take r (drop x (bytes ++ zeros))) past
          ∙ ap (take r) (drop-append-add bytes zeros (j * r) ∙ drop-replicate (j * r) (k * r) 0)
          ∙ take-replicate r (k * r - j * r) 0 (omega (arith, room))
          ∙ sym (get_or-replicate k j (replicate r 0) [] few)
          ∙ sym (get_or-append_right (records_in l bytes) further l.count i [] (long_records l bytes) new)
    ])

-- ---- their digits

number_of-zeros : (w n : ℕ) → number_of w (replicate n 0) ≡ 0
unfolding number_of
number_of-zeros w n =
    sum_same (length (replicate n 0)) (λ t. get_or (replicate n 0) t 0 * 2 ^ (w * t)) (λ _. 0) (λ t lt.
    let none : get_or (replicate n 0) t 0 ≡ 0 = get_or-replicate n t 0 0 (omega (arith, lt, length-replicate {A = ℕ} n 0)) in
    ap (λ (x : ℕ). x * 2 ^ (w * t)) none ∙ zero_times (2 ^ (w * t)))
    ∙ sum_zero (length (replicate n 0))
  where
    zero_times : (x : ℕ) → 0 * x ≡ 0
    zero_times x = omega arith

pub slots-grown : (p : Plan) (n : ℕ) (records : List (List ℕ)) → is_form p.form p.record_len ≡ true →
    slots p (grown p n records) ≡ slots p records ++ replicate (n - length records) (replicate p.record_len 0)
slots-grown p n records form =
    map-append (slot p) records (replicate (n - length records) (blank p))
    ∙ ap (λ (xs : List (List ℕ)). slots p records ++ xs) (map-replicate (slot p) (n - length records) (blank p))
    ∙ ap (λ (z : List ℕ). slots p records ++ replicate (n - length records) z) (blank-slot p form)

-- no record has no number
no_number : (xs : List (List ℕ)) (k : ℕ) → length xs ≤ k → number_of 8 (record_at xs k) ≡ 0
no_number xs k le = ap (number_of 8) (get_or_past xs k [] le) ∙ number_of-zeros 8 0

-- the number of a record there is, or of none, is as before
same_number : (p : Plan) (n : ℕ) (records : List (List ℕ)) (k : ℕ) → is_form p.form p.record_len ≡ true →
    number_of 8 (record_at (slots p (grown p n records)) k) ≡ number_of 8 (record_at (slots p records) k)
same_number p n records k form =
    let zeros : List ℕ = replicate p.record_len 0 in
    let q : ℕ = n - length records in
    let xs : List (List ℕ) = slots p records in
    let many : length xs ≡ length records = length-map records (slot p) in
    ap (λ (ys : List (List ℕ)). number_of 8 (record_at ys k)) (slots-grown p n records form)
    ∙ elim (cases_lt k (length records)) as (λ _. number_of 8 (record_at (xs ++ replicate q zeros) k) ≡ number_of 8 (record_at xs k)) [
      | inl old ↦ ap (number_of 8) (get_or_append_left xs (replicate q zeros) [] k (omega (arith, old, many)))
      | inr new ↦
          ap (number_of 8) (get_or-append_right xs (replicate q zeros) (length records) k [] many new)
          ∙ elim (cases_lt (k - length records) q) as (λ _. number_of 8 (record_at (replicate q zeros) (k - length records)) ≡ number_of 8 (record_at xs k)) [
            | inl few ↦ ap (number_of 8) (get_or-replicate q (k - length records) zeros [] few) ∙ number_of-zeros 8 p.record_len
                ∙ sym (no_number xs k (omega (arith, new, many)))
            | inr past ↦ no_number (replicate q zeros) (k - length records) (omega (arith, past, length-replicate {A = List ℕ} q zeros))
                ∙ sym (no_number xs k (omega (arith, new, many)))
          ]
    ]

-- columns of records past the last one
past_columns : (l : Shape) (j x : ℕ) → 0 < l.groups → digit_cols l ≤ j → l.count ≤ j * l.groups + x
past_columns l j x some le =
    let q : ℕ = digit_cols l in
    omega (arith, mul-le-mul_left l.groups le, some)

-- more records take as many columns or more
pub more_columns : (p : Plan) (k n : ℕ) → 0 < p.groups → k ≤ n → digit_cols (shape_at p k) ≤ digit_cols (shape_at p n)
more_columns p k n some le =
    let a : ℕ = digit_cols (shape_at p k) in
    le-div a (n + p.groups - 1) p.groups some (omega (arith, div-mul-le_self (k + p.groups - 1) p.groups, le))

-- blanks are columns of zeros
pub digits-grown : (p : Plan) (n : ℕ) (records : List (List ℕ)) → is_form p.form p.record_len ≡ true → 0 < p.groups → length records ≤ n →
    digits_at p (grown p n records) ≡ widened (digits_at p records) (digit_cols (shape_at p n))
digits-grown p n records form some le =
    let l : Shape = shape_at p n in
    let old : Shape = shape_at p (length records) in
    let m : ℕ = digit_cols l in
    let before : WordMatrix = digits_at p records in
    ap (λ (k : ℕ). digit_matrix (shape_at p k) (slots p (grown p n records))) (length-grown p n records le)
    ∙ same-matrix_of (digit_rows l) m (digit_at l (slots p (grown p n records))) (entry_or_zero before) (λ r j high right.
    let w : ℕ = p.width in
    let k : ℕ = j * p.groups + r / digits_per_record l in
    let t : ℕ = r % digits_per_record l in
    let digit_is : digit_at l (slots p (grown p n records)) r j ≡ digit w (number_of 8 (record_at (slots p records) k)) t =
    ap (λ (x : ℕ). digit w x t) (same_number p n records k form) in
    elim (cases_lt j (digit_cols old)) [
      | inl inside ↦
          digit_is
          ∙ sym (within before r j inside ∙ entry-matrix_of (digit_rows old) (digit_cols old) (digit_at old (slots p records)) r j high inside)
      | inr outside ↦
          digit_is
          ∙ ap (λ (x : ℕ). digit w x t)
          (no_number (slots p records) k (omega (arith, past_columns old j (r / digits_per_record l) some outside, length-map records (slot p))))
          ∙ zero_digit w t
          ∙ sym (past before r j outside)
    ])

-- ---- their hints

pub hint_is : (p : Plan) (records : List (List ℕ)) →
    hint_matrix Simple p records ≡ product (digits_at p records) (first_public (shape_at p (length records)) p.dimension p.seed)
unfolding hint_matrix hint_of
hint_is p records = refl

-- which leave the hint of SimplePIR
pub hint-grown : (p : Plan) (n : ℕ) (records : List (List ℕ)) → is_form p.form p.record_len ≡ true → 0 < p.groups → length records ≤ n →
    hint_matrix Simple p (grown p n records) ≡ hint_matrix Simple p records
hint-grown p n records form some le =
    let m : ℕ = digit_cols (shape_at p n) in
    hint_is p (grown p n records)
    ∙ ap (λ (k : ℕ). product (digits_at p (grown p n records)) (first_public (shape_at p k) p.dimension p.seed)) (length-grown p n records le)
    ∙ ap (λ (d : WordMatrix). product d (public_rows p.seed 0 0 m p.dimension)) (digits-grown p n records form some le)
    ∙ sym (hint_wide p records m (more_columns p (length records) n some le))

-- the server's hint is made from that one
server_is : (p : Plan) (records : List (List ℕ)) → server_hint p records ≡ decomposed p.width (transpose (hint_matrix Simple p records))
unfolding server_hint
server_is p records =
    ap (decomposed p.width) (sym (ap transpose (hint_is p records)
    ∙ transpose-product (digits_at p records) (first_public (shape_at p (length records)) p.dimension p.seed) refl))

pub server-grown : (p : Plan) (n : ℕ) (records : List (List ℕ)) → hint_matrix Simple p (grown p n records) ≡ hint_matrix Simple p records →
    server_hint p (grown p n records) ≡ server_hint p records
server-grown p n records same =
    server_is p (grown p n records) ∙ ap (λ (h : WordMatrix). decomposed p.width (transpose h)) same ∙ sym (server_is p records)

-- and those of DoublePIR
pub client-grown : (p : Plan) (n : ℕ) (records : List (List ℕ)) → hint_matrix Simple p (grown p n records) ≡ hint_matrix Simple p records →
    hint_matrix Double p (grown p n records) ≡ hint_matrix Double p records
unfolding hint_matrix
client-grown p n records same =
    ap (λ (s : WordMatrix). client_hint_of s (second_public (shape_at p (length records)) p.dimension p.seed)) (server-grown p n records same)

-- so the hints of a version are those of the version with blanks
pub made-grown : (e : Records) (n : ℕ) (a2 s c : WordMatrix) → IsPlan e.plan (length e.records) → length e.records ≤ n → IsMadeTwice e a2 s c →
    IsMadeTwice (grown_to n e) a2 s c
made-grown e n a2 s c ok le made =
    let same = hint-grown e.plan n e.records ok.form ok.layout.groups.0 le in
    record {
      second_is = made.second_is;
      server_is = made.server_is ∙ sym (server-grown e.plan n e.records same);
      client_is = made.client_is ∙ sym (client-grown e.plan n e.records same);
    }

-- ---- the rows that change

-- digits with further columns of zeros differ from others in the same rows
pub changed-wide : (old new : WordMatrix) → old.cols ≤ new.cols → new.rows ≡ old.rows → changed_rows (widened old new.cols) new ≡ changed_rows old new
unfolding changed_rows
changed-wide old new le rows =
    let m : ℕ = new.cols in
    let e : max old.cols m ≡ m = omega arith in
    let f : max m m ≡ m = omega arith in
    filter_same (differs_at (widened old m) new) (differs_at old new) 0 new.rows (λ r low high.
    let left : padded_row (widened old m) new (widened old m) r ≡ padded_row old new old r =
    same_wide (widened old m) (max m m) r (sym f) (omega (arith, rows)) ∙ ap (λ (n : ℕ). row (widened old n) r) (sym e) in
    let right : padded_row (widened old m) new new r ≡ padded_row old new new r = ap (λ (n : ℕ). row (widened new n) r) (f ∙ sym e) in
    ap (λ (x : List ℕ). not (pointwise nat_eq x (padded_row (widened old m) new new r))) left
    ∙ ap (λ (x : List ℕ). not (pointwise nat_eq (padded_row old new old r) x)) right)
