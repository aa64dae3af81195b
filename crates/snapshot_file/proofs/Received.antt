-- Records that are taken one after another.
use Rattle.std.proofs.Common.{◌≡◌, ◌∙◌, ℕ, ◌+◌, ◌*◌, ◌<◌, ◌≤◌, List, [], ◌∷◌, ◌++◌, Bool, true, false, cond, length, take, drop, map, refl, sym, ap, arith}
use Rattle.std.specs.Prelude.{◌&&◌, if◌then◌else◌}
use Rattle.std.specs.List.{list_all, range_with_len}
use Rattle.std.proofs.lemmas.Nat.{row_fits}
use Rattle.std.proofs.lemmas.List.{length-drop, take_all, take-append-le, drop-append-le}
use Rattle.std.proofs.lemmas.List.Folds.{list_all-append}
use Rattle.std.proofs.lemmas.List.FromFn.{fill_by_all, get_or-map-range_with_len, length-map-range_with_len, map-range_with_len_more}
use Rattle.std.proofs.Math.Seq.{drop-append-add}
use Rattle.digit_pack.specs.Layout.{Shape, records_in}
use Rattle.digit_pack.specs.Slots.{is_slotted, is_slot}
use Rattle.snapshot_file.specs.declared.snapshot.Header.{Header}
use Rattle.snapshot_file.specs.Snapshots.{shape_of, with_count, has_slots}

abbrev list_of : ℕ → (ℕ → List ℕ) → List (List ℕ)
list_of n f = map f (range_with_len 0 n)

same-list_of : (n : ℕ) (f g : ℕ → List ℕ) → ((k : ℕ) → k < n → f k ≡ g k) → list_of n f ≡ list_of n g
same-list_of n f g same =
    fill_by_all g (list_of n f) n [] (length-map-range_with_len f 0 n) (λ k lt.
    get_or-map-range_with_len f 0 n k k [] (omega arith) (omega arith) ∙ same k lt)

-- the bytes of records, and those of one more after them
pub one_after : (l m : Shape) (bytes s : List ℕ) → m.record_len ≡ l.record_len → m.count ≡ l.count + 1 → length bytes ≡ l.count * l.record_len →
    length s ≡ l.record_len → records_in m (bytes ++ s) ≡ records_in l bytes ++ s ∷ []
one_after l m bytes s len count long size =
    let r : ℕ = l.record_len in
    let f : ℕ → List ℕ = λ i. take r (drop (i * r) (bytes ++ s)) in
    let end : l.count * r ≡ length bytes + 0 = omega (arith, long) in
    let last : f l.count ≡ s =
    ap (λ (k : ℕ). take r (drop k (bytes ++ s))) end ∙ ap (take r) (drop-append-add bytes s 0) ∙ take_all r s (omega (arith, size)) in
    ap (λ (k : ℕ). list_of k (λ i. take m.record_len (drop (i * m.record_len) (bytes ++ s)))) count
    ∙ ap (λ (n : ℕ). list_of (l.count + 1) (λ i. take n (drop (i * n) (bytes ++ s)))) len
    ∙ map-range_with_len_more f 0 l.count l.count (omega arith)
    ∙ ap (λ (xs : List (List ℕ)). xs ++ f l.count ∷ [])
    (same-list_of l.count f (λ i. take r (drop (i * r) bytes)) (λ i lt.
    let room : i * r + r ≤ l.count * r = row_fits i r l.count r lt (omega arith) in
    ap (take r) (drop-append-le (i * r) bytes s (omega (arith, room, long)))
    ∙ take-append-le r (drop (i * r) bytes) s (omega (arith, room, long, length-drop (i * r) bytes))))
    ∙ ap (λ (x : List ℕ). records_in l bytes ++ x ∷ []) last

-- no record is no slot
pub none_bad : (h : Header) (b : Bool) → b ≡ true → b ≡ has_slots (with_count 0 h) []
unfolding has_slots
none_bad h b e = e ∙ by (is_slotted h.form)
  where
    by : (x : Bool) → true ≡ cond x true true
    by true = refl
    by false = refl

turned : (a b : Bool) → a && b ≡ b && (a && true)
turned true true = refl
turned true false = refl
turned false true = refl
turned false false = refl

-- one record more is judged
pub slots_more : (h : Header) (n : ℕ) (taken s : List ℕ) → length taken ≡ n * h.record_len → length s ≡ h.record_len →
    (if is_slotted h.form then is_slot s else true) && has_slots (with_count n h) taken ≡ has_slots (with_count (n + 1) h) (taken ++ s)
unfolding has_slots
slots_more h n taken s long size =
    let xs : List (List ℕ) = records_in (shape_of (with_count n h)) taken in
    let ys : List (List ℕ) = records_in (shape_of (with_count (n + 1) h)) (taken ++ s) in
    let all : is_slot s && list_all is_slot xs ≡ list_all is_slot ys =
    turned (is_slot s) (list_all is_slot xs)
    ∙ sym (list_all-append is_slot xs (s ∷ []))
    ∙ ap (list_all is_slot) (sym (one_after (shape_of (with_count n h)) (shape_of (with_count (n + 1) h)) taken s refl refl long size)) in
    by (is_slotted h.form) (is_slot s) (list_all is_slot xs) (list_all is_slot ys) all
  where
    by : (b x y z : Bool) → x && y ≡ z → cond b x true && cond b y true ≡ cond b z true
    by true x y z e = e
    by false x y z e = refl

-- in a form without slots none is judged
pub none_judged : (h : Header) (m n : ℕ) (some all : List ℕ) → is_slotted h.form ≡ false → has_slots (with_count m h) some ≡ has_slots (with_count n h) all
unfolding has_slots
none_judged h m n some all form =
    ap (λ b. if b then list_all is_slot (records_in (shape_of (with_count m h)) some) else true) form
    ∙ sym (ap (λ b. if b then list_all is_slot (records_in (shape_of (with_count n h)) all) else true) form)
