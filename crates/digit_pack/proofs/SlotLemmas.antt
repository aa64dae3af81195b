-- What is in a slot.
use Rattle.std.proofs.Common.{◌≡◌, ◌∙◌, ap, sym, refl, subst, ℕ, zero, suc, ◌+◌, ◌-◌, ◌/◌, ◌%◌, ◌^◌, ◌<◌, ◌≤◌, ◌++◌, true, List, [], ◌∷◌, All, length, take, drop, replicate, nat_le, nat_eq, arith, Bool, false, slice_index_or}
use Rattle.std.specs.Int.{w16, from_le_bytes}
use Rattle.std.specs.List.{list_all}
use Rattle.std.proofs.Math.Seq.{take-append_seam, drop-append_seam}
use Rattle.std.proofs.Math.Bool.{and-false}
use Rattle.std.proofs.lemmas.Bool.{and_parts, and_from, leb-true, le-leb, eqb-true}
use Rattle.std.proofs.lemmas.List.{length-append, length-replicate, length-take-le, length-drop, take-append-drop, drop-drop}
use Rattle.std.proofs.lemmas.List.Elements.{All-append, All-cons, All-head, All-tail, All-replicate}
use Rattle.std.proofs.lemmas.Nat.{from_le_bytes-to_le_bytes_2}
use Rattle.digit_pack.specs.Slots.{slot_of, is_slot, content_of}
use Rattle.digit_pack.specs.Laws.{IsFilledBy, SlotsAreThoseFilled}

-- ---- zeros

zeros_pass : (n : ℕ) → list_all (nat_eq 0) (replicate n 0) ≡ true
zeros_pass zero = refl
zeros_pass (suc n) = zeros_pass n

passed_zeros : (xs : List ℕ) → list_all (nat_eq 0) xs ≡ true → xs ≡ replicate (length xs) 0
passed_zeros [] e = refl
passed_zeros (x ∷ xs) e =
    let p = and_parts (nat_eq 0 x) (list_all (nat_eq 0) xs) e in
    rw (sym (eqb-true 0 x p.0)) (ap (λ (ys : List ℕ). 0 ∷ ys) (passed_zeros xs p.1))

after_two : (n : ℕ) (xs : List ℕ) → drop (n + 2) xs ≡ drop n (drop 2 xs)
after_two n xs = ap (λ (k : ℕ). drop k xs) (omega arith) ∙ sym (drop-drop n 2 xs)

-- ---- all of a list

pub each_passes : (f : List ℕ → Bool) (xs : List (List ℕ)) → ((k : ℕ) → k < length xs → f (slice_index_or xs k []) ≡ true) → list_all f xs ≡ true
each_passes f [] h = refl
each_passes f (x ∷ xs) h = and_from (f x) (list_all f xs) (h 0 (omega arith)) (each_passes f xs (λ k lt. h (suc k) (omega arith)))

pub one_fails : (f : List ℕ → Bool) (xs : List (List ℕ)) (k : ℕ) → k < length xs → f (slice_index_or xs k []) ≡ false → list_all f xs ≡ false
one_fails f [] k lt e = absurd (omega arith)
one_fails f (x ∷ xs) zero lt e = rw e refl
one_fails f (x ∷ xs) (suc k) lt e = rw (one_fails f xs k (omega arith) e) (and-false (f x))

-- ---- what fills a slot

-- a slot has its length, and the record in it is the one that fills it
pub record FillsAndReads (len : ℕ) (bytes : List ℕ) : Type 0 where
  pub size : length (slot_of len bytes) ≡ len
  pub accepted : is_slot (slot_of len bytes) ≡ true
  pub same : content_of (slot_of len bytes) ≡ bytes
  pub each : All (λ b. b < 2 ^ 8) bytes → All (λ b. b < 2 ^ 8) (slot_of len bytes)

module _ (len : ℕ) (bytes : List ℕ) (fits : length bytes + 2 ≤ len) (short : length bytes < 2 ^ 16) where
  abbrev padding : List ℕ
  padding = replicate (len - (length bytes + 2)) 0

  abbrev rest : List ℕ
  rest = bytes ++ padding

  rest_len : length rest ≡ len - 2
  rest_len = omega (arith, length-append bytes padding, length-replicate {A = ℕ} (len - (length bytes + 2)) 0, fits)

  number_is : from_le_bytes w16 (take 2 (slot_of len bytes)) ≡ length bytes
  number_is = from_le_bytes-to_le_bytes_2 (length bytes) short

  accepted : is_slot (slot_of len bytes) ≡ true
  unfolding is_slot
  accepted = rw number_is
      (and_from (nat_le (length bytes + 2) (length (slot_of len bytes))) (list_all (nat_eq 0) (drop (length bytes + 2) (slot_of len bytes)))
      (le-leb (length bytes + 2) (length (slot_of len bytes)) (omega (arith, rest_len, fits)))
      (rw (after_two (length bytes) (slot_of len bytes), drop-append_seam bytes padding) (zeros_pass (len - (length bytes + 2)))))

  pub fills : FillsAndReads len bytes
  fills = record {
    size = omega (arith, rest_len, fits);
    accepted = accepted;
    same = ap (λ (n : ℕ). take n rest) number_is ∙ take-append_seam bytes padding;
    each = λ small.
        All-cons (λ b. b < 2 ^ 8) (length bytes % 256) (length bytes / 256 % 256 ∷ rest) (omega arith)
        (All-cons (λ b. b < 2 ^ 8) (length bytes / 256 % 256) rest (omega arith)
        (All-append (λ b. b < 2 ^ 8) bytes padding small
        (All-replicate (λ b. b < 2 ^ 8) (len - (length bytes + 2)) 0 (omega arith))));
  }

pub slot_size : (len : ℕ) (bytes : List ℕ) → length bytes + 2 ≤ len → length (slot_of len bytes) ≡ len
slot_size len bytes fits = omega (arith, rest_len_of len bytes fits, fits)
  where
    rest_len_of : (len : ℕ) (bytes : List ℕ) → length bytes + 2 ≤ len → length (bytes ++ replicate (len - (length bytes + 2)) 0) ≡ len - 2
    rest_len_of len bytes fits = omega (arith, length-append bytes (replicate (len - (length bytes + 2)) 0), length-replicate {A = ℕ} (len - (length bytes + 2)) 0, fits)

pub fills_and_reads : (len : ℕ) (bytes : List ℕ) → length bytes + 2 ≤ len → length bytes < 2 ^ 16 → FillsAndReads len bytes
fills_and_reads len bytes fits short = fills len bytes fits short

-- ---- what is accepted

pub slot_is_filled : (slot : List ℕ) → All (λ b. b < 2 ^ 8) slot → is_slot slot ≡ true → slot ≡ slot_of (length slot) (content_of slot)
unfolding is_slot
slot_is_filled [] small e =
    let n : ℕ = from_le_bytes w16 [] in
    absurd (omega (arith, leb-true (n + 2) 0 (and_parts (nat_le (n + 2) 0) (list_all (nat_eq 0) (drop (n + 2) [])) e).0))
slot_is_filled (x ∷ []) small e =
    let n : ℕ = from_le_bytes w16 (x ∷ []) in
    absurd (omega (arith, leb-true (n + 2) 1 (and_parts (nat_le (n + 2) 1) (list_all (nat_eq 0) (drop (n + 2) (x ∷ []))) e).0))
slot_is_filled (x ∷ y ∷ more) small e =
    let n : ℕ = from_le_bytes w16 (x ∷ y ∷ []) in
    let p = and_parts (nat_le (n + 2) (length (x ∷ y ∷ more))) (list_all (nat_eq 0) (drop (n + 2) (x ∷ y ∷ more))) e in
    let room : n + 2 ≤ length more + 2 = omega (arith, leb-true (n + 2) (length (x ∷ y ∷ more)) p.0) in
    let len : length (take n more) ≡ n = length-take-le n more (omega (arith, room)) in
    let zeros : drop n more ≡ replicate (length more - n) 0 =
    passed_zeros (drop n more) (ap (list_all (nat_eq 0)) (sym (after_two n (x ∷ y ∷ more))) ∙ p.1)
    ∙ ap (λ (k : ℕ). replicate k 0) (length-drop n more) in
    let low : x < 256 = All-head (λ b. b < 2 ^ 8) x (y ∷ more) small in
    let high : y < 256 = All-head (λ b. b < 2 ^ 8) y more (All-tail (λ b. b < 2 ^ 8) x (y ∷ more) small) in
    let size : ℕ = length (take n more) in
    let left : length (x ∷ y ∷ more) - (size + 2) ≡ length more - n = omega (arith, len) in
    let body : take n more ++ replicate (length (x ∷ y ∷ more) - (size + 2)) 0 ≡ more =
    ap (λ (k : ℕ). take n more ++ replicate k 0) left ∙ ap (λ (zs : List ℕ). take n more ++ zs) (sym zeros) ∙ take-append-drop n more in
    let first : size % 256 ≡ x = omega (arith, len, low) in
    let second : size / 256 % 256 ≡ y = omega (arith, len, low, high) in
    sym (rw (first, second, body) refl)

-- what an accepted slot has room for
fits_slot : (slot : List ℕ) → All (λ b. b < 2 ^ 8) slot → is_slot slot ≡ true → (length (content_of slot) + 2 ≤ length slot) × (length (content_of slot) < 2 ^ 16)
unfolding is_slot
fits_slot [] small e =
    let n : ℕ = from_le_bytes w16 [] in
    absurd (omega (arith, leb-true (n + 2) 0 (and_parts (nat_le (n + 2) 0) (list_all (nat_eq 0) (drop (n + 2) [])) e).0))
fits_slot (x ∷ []) small e =
    let n : ℕ = from_le_bytes w16 (x ∷ []) in
    absurd (omega (arith, leb-true (n + 2) 1 (and_parts (nat_le (n + 2) 1) (list_all (nat_eq 0) (drop (n + 2) (x ∷ []))) e).0))
fits_slot (x ∷ y ∷ more) small e =
    let n : ℕ = from_le_bytes w16 (x ∷ y ∷ []) in
    let p = and_parts (nat_le (n + 2) (length (x ∷ y ∷ more))) (list_all (nat_eq 0) (drop (n + 2) (x ∷ y ∷ more))) e in
    let room : n + 2 ≤ length more + 2 = omega (arith, leb-true (n + 2) (length (x ∷ y ∷ more)) p.0) in
    let len : length (take n more) ≡ n = length-take-le n more (omega (arith, room)) in
    let low : x < 256 = All-head (λ b. b < 2 ^ 8) x (y ∷ more) small in
    let high : y < 256 = All-head (λ b. b < 2 ^ 8) y more (All-tail (λ b. b < 2 ^ 8) x (y ∷ more) small) in
    (omega (arith, len, room), omega (arith, len, low, high))

pub slots_are_those_filled : SlotsAreThoseFilled
slots_are_those_filled slot bytes small = (
  (λ read.
      let room = fits_slot slot small read.0 in
      subst (λ (xs : List ℕ). IsFilledBy slot xs) read.1
      (record { fits = room.0; short = room.1; same = slot_is_filled slot small read.0 })),
  (λ f.
      let held = fills_and_reads (length slot) bytes f.fits f.short in
      (ap is_slot f.same ∙ held.accepted, ap content_of f.same ∙ held.same)),
)
