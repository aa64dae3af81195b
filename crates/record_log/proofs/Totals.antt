-- How many publications a log keeps.
use Rattle.std.proofs.Common.{◌≡◌, ℕ, ◌+◌, ◌*◌, ◌<◌, ◌≤◌, ap, ◌∙◌, sym, refl, arith, true, false, List, [], ◌∷◌, ◌++◌, length, get_or, take, drop}
use Rattle.std.proofs.lemmas.Bool.{cond-true, cond-false, and_from, and_left, and_right, le-leb, lt-leb}
use Rattle.std.proofs.lemmas.List.{length-map, map-append, take-append-drop}
use Rattle.std.specs.Prelude.{nat_le}
use Rattle.record_log.specs.OldRecords.{OldBytes, OldRecord}
use Rattle.record_log.specs.Logs.{are_within, kept_within, total_bytes}
use Rattle.record_log.specs.Steps.{HaveLen, olds_of}
use Rattle.record_log.proofs.Listing.{olds_more}

total-append : (len : ℕ) (xs ys : List (List OldRecord)) → total_bytes len (xs ++ ys) ≡ total_bytes len xs + total_bytes len ys
total-append len [] ys = omega arith
total-append len (x ∷ xs) ys = omega (arith, total-append len xs ys)

-- one list more
pub total_more : (len : ℕ) (lists : List OldBytes) (k : ℕ) (o : OldBytes) → k < length lists → o ≡ get_or lists k o → HaveLen len lists →
    total_bytes len (olds_of (take (k + 1) lists)) ≡ total_bytes len (olds_of (take k lists)) + length o.records * o.record_len
total_more len lists k o h is each =
    let same : o.record_len ≡ len = ap (λ (x : OldBytes). x.record_len) is ∙ each k o h in
    let one : total_bytes len (o.records ∷ []) ≡ length o.records * len = omega arith in
    ap (total_bytes len) (olds_more lists k o h is)
    ∙ total-append len (olds_of (take k lists)) (o.records ∷ [])
    ∙ ap (λ n. total_bytes len (olds_of (take k lists)) + n) (one ∙ ap (λ n. length o.records * n) (sym same))

-- some lists have no more than all
pub total_below : (len : ℕ) (lists : List OldBytes) (k : ℕ) → total_bytes len (olds_of (take k lists)) ≤ total_bytes len (olds_of lists)
total_below len lists k =
    let parts : olds_of lists ≡ olds_of (take k lists) ++ olds_of (drop k lists) =
    ap olds_of (sym (take-append-drop k lists)) ∙ map-append (λ (o : OldBytes). o.records) (take k lists) (drop k lists) in
    omega (arith, ap (total_bytes len) parts, total-append len (olds_of (take k lists)) (olds_of (drop k lists)))

-- ---- whether they are within the limits
pub too_many : (len most : ℕ) (lists : List OldBytes) → 16 < length lists → are_within len most (olds_of lists) ≡ false
too_many len most lists h =
    and_left (nat_le (length (olds_of lists)) 16) (nat_le (total_bytes len (olds_of lists)) most)
    (lt-leb (length (olds_of lists)) 16 (omega (arith, h, length-map lists (λ (o : OldBytes). o.records))))

pub too_long : (len most : ℕ) (lists : List OldBytes) → most < total_bytes len (olds_of lists) → are_within len most (olds_of lists) ≡ false
too_long len most lists h =
    and_right (nat_le (length (olds_of lists)) 16) (nat_le (total_bytes len (olds_of lists)) most) (lt-leb (total_bytes len (olds_of lists)) most h)

pub within : (len most : ℕ) (lists : List OldBytes) → length lists ≤ 16 → total_bytes len (olds_of lists) ≤ most → are_within len most (olds_of lists) ≡ true
within len most lists few short =
    and_from (nat_le (length (olds_of lists)) 16) (nat_le (total_bytes len (olds_of lists)) most)
    (le-leb (length (olds_of lists)) 16 (omega (arith, few, length-map lists (λ (o : OldBytes). o.records))))
    (le-leb (total_bytes len (olds_of lists)) most short)

-- ---- what is kept
pub kept_all : (len most : ℕ) (lists : List (List OldRecord)) → are_within len most lists ≡ true → kept_within len most lists ≡ lists
kept_all len most [] h = refl
kept_all len most (x ∷ xs) h = cond-true (are_within len most (x ∷ xs)) (x ∷ xs) (kept_within len most xs) h

pub kept_rest : (len most : ℕ) (lists rest : List OldBytes) (o : OldBytes) → lists ≡ o ∷ rest → are_within len most (olds_of lists) ≡ false →
    kept_within len most (olds_of rest) ≡ kept_within len most (olds_of lists)
kept_rest len most lists rest o is h =
    let parts : olds_of lists ≡ o.records ∷ olds_of rest = ap olds_of is in
    sym (ap (kept_within len most) parts
    ∙ cond-false (are_within len most (o.records ∷ olds_of rest)) (o.records ∷ olds_of rest) (kept_within len most (olds_of rest))
    (ap (are_within len most) (sym parts) ∙ h))
