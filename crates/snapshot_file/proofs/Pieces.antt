-- Records that are copied and written piece by piece.
use Rattle.std.proofs.Common.{◌≡◌, ℕ, ◌+◌, ◌*◌, ◌/◌, ◌≤◌, List, ◌++◌, length, take, drop, sym, ap, ◌∙◌, arith}
use Rattle.std.proofs.lemmas.List.{take-append-drop, drop-drop}
use Rattle.std.proofs.lemmas.Slice.{take-put_mid}
use Rattle.std.proofs.Math.Nat.{mul-div_cancel}
use Rattle.std.proofs.Math.Seq.{take-add}
use borrow.Rule.Slice.PartMut.{put_mid}

pub add_times : (p q m : ℕ) → (p + q) * m ≡ p * m + q * m
add_times p q m = omega arith

-- how many records of one length so many bytes are
pub batch_count : (bytes r len m : ℕ) → bytes ≡ m * len → r ≡ len → 1 ≤ len → bytes / r ≡ m
batch_count bytes r len m whole same some = ap (λ x. bytes / x) same ∙ ap (λ x. x / len) whole ∙ mul-div_cancel m some

-- from record i on, the first records and n more
pub taken_more : (i n r : ℕ) (bytes : List ℕ) → take (i * r) bytes ++ take (n * r) (drop (i * r) bytes) ≡ take ((i + n) * r) bytes
taken_more i n r bytes = sym (take-add (i * r) (n * r) bytes) ∙ ap (λ k. take k bytes) (sym (add_times i n r))

-- what was written before a piece, the piece, and what comes after it
pub split_piece : (i n r : ℕ) (bytes piece : List ℕ) → piece ≡ take (n * r) (drop (i * r) bytes) →
    bytes ≡ take (i * r) bytes ++ (piece ++ drop (i * r + n * r) bytes)
split_piece i n r bytes piece e =
    sym (ap (λ (x : List ℕ). take (i * r) bytes ++ x)
    (ap (λ (x : List ℕ). x ++ drop (i * r + n * r) bytes) e
    ∙ ap (λ (x : List ℕ). take (n * r) (drop (i * r) bytes) ++ x) (sym (drop-drop (n * r) (i * r) bytes))
    ∙ take-append-drop (n * r) (drop (i * r) bytes))
    ∙ take-append-drop (i * r) bytes)

-- one record more is copied
pub copied_more : (k r first n : ℕ) (out new bytes : List ℕ) → k * r ≤ length out → length new ≡ r →
    new ≡ take r (drop ((first + k) * r) bytes) → take (k * r) out ≡ take (k * r) (drop (first * r) bytes) →
    take ((k + 1) * r) (put_mid (k * r) n out new) ≡ take ((k + 1) * r) (drop (first * r) bytes)
copied_more k r first n out new bytes within long is before =
    let from : List ℕ = drop (first * r) bytes in
    let next : (k + 1) * r ≡ k * r + r = omega arith in
    let place : (first + k) * r ≡ first * r + k * r = omega arith in
    take-put_mid (k * r) n out new ((k + 1) * r) (omega (arith, next, long)) within
    ∙ ap (λ (x : List ℕ). x ++ new) before
    ∙ ap (λ (x : List ℕ). take (k * r) from ++ x)
    (is ∙ ap (λ m. take r (drop m bytes)) place ∙ ap (take r) (sym (drop-drop (k * r) (first * r) bytes)))
    ∙ sym (take-add (k * r) r from)
    ∙ ap (λ m. take m from) (sym next)
