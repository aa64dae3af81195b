-- Records in bytes, and their bytes again.
use Rattle.std.proofs.Common.{◌≡◌, ◌+◌, ◌*◌, ℕ, List, ◌++◌, length, take, drop, map, zero, suc, arith, sym, ap, ◌∙◌}
use Rattle.std.specs.List.{flat_map, range_with_len}
use Rattle.std.proofs.Math.Seq.{take-add}
use Rattle.std.proofs.lemmas.List.{drop-drop, take_all}
use Rattle.std.proofs.lemmas.List.Concat.{flat_map-cons}
use Rattle.digit_pack.specs.Layout.{Shape, records_in}
use Rattle.version_store.specs.Openings.{bytes_of_records}

-- pieces of equal length, from some piece on
pieces_joined : (r : ℕ) (bytes : List ℕ) (s n : ℕ) → flat_map (λ (p : List ℕ). p) (map (λ i. take r (drop (i * r) bytes)) (range_with_len s n))
    ≡ take (n * r) (drop (s * r) bytes)
pieces_joined r bytes s zero = let none : 0 ≡ 0 * r = omega arith in ap (λ k. take k (drop (s * r) bytes)) none
pieces_joined r bytes s (suc n) =
    let first : List ℕ = drop (s * r) bytes in
    let further : (s + 1) * r ≡ s * r + r = omega arith in
    let longer : r + n * r ≡ suc n * r = omega arith in
    let past : drop ((s + 1) * r) bytes ≡ drop r first = ap (λ k. drop k bytes) further ∙ sym (drop-drop r (s * r) bytes) in
    flat_map-cons (λ (p : List ℕ). p) (take r first) (map (λ i. take r (drop (i * r) bytes)) (range_with_len (s + 1) n))
    ∙ ap (λ (b : List ℕ). take r first ++ b) (pieces_joined r bytes (s + 1) n ∙ ap (λ (b : List ℕ). take (n * r) b) past)
    ∙ sym (take-add r (n * r) first)
    ∙ ap (λ k. take k first) longer

-- the bytes of the records that bytes hold
pub joined_records : (l : Shape) (bytes : List ℕ) → length bytes ≡ l.count * l.record_len → bytes_of_records (records_in l bytes) ≡ bytes
joined_records l bytes long =
    let none : 0 * l.record_len ≡ 0 = omega arith in
    pieces_joined l.record_len bytes 0 l.count
    ∙ ap (λ k. take (l.count * l.record_len) (drop k bytes)) none
    ∙ take_all (l.count * l.record_len) bytes (omega (arith, long))
