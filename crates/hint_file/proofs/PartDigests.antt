-- The digests of parts.
use Rattle.std.proofs.Common.{◌≡◌, ℕ, zero, suc, ◌*◌, ◌<◌, ◌≤◌, ◌⊎◌, List, [], ◌++◌, length, take, drop, min, refl, sym, ap, ◌∙◌, inl, inr, arith}
use Rattle.std.proofs.lemmas.Bool.{cases_lt}
use Rattle.std.proofs.lemmas.List.{length-append, length-drop, take_all, append-nil, nil_from_length}
use Rattle.sha2.specs.Sha256.{sha256}
use Rattle.hint_file.specs.Files.{first_digests, part_count, part_digests}
use Rattle.hint_file.proofs.Bytes.{length-sha256}

-- a digest for each part
pub length-first_digests : (n : ℕ) (bytes : List ℕ) → length (first_digests n bytes) ≡ 32 * n
unfolding first_digests
length-first_digests zero bytes = refl
length-first_digests (suc n) bytes =
    omega (arith, length-append (sha256 (take 262144 bytes)) (first_digests n (drop 262144 bytes)), length-sha256 (take 262144 bytes), length-first_digests n (drop 262144 bytes))

pub length-part_digests : (bytes : List ℕ) → length (part_digests bytes) ≡ 32 * part_count (length bytes)
length-part_digests bytes = length-first_digests (part_count (length bytes)) bytes

-- ---- the first part and the others

-- bytes past their end
no_more : (bytes : List ℕ) (n : ℕ) → length bytes ≤ n → drop n bytes ≡ []
no_more bytes n le = nil_from_length (drop n bytes) (omega (arith, length-drop n bytes))

-- the digest of the first part, and then those of the others
digests_on : (bytes : List ℕ) → 0 < length bytes → part_digests bytes ≡ sha256 (take 262144 bytes) ++ part_digests (drop 262144 bytes)
unfolding first_digests
digests_on bytes some =
    let one : part_count (length bytes) ≡ suc (part_count (length (drop 262144 bytes))) = omega (arith, some, length-drop 262144 bytes) in
    ap (λ (n : ℕ). first_digests n bytes) one

-- the same, cut at the end of the first part
pub digests_more : (bytes : List ℕ) (m : ℕ) → 0 < length bytes → m ≡ min (length bytes) 262144 →
    sha256 (take m bytes) ++ part_digests (drop m bytes) ≡ part_digests bytes
digests_more bytes m some e = by (cases_lt (length bytes) 262144)
  where
    by : (length bytes < 262144) ⊎ (262144 ≤ length bytes) → sha256 (take m bytes) ++ part_digests (drop m bytes) ≡ part_digests bytes
    by (inl less) =
        let all : m ≡ length bytes = omega (arith, e, less) in
        let first : take m bytes ≡ take 262144 bytes = take_all m bytes (omega (arith, all)) ∙ sym (take_all 262144 bytes (omega (arith, less))) in
        let others : drop m bytes ≡ drop 262144 bytes = no_more bytes m (omega (arith, all)) ∙ sym (no_more bytes 262144 (omega (arith, less))) in
        ap (λ (x : List ℕ). sha256 x ++ part_digests (drop m bytes)) first
        ∙ ap (λ (x : List ℕ). sha256 (take 262144 bytes) ++ part_digests x) others ∙ sym (digests_on bytes some)
    by (inr more) =
        let cut : m ≡ 262144 = omega (arith, e, more) in
        ap (λ (n : ℕ). sha256 (take n bytes) ++ part_digests (drop n bytes)) cut ∙ sym (digests_on bytes some)

-- the digests of no bytes are none
pub digests_none : (out : List ℕ) (bytes : List ℕ) → bytes ≡ [] → out ++ part_digests bytes ≡ out
unfolding first_digests
digests_none out bytes e = ap (λ (x : List ℕ). out ++ part_digests x) e ∙ append-nil out
