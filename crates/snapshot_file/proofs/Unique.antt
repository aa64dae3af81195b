-- That a header and a snapshot have one encoding.
use Rattle.std.proofs.Common.{◌≡◌, inl, inr, ℕ, zero, suc, ◌+◌, ◌*◌, ◌^◌, ◌<◌, List, [], ◌∷◌, ◌++◌, length, slice_index, take, drop, refl, sym, ap, ◌∙◌, append_assoc, arith}
use Rattle.std.proofs.lemmas.List.{length-append, take_at, drop_at}
use Rattle.std.specs.Int.{w32, to_be_bytes}
use Rattle.byteorder.specs.Endian.{little_number}
use Rattle.sha2.specs.Sha256.{sha256, digest_bytes}
use Rattle.snapshot_file.specs.declared.snapshot.Header.{Header}
use Rattle.snapshot_file.specs.Snapshots.{magic, form_bytes, fields_len, IsForm, snapshot_number, header_bytes, hashed_bytes, snapshot_bytes, records_len, IsHeader, IsFile}
use Rattle.snapshot_file.proofs.NumberBytes.{length-number, number_back}
use Rattle.snapshot_file.proofs.Headers.{length-header, length-magic, header_fields}

-- ---- lists

-- two lists are cut at the same place
pub cut_prefix : (a b x y : List ℕ) → length a ≡ length b → a ++ x ≡ b ++ y → (a ≡ b) × (x ≡ y)
cut_prefix a b x y len e = (
  sym (take_at a x (length b) len) ∙ ap (take (length b)) e ∙ take_at b y (length b) refl,
  sym (drop_at a x (length b) len) ∙ ap (drop (length b)) e ∙ drop_at b y (length b) refl,
)

-- two lists are cut at the same place from their ends
cut_back : (n : ℕ) (a b x y : List ℕ) → length x ≡ n → length y ≡ n → a ++ x ≡ b ++ y → (a ≡ b) × (x ≡ y)
cut_back n a b x y lx ly e =
    let len : length a ≡ length b = omega (arith, length-append a x, length-append b y, ap length e) in
    cut_prefix a b x y len e

one_number : (n x y : ℕ) → x < 256 ^ n → y < 256 ^ n → snapshot_number n x ≡ snapshot_number n y → x ≡ y
one_number n x y hx hy e = sym (number_back n x [] hx) ∙ ap (λ (b : List ℕ). little_number n (b ++ [])) e ∙ number_back n y [] hy

one_byte : (x y : ℕ) → x ∷ [] ≡ y ∷ [] → x ≡ y
one_byte x y e = cc

-- ---- a header

-- the headers of the same fields are the same
same_fields : (h k : Header) → h.form ≡ k.form → h.width ≡ k.width → h.record_len ≡ k.record_len → h.groups ≡ k.groups → h.count ≡ k.count → h.dimension ≡ k.dimension
    → h.version ≡ k.version → h.seed ≡ k.seed → h.publisher ≡ k.publisher → h ≡ k
same_fields h k f w r g c n v s p = λ i. record {
  form = f i;
  width = w i;
  record_len = r i;
  groups = g i;
  count = c i;
  dimension = n i;
  version = v i;
  seed = s i;
  publisher = p i;
}

-- magic and form bytes tell a form
tells_form : (form : ℕ) → IsForm form →
    slice_index (magic form) 7 + slice_index (form_bytes form) 0 ≡ form + 48 + length (form_bytes form)
unfolding magic form_bytes
tells_form form (inl e) = rw e refl
tells_form form (inr (inl e)) = rw e refl
tells_form form (inr (inr (inl e))) = rw e refl
tells_form form (inr (inr (inr e))) = rw e refl

-- the magic says whether the form is wide: its fourth byte is S or W
pub tells_wide : (form : ℕ) → IsForm form → slice_index (magic form) 3 ≡ 83 + 4 * length (form_bytes form)
unfolding magic form_bytes
tells_wide form (inl e) = rw e refl
tells_wide form (inr (inl e)) = rw e refl
tells_wide form (inr (inr (inl e))) = rw e refl
tells_wide form (inr (inr (inr e))) = rw e refl

-- forms of one magic have as many form bytes
pub same_len : (form other : ℕ) → IsForm form → IsForm other → magic form ≡ magic other → length (form_bytes form) ≡ length (form_bytes other)
same_len form other a b e = omega (arith, tells_wide form a, tells_wide other b, ap (λ (bytes : List ℕ). slice_index bytes 3) e)

-- so no two forms begin alike
pub one_form : (form other : ℕ) → IsForm form → IsForm other → magic form ≡ magic other → form_bytes form ≡ form_bytes other → form ≡ other
one_form form other a b e f =
    omega (
      arith,
      tells_form form a,
      tells_form other b,
      ap (λ (bytes : List ℕ). slice_index bytes 7) e,
      ap (λ (bytes : List ℕ). slice_index bytes 0) f,
      ap (λ (bytes : List ℕ). length bytes) f,
    )

same_header : (h k : Header) → IsHeader h → IsHeader k → header_bytes h ≡ header_bytes k → h ≡ k
unfolding header_bytes
same_header h k ih ik e =
    let publisher = cut_back 32 _ _ h.publisher k.publisher ih.publisher ik.publisher e in
    let seed = cut_back 32 _ _ h.seed k.seed ih.seed ik.seed publisher.0 in
    let version = cut_back 8 _ _ (snapshot_number 8 h.version) (snapshot_number 8 k.version) (length-number 8 h.version) (length-number 8 k.version) seed.0 in
    let dimension = cut_back 2 _ _ (snapshot_number 2 h.dimension) (snapshot_number 2 k.dimension) (length-number 2 h.dimension)
    (length-number 2 k.dimension) version.0 in
    let count = cut_back 4 _ _ (snapshot_number 4 h.count) (snapshot_number 4 k.count) (length-number 4 h.count) (length-number 4 k.count) dimension.0 in
    let groups = cut_back 2 _ _ (snapshot_number 2 h.groups) (snapshot_number 2 k.groups) (length-number 2 h.groups) (length-number 2 k.groups) count.0 in
    let record_len = cut_back 2 _ _ (snapshot_number 2 h.record_len) (snapshot_number 2 k.record_len) (length-number 2 h.record_len)
    (length-number 2 k.record_len) groups.0 in
    let width = cut_back 1 (magic h.form ++ form_bytes h.form) (magic k.form ++ form_bytes k.form) (h.width ∷ []) (k.width ∷ []) refl refl record_len.0 in
    let first = cut_prefix (magic h.form) (magic k.form) (form_bytes h.form) (form_bytes k.form) (length-magic h.form ∙ sym (length-magic k.form)) width.0 in
    same_fields h k
    (one_form h.form k.form ih.form ik.form first.0 first.1)
    (one_byte h.width k.width width.1)
    (one_number 2 h.record_len k.record_len ih.record_len ik.record_len record_len.1)
    (one_number 2 h.groups k.groups ih.groups ik.groups groups.1)
    (one_number 4 h.count k.count ih.count ik.count count.1)
    (one_number 2 h.dimension k.dimension ih.dimension ik.dimension dimension.1)
    (one_number 8 h.version k.version ih.version ik.version version.1)
    seed.1
    publisher.1

-- no header begins another, and no two have the same bytes
pub one_header : (h k : Header) (x y : List ℕ) → IsHeader h → IsHeader k → header_bytes h ++ x ≡ header_bytes k ++ y → (h ≡ k) × (x ≡ y)
one_header h k x y ih ik e =
    let f = header_fields h ih in
    let g = header_fields k ik in
    let whole : magic h.form ++ (f.0 ++ x) ≡ magic k.form ++ (g.0 ++ y) =
    sym (ap (λ (z : List ℕ). z ++ x) f.1 ∙ append_assoc (magic h.form) f.0 x) ∙ e ∙ ap (λ (z : List ℕ). z ++ y) g.1 ∙ append_assoc (magic k.form) g.0 y in
    let first = cut_prefix (magic h.form) (magic k.form) (f.0 ++ x) (g.0 ++ y) (length-magic h.form ∙ sym (length-magic k.form)) whole in
    let len : length (header_bytes h) ≡ length (header_bytes k) =
    omega (arith, length-header h ih, length-header k ik, same_len h.form k.form ih.form ik.form first.0) in
    let cut = cut_prefix (header_bytes h) (header_bytes k) x y len e in
    (same_header h k ih ik cut.0, cut.1)

-- ---- a snapshot

length-digest_bytes : (h : List ℕ) (n : ℕ) → length (digest_bytes h n) ≡ 4 * n
unfolding digest_bytes
length-digest_bytes h zero = refl
length-digest_bytes h (suc n) =
    let four : length (to_be_bytes w32 (slice_index h n)) ≡ 4 = refl in
    let ih = length-digest_bytes h n in
    omega (arith, length-append (digest_bytes h n) (to_be_bytes w32 (slice_index h n)))

pub length-sha256 : (m : List ℕ) → length (sha256 m) ≡ 32
unfolding sha256
length-sha256 m = length-digest_bytes _ 8

pub length-snapshot : (h : Header) (records : List ℕ) → IsFile h records → length (snapshot_bytes h records) ≡ 40 + fields_len h.form + records_len h
length-snapshot h records is =
    let prefix = length-header h is.header in
    let digest = length-sha256 (hashed_bytes h records) in
    omega (arith, length-append (hashed_bytes h records) (sha256 (hashed_bytes h records)), length-append (header_bytes h) records, is.len)

-- after an equal header there are equal records, and what follows is equal
pub same_records : (h k : Header) (records others x y : List ℕ) → IsFile h records → IsFile k others →
    hashed_bytes h records ++ x ≡ hashed_bytes k others ++ y
    → (h ≡ k) × (records ≡ others) × (x ≡ y)
same_records h k records others x y is js e =
    let whole : header_bytes h ++ (records ++ x) ≡ header_bytes k ++ (others ++ y) = sym (append_assoc (header_bytes h) records x) ∙ e
    ∙ append_assoc (header_bytes k) others y in
    let prefix = one_header h k (records ++ x) (others ++ y) is.header js.header whole in
    let len : length records ≡ length others = is.len ∙ ap records_len prefix.0 ∙ sym js.len in
    let cut = cut_prefix records others x y len prefix.1 in
    (prefix.0, cut.0, cut.1)

pub one_snapshot : (h k : Header) (records others rest end : List ℕ) → IsFile h records → IsFile k others
    → snapshot_bytes h records ++ rest ≡ snapshot_bytes k others ++ end → (h ≡ k) × (records ≡ others) × (rest ≡ end)
one_snapshot h k records others rest end is js e =
    let hs = sha256 (hashed_bytes h records) in
    let ks = sha256 (hashed_bytes k others) in
    let apart : hashed_bytes h records ++ (sha256 (hashed_bytes h records) ++ rest) ≡ hashed_bytes k others ++ (sha256 (hashed_bytes k others) ++ end) =
    sym (append_assoc (hashed_bytes h records) (sha256 (hashed_bytes h records)) rest) ∙ e
    ∙ append_assoc (hashed_bytes k others) (sha256 (hashed_bytes k others)) end in
    let same = same_records h k records others (sha256 (hashed_bytes h records) ++ rest) (sha256 (hashed_bytes k others) ++ end) is js apart in
    let cut = cut_prefix (sha256 (hashed_bytes h records)) (sha256 (hashed_bytes k others)) rest end (length-sha256 (hashed_bytes h records)
    ∙ sym (length-sha256 (hashed_bytes k others))) same.2 in
    (same.0, same.1, cut.1)
