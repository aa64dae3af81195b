-- What is in the head of a hint's file.
use Rattle.std.proofs.Common.{◌≡◌, ℕ, ◌+◌, ◌*◌, ◌^◌, ◌<◌, ◌≤◌, List, ◌++◌, length, take, drop, Err, refl, sym, ap, ◌∙◌, append_assoc, arith}
use Rattle.std.specs.Prelude.{IsErrOf}
use Rattle.std.proofs.lemmas.List.{length-append, take_at, take-append-le, take-append-drop}
use Rattle.sha2.specs.Sha256.{sha256}
use Rattle.frame_codec.specs.Numbers.{word_bytes}
use Rattle.frame_codec.proofs.NumberBytes.{length-words}
use Rattle.client_core.specs.declared.state.ServerInfo.{ServerInfo}
use Rattle.client_core.specs.declared.state.Hint.{Hint}
use Rattle.hint_file.specs.declared.heads.HintFields.{HintFields}
use Rattle.hint_file.specs.Files.{
  sealed,
  field_bytes,
  head_after,
  fields_of,
  file_after,
  part_count,
  part_digests,
  AreKeepable,
  IsKeepable,
  HasDigests,
}
use Rattle.hint_file.specs.Reading.{with_words}
use Rattle.hint_file.proofs.Bytes.{cut_prefix, rest_one, length-sha256}
use Rattle.hint_file.proofs.FieldsBack.{length-fields, same_sizes}
use Rattle.hint_file.proofs.PartDigests.{length-part_digests}

-- what the digest of a head is of
abbrev pub inside : List ℕ → HintFields → List ℕ → List ℕ
inside front f digests = front ++ (field_bytes f ++ digests)

-- a head and what comes after it, piece by piece
pub head_pieces : (front digests rest : List ℕ) (f : HintFields) →
    head_after front f digests ++ rest ≡ front ++ (field_bytes f ++ (digests ++ (sha256 (inside front f digests) ++ rest)))
head_pieces front digests rest f = simp append_assoc refl

pub length-front : (front digests : List ℕ) (f : HintFields) → length f.known.plan.seed ≡ 32 →
    length (inside front f digests) ≡ length front + 78 + length digests
length-front front digests f seed =
    omega (arith, length-append front (field_bytes f ++ digests), length-append (field_bytes f) digests, length-fields f seed)

pub length-head : (front digests : List ℕ) (f : HintFields) → length f.known.plan.seed ≡ 32 →
    length (head_after front f digests) ≡ length front + 110 + length digests
length-head front digests f seed =
    omega (arith, length-append (inside front f digests) (sha256 (inside front f digests)), length-front front digests f seed, length-sha256 (inside front f digests))

-- one prefix and fields are one encoding of fields
pub same_fields : (front r s : List ℕ) (f g : HintFields) → length f.known.plan.seed ≡ 32 → length g.known.plan.seed ≡ 32 →
    front ++ (field_bytes f ++ r) ≡ front ++ (field_bytes g ++ s) → (field_bytes f ≡ field_bytes g) × (r ≡ s)
same_fields front r s f g seed seed2 e =
    cut_prefix (field_bytes f) (field_bytes g) r s (length-fields f seed ∙ sym (length-fields g seed2)) (rest_one front _ _ e)

-- what comes after the prefix
pub after_front : (front bytes rest x : List ℕ) → bytes ≡ front ++ rest → bytes ≡ front ++ x → rest ≡ x
after_front front bytes rest x b e = rest_one front rest x (sym b ∙ e)

-- hints of equal fields have as many digests
pub as_many : (f g : HintFields) → f.rows < 2 ^ 64 → f.cols < 2 ^ 64 → AreKeepable g → field_bytes f ≡ field_bytes g → f.rows * f.cols ≡ g.rows * g.cols
as_many f g r c k e =
    let same = same_sizes f g r c k.rows k.cols e in
    ap (λ (n : ℕ). n * f.cols) same.0 ∙ ap (λ (n : ℕ). g.rows * n) same.1

-- bytes that begin with a head begin with no other
pub same_head : (front d e r s : List ℕ) (f g : HintFields) → AreKeepable f → AreKeepable g → HasDigests f d → HasDigests g e →
    head_after front f d ++ r ≡ head_after front g e ++ s → (field_bytes f ≡ field_bytes g) × ((d ≡ e) × (r ≡ s))
same_head front d e r s f g k l hd he eq =
    let pieces = same_fields front _ _ f g k.seed l.seed (sym (head_pieces front d r f) ∙ eq ∙ head_pieces front e s g) in
    let count : length d ≡ length e =
    hd ∙ ap (λ (n : ℕ). 32 * part_count (4 * n)) (as_many f g k.rows k.cols l pieces.0) ∙ sym he in
    let digests = cut_prefix d e (sha256 (inside front f d) ++ r) (sha256 (inside front g e) ++ s) count pieces.1 in
    let rest =
    cut_prefix (sha256 (inside front f d)) (sha256 (inside front g e)) r s (length-sha256 (inside front f d) ∙ sym (length-sha256 (inside front g e))) digests.1 in
    (pieces.0, (digests.0, rest.1))

-- what is sealed begins with what is there
pub body_is : (n : ℕ) (front r body tail : List ℕ) → length front ≡ n → n ≤ length body → body ++ tail ≡ front ++ r → body ≡ front ++ drop n body
body_is n front r body tail len le e =
    sym (take-append-drop n body)
    ∙ ap (λ (x : List ℕ). x ++ drop n body) (sym (take-append-le n body tail le) ∙ ap (take n) e ∙ take_at front r n len)

-- the fields at their place are those of the head that bytes begin with
pub fields_of_head : (front bytes r digests rest : List ℕ) (f g : HintFields) → length f.known.plan.seed ≡ 32 → AreKeepable g →
    bytes ≡ front ++ (field_bytes f ++ r) → bytes ≡ head_after front g digests ++ rest → field_bytes f ≡ field_bytes g
fields_of_head front bytes r digests rest f g seed k b e =
    (same_fields front r _ f g seed k.seed (sym b ∙ e ∙ head_pieces front digests rest g)).0

-- what was taken apart is a head
pub head_read : (front bytes begin back body digests r : List ℕ) (f : HintFields) (n : ℕ) → length f.known.plan.seed ≡ 32 → begin ++ back ≡ bytes →
    begin ≡ sealed body → n ≡ length front + 78 → n ≤ length body → bytes ≡ front ++ (field_bytes f ++ r) → digests ≡ drop n body →
    bytes ≡ head_after front f digests ++ back
head_read front bytes begin back body digests r f n seed whole is place le b d =
    let long : length (front ++ field_bytes f) ≡ n = omega (arith, place, length-append front (field_bytes f), length-fields f seed) in
    let pieces : body ++ (sha256 body ++ back) ≡ (front ++ field_bytes f) ++ r =
    sym (append_assoc body (sha256 body) back) ∙ ap (λ (x : List ℕ). x ++ back) (sym is) ∙ whole ∙ b ∙ simp append_assoc refl in
    let all : body ≡ inside front f digests =
    body_is n (front ++ field_bytes f) r body (sha256 body ++ back) long le pieces
    ∙ ap (λ (x : List ℕ). (front ++ field_bytes f) ++ x) (sym d) ∙ simp append_assoc refl in
    sym whole ∙ ap (λ (x : List ℕ). x ++ back) (is ∙ ap sealed all)

-- the head of a hint that a file can have
pub has_digests : (known : ServerInfo) (hint : Hint) → IsKeepable known hint → HasDigests (fields_of known hint) (part_digests (word_bytes hint.matrix.words))
has_digests known hint k =
    length-part_digests (word_bytes hint.matrix.words)
    ∙ ap (λ (n : ℕ). 32 * part_count n) (length-words hint.matrix.words ∙ ap (λ (n : ℕ). 4 * n) k.whole)

-- what was read of a hint's file is of the hint
pub same_file : (front bytes d rest : List ℕ) (f : HintFields) (known : ServerInfo) (hint : Hint) → AreKeepable f → HasDigests f d → IsKeepable known hint →
    bytes ≡ head_after front f d ++ rest → bytes ≡ file_after front known hint →
    (field_bytes f ≡ field_bytes (fields_of known hint)) × ((d ≡ part_digests (word_bytes hint.matrix.words)) × (rest ≡ word_bytes hint.matrix.words))
same_file front bytes d rest f known hint k hd kept read e =
    same_head front d (part_digests (word_bytes hint.matrix.words)) rest (word_bytes hint.matrix.words) f (fields_of known hint) k kept.fields hd
    (has_digests known hint kept) (sym read ∙ e)

-- there are as many words as the fields read say
pub words_wanted : (f : HintFields) (known : ServerInfo) (hint : Hint) → AreKeepable f → IsKeepable known hint → field_bytes f ≡ field_bytes (fields_of known hint) →
    length hint.matrix.words ≡ f.rows * f.cols
words_wanted f known hint k kept e = kept.whole ∙ sym (as_many f (fields_of known hint) k.rows k.cols kept.fields e)

-- a head with the digests of these words, and then the words, is the file of their hint
pub file_read : (front bytes d rest words : List ℕ) (f : HintFields) (hint : Hint) → bytes ≡ head_after front f d ++ rest → d ≡ part_digests rest →
    word_bytes words ≡ rest → hint ≡ with_words f words → bytes ≡ file_after front f.known hint
file_read front bytes d rest words f hint read digests is e =
    read
    ∙ ap (λ (x : List ℕ). head_after front f x ++ rest) digests
    ∙ ap (λ (x : List ℕ). head_after front f (part_digests x) ++ x) (sym is)
    ∙ ap (λ (h : Hint). file_after front f.known h) (sym e)

-- a fault that is passed on is the same one
pub same_fault : {A B E : Type 0} (x e : E) → IsErrOf {T = A} (Err x) e → IsErrOf {T = B} (Err x) e
same_fault x e h =
    let same : x ≡ e = cc in ap Err same
