-- What a quiet answer reads as.
use Rattle.std.proofs.Common.{◌≡◌, ◌∙◌, ℕ, ◌+◌, ◌<◌, ◌≤◌, ◌*◌, ◌^◌, ◌==◌, List, [], length, All, Bool, true, false, cond, nat_le, refl, ap, inl, inr, arith}
use Rattle.std.specs.Prelude.{nat_lt, Some}
use Rattle.std.proofs.lemmas.Bool.{lt-ltb, leb-true, eqb-true}
use Rattle.std.proofs.lemmas.List.{get_or-map}
use Rattle.digit_pack.specs.Slots.{is_slotted, slot_of, is_slot, content_of}
use Rattle.digit_pack.proofs.SlotLemmas.{fills_and_reads}
use Rattle.digit_pack.proofs.RecordLemmas.{shape_of_layout}
use Rattle.digit_pack.specs.Digits.{number_of}
use Rattle.digit_pack.specs.Laws.{PackUnpacks}
use Rattle.digit_pack.specs.Layout.{Shape, IsShape, IsRecord, FitsRecord, record_at, record_digits, record_bytes}
use Rattle.simple_scheme.specs.Laws.{QuietSimpleRetrievalReadsTheRecord as SimpleReads}
use Rattle.double_scheme.specs.Laws.{QuietDoubleRetrievalReadsTheRecord as DoubleReads}
use Rattle.simple_scheme.specs.Simple.{hint_of}
use Rattle.pir_schemes.specs.declared.scheme.Scheme.{Scheme}
use Rattle.pir_schemes.specs.declared.scheme.Scheme.TheVariants.{Simple, Double}
use Rattle.pir_schemes.specs.declared.plan.Plan.{Plan}
use Rattle.pir_schemes.specs.Plans.{IsPlan, IsRecordOf, shape_at, fits, slot, slots, is_slot_of, content, first_public, second_public, record_of}
use Rattle.pir_schemes.specs.Retrievals.{server_hint, hint_matrix, query_words, answer_words, reading, IsQuietOf}
use Rattle.pir_schemes.specs.Laws.{RetrievalGivesTheRecord, CertainShapeIsQuiet}

digits_are : SimpleReads → DoubleReads → (s : Scheme) (p : Plan) (records : List (List ℕ)) (seed : List ℕ) (number i : ℕ) →
    IsShape (shape_at p (length records)) → i < length records → IsQuietOf s p records seed number i →
    reading s (shape_at p (length records)) (hint_matrix s p records) seed number i
    (answer_words s p records (query_words s (shape_at p (length records)) p.dimension p.seed seed number i))
    ≡ record_digits (shape_at p (length records)) (record_at (slots p records) i)
unfolding reading hint_matrix hint_of server_hint answer_words query_words
digits_are simple double Simple p records seed number i ok lt quiet =
    let l : Shape = shape_at p (length records) in
    simple l (slots p records) (first_public l p.dimension p.seed) seed number i ok lt refl quiet
digits_are simple double Double p records seed number i ok lt quiet =
    let l : Shape = shape_at p (length records) in
    double l (slots p records) (first_public l p.dimension p.seed) (second_public l p.dimension p.seed) seed number i ok lt refl refl refl quiet

-- ---- slots

-- by whether the form is 2
slot_by : (b : Bool) (len : ℕ) (bytes : List ℕ) → len ≤ 256 → cond b (nat_le (length bytes + 2) len) (length bytes == len) ≡ true →
    All (λ x. x < 2 ^ 8) bytes → (length (cond b (slot_of len bytes) bytes) ≡ len) × All (λ x. x < 2 ^ 8) (cond b (slot_of len bytes) bytes)
slot_by true len bytes le fits small =
    let room : length bytes + 2 ≤ len = leb-true (length bytes + 2) len fits in
    let f = fills_and_reads len bytes room (omega (arith, room, le)) in
    (f.size, f.each small)
slot_by false len bytes le fits small = (eqb-true (length bytes) len fits, small)

content_by : (b : Bool) (len : ℕ) (bytes : List ℕ) → len ≤ 256 → cond b (nat_le (length bytes + 2) len) (length bytes == len) ≡ true →
    (cond b (is_slot (cond b (slot_of len bytes) bytes)) true ≡ true)
    × (cond b (content_of (cond b (slot_of len bytes) bytes)) (cond b (slot_of len bytes) bytes) ≡ bytes)
content_by true len bytes le fits =
    let room : length bytes + 2 ≤ len = leb-true (length bytes + 2) len fits in
    let f = fills_and_reads len bytes room (omega (arith, room, le)) in
    (f.accepted, f.same)
content_by false len bytes le fits = (refl, refl)

-- what a record has in the digits has the shape's length
pub slot_is_record : (p : Plan) (n : ℕ) (bytes : List ℕ) → IsPlan p n → IsRecordOf p bytes → IsRecord (shape_at p n) (slot p bytes)
unfolding fits slot
slot_is_record p n bytes ok r =
    let s = slot_by (is_slotted p.form) p.record_len bytes ok.layout.record_len.1 r.fits r.each in
    record { len = s.0; each = s.1 }

-- the bytes that a record has in the digits are its slot
pub slot_holds : (p : Plan) (n : ℕ) (bytes : List ℕ) → IsPlan p n → fits p bytes ≡ true →
    (is_slot_of p (slot p bytes) ≡ true) × (content p (slot p bytes) ≡ bytes)
unfolding fits slot is_slot_of content
slot_holds p n bytes ok fits = content_by (is_slotted p.form) p.record_len bytes ok.layout.record_len.1 fits

-- ---- records

record_is : (p : Plan) (n : ℕ) (bytes : List ℕ) → let l = shape_at p n in FitsRecord l (record_digits l (slot p bytes)) →
    record_bytes l (record_digits l (slot p bytes)) ≡ slot p bytes → (is_slot_of p (slot p bytes) ≡ true) × (content p (slot p bytes) ≡ bytes) →
    record_of p (record_digits l (slot p bytes)) ≡ Some bytes
unfolding record_of
record_is p n bytes fits e held =
    let l : Shape = shape_at p n in
    let t : nat_lt (number_of l.width (record_digits l (slot p bytes))) (2 ^ (8 * l.record_len)) ≡ true = lt-ltb _ _ fits in
    rw (t, e, held.0) (ap (λ (b : List ℕ). Some b) held.1)

quiet_gives : SimpleReads → DoubleReads → PackUnpacks → (s : Scheme) (p : Plan) (records : List (List ℕ)) (seed : List ℕ) (number i : ℕ) →
    IsPlan p (length records) → i < length records → IsRecordOf p (record_at records i) → IsQuietOf s p records seed number i →
    record_of p (reading s (shape_at p (length records)) (hint_matrix s p records) seed number i
    (answer_words s p records (query_words s (shape_at p (length records)) p.dimension p.seed seed number i)))
    ≡ Some (record_at records i)
quiet_gives simple double packs s p records seed number i ok lt fits quiet =
    let l : Shape = shape_at p (length records) in
    let shaped : IsShape l = shape_of_layout l ok.layout in
    let bytes : List ℕ = record_at records i in
    let back = packs l (slot p bytes) shaped.width (slot_is_record p (length records) bytes ok fits) in
    let at : record_at (slots p records) i ≡ slot p bytes = get_or-map (slot p) records i [] [] lt in
    let digits = digits_are simple double s p records seed number i shaped lt quiet ∙ ap (record_digits l) at in
    rw digits (record_is p (length records) bytes back.accepted back.same (slot_holds p (length records) bytes ok fits.fits))

pub retrieval_gives : SimpleReads → DoubleReads → PackUnpacks → CertainShapeIsQuiet → RetrievalGivesTheRecord
retrieval_gives simple double packs certain s p records seed number i ok lt fits (inl quiet) =
    quiet_gives simple double packs s p records seed number i ok lt fits quiet
retrieval_gives simple double packs certain s p records seed number i ok lt fits (inr shape) =
    quiet_gives simple double packs s p records seed number i ok lt fits (certain s p records seed number i (shape_of_layout (shape_at p (length records)) ok.layout) shape)
