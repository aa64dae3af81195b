-- From what was read to what is returned.
use Rattle.std.proofs.Common.{◌≡◌, ◌⊎◌, ℕ, suc, ◌<◌, List, [], ◌∷◌, slice_index, drop, ◌++◌, length, Option, Some, None, IfSome, inl, inr, refl, sym, ap, subst, ◌∙◌, append_assoc, arith, ◌+◌, ◌≤◌}
use Rattle.std.proofs.lemmas.List.{length-append, length-drop, append-nil, take_at}
use Rattle.std.specs.Io.KnownBytes.{Consumes, IsAtEnd}
use Rattle.sha2.specs.Sha256.{sha256}
use Rattle.snapshot_file.specs.declared.snapshot.Header.{Header}
use Rattle.snapshot_file.specs.declared.snapshot.SnapshotFault.{SnapshotFault}
use Rattle.snapshot_file.specs.declared.snapshot.SnapshotFault.TheVariants as faults
use Rattle.snapshot_file.specs.Snapshots.{magic, form_bytes, fields_len, IsForm, IsWideForm, IsMagic, header_bytes, hashed_bytes, snapshot_bytes, records_len, IsHeader, IsAccepted, IsFile}
use Rattle.snapshot_file.specs.Verdicts.{IsUnfinished, HasBadHeader, HasBadDigest, HasBadSlot, EndsBelow, EndsKept, EndsAtDigest, StopsReadingAt, MayRefuse}

-- the input ended, or failed, in the fields
pub stops_in_fields : (fault : SnapshotFault) (form : ℕ) (part : List ℕ) (left : Option (List ℕ)) → IsForm form → EndsBelow (fields_len form) fault part left →
    StopsReadingAt fault (magic form ++ part) left
stops_in_fields faults.Short form part left f d = (inr (inl (form, part, f, refl, d.0)), d.1)
stops_in_fields faults.Read form part left f d = inl (inr (inl (form, part, f, refl, d)))
stops_in_fields faults.NotSnapshot form part left f d = absurd d
stops_in_fields faults.BadLayout form part left f d = absurd d
stops_in_fields faults.BadDigest form part left f d = absurd d
stops_in_fields faults.TrailingBytes form part left f d = absurd d
stops_in_fields faults.Memory form part left f d = absurd d
stops_in_fields faults.BadSlot form part left f d = absurd d

-- the header of an ordinary form is what was read
pub ordinary_header : (form : ℕ) (fields whole : List ℕ) → (form ≡ 1) ⊎ (form ≡ 2) → whole ≡ magic form ++ form_bytes form ++ fields →
    magic form ++ fields ≡ whole
unfolding form_bytes
ordinary_header form fields whole (inl one) e =
    sym (e ∙ ap (λ (f : ℕ). magic form ++ form_bytes f ++ fields) one ∙ ap (λ (x : List ℕ). x ++ fields) (append-nil (magic form)))
ordinary_header form fields whole (inr two) e =
    sym (e ∙ ap (λ (f : ℕ). magic form ++ form_bytes f ++ fields) two ∙ ap (λ (x : List ℕ). x ++ fields) (append-nil (magic form)))

-- the first of some fields, and the others
pub first_and_rest : (n : ℕ) (fields : List ℕ) → length fields ≡ suc n → fields ≡ slice_index fields 0 ∷ drop 1 fields
first_and_rest n [] e = absurd (omega (arith, e))
first_and_rest n (form ∷ rest) e = refl

-- the header of a wide form, likewise
pub wide_header : (form : ℕ) (rest fields whole : List ℕ) → IsWideForm form → whole ≡ magic form ++ form_bytes form ++ rest →
    fields ≡ form ∷ rest → magic 129 ++ fields ≡ whole
unfolding form_bytes magic
wide_header form rest fields whole (inl is) e f =
    sym (e ∙ ap (λ (x : ℕ). magic x ++ form_bytes x ++ rest) is ∙ append_assoc (magic 129) (129 ∷ []) rest
    ∙ ap (λ (x : ℕ). magic 129 ++ (x ∷ rest)) (sym is) ∙ ap (λ (x : List ℕ). magic 129 ++ x) (sym f))
wide_header form rest fields whole (inr is) e f =
    sym (e ∙ ap (λ (x : ℕ). magic x ++ form_bytes x ++ rest) is ∙ append_assoc (magic 130) (130 ∷ []) rest
    ∙ ap (λ (x : ℕ). magic 129 ++ (x ∷ rest)) (sym is) ∙ ap (λ (x : List ℕ). magic 129 ++ x) (sym f))

-- the input ended, or failed, in the fields of a wide form
pub stops_in_wide_fields : (fault : SnapshotFault) (part : List ℕ) (left : Option (List ℕ)) → EndsBelow 84 fault part left →
    StopsReadingAt fault (magic 129 ++ part) left
unfolding form_bytes
stops_in_wide_fields fault part left d = stops_in_fields fault 129 part left (inr (inr (inl refl))) d

-- its first field names no wide form
pub stops_at_form : (fields : List ℕ) → length fields ≡ 84 → ¬ IsWideForm (slice_index fields 0) → HasBadHeader (magic 129 ++ fields) []
stops_at_form fields len other =
    let same = first_and_rest 83 fields len in
    inr (
      slice_index fields 0,
      drop 1 fields,
      other,
      omega (arith, len, length-drop 1 fields),
      ap (λ (x : List ℕ). magic 129 ++ x) (same ∙ sym (append-nil (slice_index fields 0 ∷ drop 1 fields))),
    )

-- the input ended, or failed, in the records, or memory for them was refused
in_records : (h : Header) (part : List ℕ) → IsHeader h → IsAccepted h → length part < records_len h → IsUnfinished (header_bytes h ++ part)
in_records h part header accepted lt = inr (inr (h, part, (header, accepted, refl), omega (arith, lt)))

pub stops_in_records : (fault : SnapshotFault) (h : Header) (part : List ℕ) (left : Option (List ℕ)) → IsHeader h → IsAccepted h →
    EndsKept (records_len h) fault part left → StopsReadingAt fault (header_bytes h ++ part) left
stops_in_records faults.Short h part left header accepted d = (in_records h part header accepted d.0, d.1)
stops_in_records faults.Read h part left header accepted d = inl (in_records h part header accepted d)
stops_in_records faults.Memory h part left header accepted d = (h, part, (header, accepted, refl))
stops_in_records faults.NotSnapshot h part left header accepted d = absurd d
stops_in_records faults.BadLayout h part left header accepted d = absurd d
stops_in_records faults.BadDigest h part left header accepted d = absurd d
stops_in_records faults.TrailingBytes h part left header accepted d = absurd d
stops_in_records faults.BadSlot h part left header accepted d = absurd d

-- after the records, and not yet after the digest
in_digest : (h : Header) (records part : List ℕ) → IsFile h records → length part < 32 → IsUnfinished (header_bytes h ++ (records ++ part))
in_digest h records part is lt = inr (inr (h, records ++ part, (is.header, is.accepted, refl), omega (arith, length-append records part, is.len)))

at_digest : (h : Header) (records digest : List ℕ) → IsFile h records → length digest ≡ 32 → ¬ (digest ≡ sha256 (hashed_bytes h records))
    → HasBadDigest (header_bytes h ++ (records ++ digest)) []
at_digest h records digest is len wrong =
    (h, records, digest, is, len, wrong, sym (append_assoc (header_bytes h) records digest) ∙ sym (append-nil (hashed_bytes h records ++ digest)))

-- the bytes of a snapshot, as they were read
joined : (h : Header) (records digest part end : List ℕ) → digest ≡ sha256 (hashed_bytes h records) → part ≡ digest ++ end
    → header_bytes h ++ (records ++ part) ≡ snapshot_bytes h records ++ end
joined h records digest part end e p =
    sym (append_assoc (header_bytes h) records part)
    ∙ ap (λ (x : List ℕ). hashed_bytes h records ++ x) (p ∙ ap (λ (x : List ℕ). x ++ end) e)
    ∙ sym (append_assoc (hashed_bytes h records) (sha256 (hashed_bytes h records)) end)

-- the digest that was wanted is the snapshot's
pub stops_at_digest : (fault : SnapshotFault) (h : Header) (records digest part : List ℕ) (left : Option (List ℕ)) → IsFile h records →
    digest ≡ sha256 (hashed_bytes h records)
    → EndsAtDigest digest fault part left → StopsReadingAt fault (header_bytes h ++ (records ++ part)) left
stops_at_digest faults.Short h records digest part left is e d = (in_digest h records part is d.0, d.1)
stops_at_digest faults.Read h records digest part left is e (inl d) = inl (in_digest h records part is d)
stops_at_digest faults.Read h records digest part left is e (inr d) = inr (h, records, is, joined h records digest part [] e (d ∙ sym (append-nil digest)))
stops_at_digest faults.BadDigest h records digest part left is e d = at_digest h records part is d.0 (λ same. d.1 (same ∙ sym e))
stops_at_digest faults.TrailingBytes h records digest part left is e d = (d.0, (h, records, is, joined h records digest part (d.0 ∷ []) e d.1))
stops_at_digest faults.NotSnapshot h records digest part left is e d = absurd d
stops_at_digest faults.BadLayout h records digest part left is e d = absurd d
stops_at_digest faults.Memory h records digest part left is e d = absurd d
stops_at_digest faults.BadSlot h records digest part left is e d = absurd d

-- what is after the bytes at which reading stopped
more : (read prefix rest ys : List ℕ) → read ≡ prefix ++ rest → read ++ ys ≡ prefix ++ (rest ++ ys)
more read prefix rest ys e = ap (λ (x : List ℕ). x ++ ys) e ∙ append_assoc prefix rest ys

more_fields : (read first fields ys : List ℕ) → read ≡ first ++ (fields ++ []) → read ++ ys ≡ first ++ (fields ++ ys)
more_fields read first fields ys e =
    ap (λ (x : List ℕ). x ++ ys) (e ∙ ap (λ (x : List ℕ). first ++ x) (append-nil fields)) ∙ append_assoc first fields ys

answered : (fault : SnapshotFault) (read ys : List ℕ) → StopsReadingAt fault read (Some ys) → MayRefuse fault (read ++ ys)
answered faults.NotSnapshot read ys s = (omega (arith, length-append read ys, s.0), λ m. s.1 (subst IsMagic (take_at read ys 8 s.0) m))
answered faults.BadLayout read ys (inl s) = (ys, inl (s.0, s.1, s.2, more read (header_bytes s.0) [] ys s.3))
answered faults.BadLayout read ys (inr s) = (ys, inr (s.0, s.1, s.2, s.3, more_fields read (magic 129) (s.0 ∷ s.1) ys s.4))
answered faults.Short read ys s = subst IsUnfinished (sym (ap (λ (x : List ℕ). read ++ x) s.1 ∙ append-nil read)) s.0
answered faults.BadDigest read ys s = (ys, (s.0, s.1, s.2, s.3, s.4, s.5, more read (hashed_bytes s.0 s.1 ++ s.2) [] ys s.6))
answered faults.TrailingBytes read ys s = (s.0, ys, (s.1.0, s.1.1, s.1.2, more read (snapshot_bytes s.1.0 s.1.1) (s.0 ∷ []) ys s.1.3))
answered faults.Read read ys s = tt
answered faults.Memory read ys s = (s.0, s.1 ++ ys, (s.2.0, s.2.1, more read (header_bytes s.0) s.1 ys s.2.2))
answered faults.BadSlot read ys s = subst HasBadSlot (sym (ap (λ (x : List ℕ). read ++ x) s.1 ∙ append-nil read)) s.0

pub answers_fault : (fault : SnapshotFault) (a b : Option (List ℕ)) (read : List ℕ) → Consumes a b read → StopsReadingAt fault read b →
    IfSome a (λ bytes. MayRefuse fault bytes)
answers_fault fault None b read p s = tt
answers_fault fault (Some xs) None read p s = absurd p
answers_fault fault (Some xs) (Some ys) read p s = subst (λ (x : List ℕ). MayRefuse fault x) (sym p) (answered fault read ys s)

-- one read more that brought nothing, or that was refused memory
pub kept_more : (fault : SnapshotFault) (before part : List ℕ) (wanted : ℕ) (left : Option (List ℕ)) → length before < wanted → EndsKept 1 fault part left
    → EndsKept wanted fault (before ++ part) left
kept_more faults.Short before part wanted left lt d = (omega (arith, length-append before part, d.0), d.1)
kept_more faults.Read before part wanted left lt d = omega (arith, length-append before part)
kept_more faults.Memory before part wanted left lt d = tt
kept_more faults.BadSlot before part wanted left lt d = absurd d
kept_more faults.NotSnapshot before part wanted left lt d = absurd d
kept_more faults.BadLayout before part wanted left lt d = absurd d
kept_more faults.BadDigest before part wanted left lt d = absurd d
kept_more faults.TrailingBytes before part wanted left lt d = absurd d

-- what was read to the end is the whole input
pub whole_input : (a b : Option (List ℕ)) (read : List ℕ) → Consumes a b read → IsAtEnd b → IfSome a (λ bytes. bytes ≡ read)
whole_input None b read p e = tt
whole_input (Some xs) None read p e = absurd p
whole_input (Some xs) (Some ys) read p e = p ∙ ap (λ (x : List ℕ). read ++ x) e ∙ append-nil read

-- the end, or a failed read, in a piece that is wanted after others
pub below_more : (fault : SnapshotFault) (before part : List ℕ) (n wanted : ℕ) (left : Option (List ℕ)) → length before + n ≤ wanted →
    EndsBelow n fault part left → EndsBelow wanted fault (before ++ part) left
below_more faults.Short before part n wanted left le d = (omega (arith, length-append before part, d.0), d.1)
below_more faults.Read before part n wanted left le d = omega (arith, length-append before part, d)
below_more faults.Memory before part n wanted left le d = absurd d
below_more faults.BadSlot before part n wanted left le d = absurd d
below_more faults.NotSnapshot before part n wanted left le d = absurd d
below_more faults.BadLayout before part n wanted left le d = absurd d
below_more faults.BadDigest before part n wanted left le d = absurd d
below_more faults.TrailingBytes before part n wanted left le d = absurd d

-- the end, or a failed read, and no memory is asked for
pub kept_below : (fault : SnapshotFault) (wanted : ℕ) (part : List ℕ) (left : Option (List ℕ)) → EndsBelow wanted fault part left →
    EndsKept wanted fault part left
kept_below faults.Short wanted part left d = d
kept_below faults.Read wanted part left d = d
kept_below faults.Memory wanted part left d = absurd d
kept_below faults.BadSlot wanted part left d = absurd d
kept_below faults.NotSnapshot wanted part left d = absurd d
kept_below faults.BadLayout wanted part left d = absurd d
kept_below faults.BadDigest wanted part left d = absurd d
kept_below faults.TrailingBytes wanted part left d = absurd d
