-- That no input has two verdicts: how far it is good, stage by stage.
use Rattle.std.proofs.Common.{◌≡◌, ℕ, zero, suc, ◌+◌, ◌-◌, ◌*◌, ◌/◌, ◌<◌, ◌≤◌, List, [], ◌∷◌, ◌++◌, length, slice_index, take, true, false, Result, Ok, Err, inl, inr, refl, sym, ap, subst, ◌∙◌, append_assoc, arith}
use Rattle.std.proofs.lemmas.List.{length-append, length-take, append-nil, take_at, get_or_append_left}
use Rattle.std.proofs.lemmas.Bool.{cases_lt}
use Rattle.sha2.specs.Sha256.{sha256}
use Rattle.snapshot_file.specs.declared.snapshot.Header.{Header}
use Rattle.snapshot_file.specs.declared.snapshot.SnapshotFault.{SnapshotFault}
use Rattle.snapshot_file.specs.declared.snapshot.SnapshotFault.TheVariants as faults
use Rattle.snapshot_file.specs.Snapshots.{magic, form_bytes, fields_len, IsForm, IsWideForm, IsMagic, header_bytes, hashed_bytes, snapshot_bytes, records_len, has_slots, IsHeader, IsAccepted, IsFile, IsSnapshot}
use Rattle.snapshot_file.specs.Verdicts.{EndsInHeader, HasHeader, EndsAfterHeader, HasBadHeader, HasBadDigest, HasBadSlot, HasFile, HasSnapshotFault, IsVerdict}
use Rattle.snapshot_file.proofs.Headers.{length-header, length-magic, header_fields, header_parts}
use Rattle.snapshot_file.proofs.Unique.{tells_wide, cut_prefix, one_header, same_records, one_snapshot, length-sha256}

-- how many bytes a header has, by the fourth byte of its magic
abbrev wanted : List ℕ → ℕ
wanted bytes = 91 + (slice_index bytes 3 - 83) / 4

wanted_is : (form : ℕ) (rest bytes : List ℕ) → IsForm form → bytes ≡ magic form ++ rest → wanted bytes ≡ 8 + fields_len form
wanted_is form rest bytes is e =
    let at : slice_index bytes 3 ≡ slice_index (magic form) 3 =
    ap (λ (x : List ℕ). slice_index x 3) e ∙ get_or_append_left (magic form) rest 0 3 (omega (arith, length-magic form)) in
    let sum : slice_index bytes 3 ≡ 83 + 4 * length (form_bytes form) = at ∙ tells_wide form is in
    rw sum (omega arith)

-- so far, and no less, the input is good
abbrev Reached : ℕ → List ℕ → Type 0
Reached zero bytes = Unit {0}
Reached (suc zero) bytes = 8 ≤ length bytes
Reached (suc (suc zero)) bytes = IsMagic (take 8 bytes)
Reached (suc (suc (suc zero))) bytes = IsMagic (take 8 bytes) × (wanted bytes ≤ length bytes)
Reached (suc (suc (suc (suc zero)))) bytes = (h : Header) × (rest : List ℕ) × HasHeader bytes h rest
Reached (suc (suc (suc (suc (suc zero))))) bytes = (h : Header) × (rest : List ℕ) × HasHeader bytes h rest × (records_len h + 32 ≤ length rest)
Reached (suc (suc (suc (suc (suc (suc zero)))))) bytes = (rest : List ℕ) × HasFile bytes rest
Reached (suc (suc (suc (suc (suc (suc (suc zero))))))) bytes = HasFile bytes []
Reached (suc (suc (suc (suc (suc (suc (suc (suc zero)))))))) bytes = (h : Header) × (records : List ℕ) × IsSnapshot h records × (bytes ≡ snapshot_bytes h records)
Reached _ bytes = ⊥

record StopsAfter (n : ℕ) (bytes : List ℕ) : Type 0 where
  reached : Reached n bytes
  last : ¬ Reached (suc n) bytes

one_magic : magic 130 ≡ magic 129
unfolding magic
one_magic = refl

is_magic : (form : ℕ) (bytes : List ℕ) → IsForm form → bytes ≡ magic form → IsMagic bytes
is_magic form bytes (inl a) e = inl (e ∙ ap magic a)
is_magic form bytes (inr (inl a)) e = inr (inl (e ∙ ap magic a))
is_magic form bytes (inr (inr (inl a))) e = inr (inr (e ∙ ap magic a))
is_magic form bytes (inr (inr (inr a))) e = inr (inr (e ∙ ap magic a ∙ one_magic))

magic_len : (bytes : List ℕ) → IsMagic bytes → length bytes ≡ 8
magic_len bytes (inl e) = ap length e ∙ length-magic 1
magic_len bytes (inr (inl e)) = ap length e ∙ length-magic 2
magic_len bytes (inr (inr e)) = ap length e ∙ length-magic 129

-- what is at the beginning of a header
prefix_of_header : (h : Header) (rest bytes : List ℕ) → IsHeader h → bytes ≡ header_bytes h ++ rest → IsMagic (take 8 bytes) × (wanted bytes ≤ length bytes)
prefix_of_header h rest bytes is e =
    let fields = header_fields h is in
    let split : bytes ≡ magic h.form ++ (fields.0 ++ rest) = e ∙ ap (λ (x : List ℕ). x ++ rest) fields.1 ∙ append_assoc (magic h.form) fields.0 rest in
    let len = length-header h is in (
      is_magic h.form (take 8 bytes) is.form (ap (take 8) split ∙ take_at (magic h.form) (fields.0 ++ rest) 8 (length-magic h.form)),
      omega (arith, ap length e, length-append (header_bytes h) rest, wanted_is h.form (fields.0 ++ rest) bytes is.form split),
    )

-- a snapshot has a header, and enough bytes after it
rest_of_snapshot : (bytes end : List ℕ) → HasFile bytes end → (h : Header) × (rest : List ℕ) × HasHeader bytes h rest × (records_len h + 32 ≤ length rest)
rest_of_snapshot bytes end p =
    let digest : List ℕ = sha256 (hashed_bytes p.0 p.1) in
    let e : bytes ≡ header_bytes p.0 ++ (p.1 ++ (sha256 (hashed_bytes p.0 p.1) ++ end)) =
    p.3 ∙ append_assoc (hashed_bytes p.0 p.1) (sha256 (hashed_bytes p.0 p.1)) end
    ∙ append_assoc (header_bytes p.0) p.1 (sha256 (hashed_bytes p.0 p.1) ++ end) in
    let len = length-sha256 (hashed_bytes p.0 p.1) in (
      p.0,
      p.1 ++ (sha256 (hashed_bytes p.0 p.1) ++ end),
      (p.2.header, p.2.accepted, e),
      omega (arith, length-append p.1 (sha256 (hashed_bytes p.0 p.1) ++ end), length-append (sha256 (hashed_bytes p.0 p.1)) end, p.2.len),
    )

back : (n : ℕ) (bytes : List ℕ) → Reached (suc n) bytes → Reached n bytes
back zero bytes p = tt
back (suc zero) bytes p = omega (arith, length-take 8 bytes, magic_len (take 8 bytes) p)
back (suc (suc zero)) bytes p = p.0
back (suc (suc (suc zero))) bytes p = prefix_of_header p.0 p.1 bytes p.2.0 p.2.2
back (suc (suc (suc (suc zero)))) bytes p = (p.0, p.1, p.2)
back (suc (suc (suc (suc (suc zero))))) bytes p = rest_of_snapshot bytes p.0 p.1
back (suc (suc (suc (suc (suc (suc zero)))))) bytes p = ([], p)
back (suc (suc (suc (suc (suc (suc (suc zero))))))) bytes p = (p.0, p.1, p.2.file, p.3 ∙ sym (append-nil (snapshot_bytes p.0 p.1)))
back _ bytes p = absurd p

-- ---- each verdict ends at one stage

down : (d n : ℕ) (bytes : List ℕ) → Reached (d + n) bytes → Reached n bytes
down zero n bytes p = subst (λ (m : ℕ). Reached m bytes) (omega arith) p
down (suc d) n bytes p =
    let e : suc d + n ≡ suc (d + n) = omega arith in
    down d n bytes (back (d + n) bytes (subst (λ (m : ℕ). Reached m bytes) e p))

not_before : (n m : ℕ) (bytes : List ℕ) → StopsAfter n bytes → StopsAfter m bytes → n < m → ⊥
not_before n m bytes a b lt =
    let e : m ≡ (m - suc n) + suc n = omega arith in
    a.last (down (m - suc n) (suc n) bytes (subst (λ (k : ℕ). Reached k bytes) e b.reached))

one_stage : (n m : ℕ) (bytes : List ℕ) → StopsAfter n bytes → StopsAfter m bytes → n ≡ m
one_stage n m bytes a b =
    elim (cases_lt n m) [
      | inl lt ↦ absurd (not_before n m bytes a b lt)
      | inr le ↦ elim (cases_lt m n) [ inl lt ↦ absurd (not_before m n bytes b a lt) | inr ge ↦ omega arith ]
    ]

-- the fault of the stage that is not reached
abbrev fault_after : ℕ → SnapshotFault
fault_after zero = faults.Short
fault_after (suc zero) = faults.NotSnapshot
fault_after (suc (suc zero)) = faults.Short
fault_after (suc (suc (suc zero))) = faults.BadLayout
fault_after (suc (suc (suc (suc zero)))) = faults.Short
fault_after (suc (suc (suc (suc (suc zero))))) = faults.BadDigest
fault_after (suc (suc (suc (suc (suc (suc zero)))))) = faults.TrailingBytes
fault_after _ = faults.BadSlot

ends_in_header : (bytes : List ℕ) → EndsInHeader bytes → StopsAfter 2 bytes
ends_in_header bytes p = record {
  reached = is_magic p.0 (take 8 bytes) p.2 (ap (take 8) p.3 ∙ take_at (magic p.0) p.1 8 (length-magic p.0));
  last = λ q. absurd (omega (arith, ap length p.3, length-append (magic p.0) p.1, length-magic p.0, p.4, q.1, wanted_is p.0 p.1 bytes p.2 p.3));
}

wide_len : fields_len 129 ≡ 84
unfolding form_bytes
wide_len = refl

-- the form that a header names after a wide magic is a wide one
wide_form : (form : ℕ) (first : ℕ) (rest other : List ℕ) → IsForm form → magic form ≡ magic 129 → form_bytes form ++ rest ≡ first ∷ other → IsWideForm first
unfolding magic form_bytes
wide_form form first rest other (inl a) m e = absurd (omega (arith, ap (λ (x : List ℕ). slice_index x 3) (sym (ap magic a) ∙ m)))
wide_form form first rest other (inr (inl a)) m e = absurd (omega (arith, ap (λ (x : List ℕ). slice_index x 3) (sym (ap magic a) ∙ m)))
wide_form form first rest other (inr (inr (inl a))) m e =
    inl (sym (ap (λ (x : List ℕ). slice_index x 0) (sym (ap (λ (f : ℕ). form_bytes f ++ rest) a) ∙ e)))
wide_form form first rest other (inr (inr (inr a))) m e =
    inr (sym (ap (λ (x : List ℕ). slice_index x 0) (sym (ap (λ (f : ℕ). form_bytes f ++ rest) a) ∙ e)))

wide_named : (h : Header) (left : List ℕ) (form : ℕ) (fields rest bytes : List ℕ) → IsHeader h → bytes ≡ header_bytes h ++ left →
    bytes ≡ magic 129 ++ ((form ∷ fields) ++ rest) → IsWideForm form
wide_named h left form fields rest bytes is e w =
    let f = header_parts h is in
    let whole : magic h.form ++ ((form_bytes h.form ++ f.0) ++ left) ≡ magic 129 ++ ((form ∷ fields) ++ rest) =
    sym (e ∙ ap (λ (x : List ℕ). x ++ left) f.1 ∙ append_assoc (magic h.form) (form_bytes h.form ++ f.0) left) ∙ w in
    let cut = cut_prefix (magic h.form) (magic 129) ((form_bytes h.form ++ f.0) ++ left) ((form ∷ fields) ++ rest) (length-magic h.form ∙ sym (length-magic 129)) whole in
    wide_form h.form form (f.0 ++ left) (fields ++ rest) is.form cut.0 (sym (append_assoc (form_bytes h.form) f.0 left) ∙ cut.1)

bad_header : (bytes rest : List ℕ) → HasBadHeader bytes rest → StopsAfter 3 bytes
bad_header bytes rest (inl p) = record {
  reached = prefix_of_header p.0 rest bytes p.1 p.3;
  last = λ q. p.2 (subst IsAccepted (one_header q.0 p.0 q.1 rest q.2.0 p.1 (sym q.2.2 ∙ p.3)).0 q.2.1);
}
bad_header bytes rest (inr p) =
    let one : IsForm 129 = inr (inr (inl refl)) in
    let len : length ((p.0 ∷ p.1) ++ rest) ≡ 84 + length rest = omega (arith, length-append (p.0 ∷ p.1) rest, p.3) in
    record {
      reached = (
        is_magic 129 (take 8 bytes) one (ap (take 8) p.4 ∙ take_at (magic 129) ((p.0 ∷ p.1) ++ rest) 8 (length-magic 129)),
        omega (
          arith,
          ap length p.4,
          length-append (magic 129) ((p.0 ∷ p.1) ++ rest),
          length-magic 129,
          len,
          wanted_is 129 ((p.0 ∷ p.1) ++ rest) bytes one p.4,
          wide_len,
        ),
      );
      last = λ q. p.2 (wide_named q.0 q.1 p.0 p.1 rest bytes q.2.0 q.2.2 p.4);
    }

ends_after : (bytes : List ℕ) → EndsAfterHeader bytes → StopsAfter 4 bytes
ends_after bytes p = record {
  reached = (p.0, p.1, p.2);
  last = λ q. absurd (
      let same = one_header q.0 p.0 q.1 p.1 q.2.0 p.2.0 (sym q.2.2 ∙ p.2.2) in
      omega (arith, ap records_len same.0, ap length same.1, p.3, q.3));
}

-- after the same header and records there is the same digest
digest_of_snapshot : (bytes digest rest end : List ℕ) (h : Header) (records : List ℕ) → IsFile h records → length digest ≡ 32
    → bytes ≡ hashed_bytes h records ++ (digest ++ rest) → HasFile bytes end → digest ≡ sha256 (hashed_bytes h records)
digest_of_snapshot bytes digest rest end h records is len e q =
    let whole : hashed_bytes q.0 q.1 ++ (sha256 (hashed_bytes q.0 q.1) ++ end) ≡ hashed_bytes h records ++ (digest ++ rest) =
    sym (q.3 ∙ append_assoc (hashed_bytes q.0 q.1) (sha256 (hashed_bytes q.0 q.1)) end) ∙ e in
    let same = same_records q.0 h q.1 records (sha256 (hashed_bytes q.0 q.1) ++ end) (digest ++ rest) q.2 is whole in
    let cut = cut_prefix (sha256 (hashed_bytes q.0 q.1)) digest end rest (length-sha256 (hashed_bytes q.0 q.1) ∙ sym len) same.2 in
    sym cut.0 ∙ (λ i. sha256 (hashed_bytes (same.0 i) (same.1 i)))

bad_digest : (bytes rest : List ℕ) → HasBadDigest bytes rest → StopsAfter 5 bytes
bad_digest bytes rest p =
    let apart : bytes ≡ hashed_bytes p.0 p.1 ++ (p.2 ++ rest) = p.6 ∙ append_assoc (hashed_bytes p.0 p.1) p.2 rest in
    let room : records_len p.0 + 32 ≤ length (p.1 ++ (p.2 ++ rest)) = omega (arith, length-append p.1 (p.2 ++ rest), length-append p.2 rest, p.3.len, p.4) in
    record {
      reached = (p.0, p.1 ++ (p.2 ++ rest), (p.3.header, p.3.accepted, apart ∙ append_assoc (header_bytes p.0) p.1 (p.2 ++ rest)), room);
      last = λ q. p.5 (digest_of_snapshot bytes p.2 rest q.0 p.0 p.1 p.3 p.4 apart q.1);
    }

trailing : (b : ℕ) (bytes rest : List ℕ) → HasFile bytes (b ∷ rest) → StopsAfter 6 bytes
trailing b bytes rest p = record {
  reached = (b ∷ rest, p);
  last = λ q.
      let same = one_snapshot p.0 q.0 p.1 q.1 (b ∷ rest) [] p.2 q.2 (sym p.3 ∙ q.3) in
      let none : b ∷ rest ≡ [] = same.2 in cc;
}

bad_slot : (bytes : List ℕ) → HasBadSlot bytes → StopsAfter 7 bytes
bad_slot bytes p = record {
  reached = (p.0, p.1, p.2, p.4 ∙ sym (append-nil (snapshot_bytes p.0 p.1)));
  last = λ q.
      let same = one_snapshot p.0 q.0 p.1 q.1 [] [] p.2 q.2.file (ap (λ (x : List ℕ). x ++ []) (sym p.4 ∙ q.3)) in
      let good : has_slots p.0 p.1 ≡ true = (λ i. has_slots (same.0 i) (same.1 i)) ∙ q.2.slots in
      let no : false ≡ true = sym p.3 ∙ good in cc;
}

record FaultStage (fault : SnapshotFault) (bytes : List ℕ) : Type 0 where
  stage : ℕ
  early : stage < 8
  stops : StopsAfter stage bytes
  is : fault ≡ fault_after stage

stage_of_fault : (fault : SnapshotFault) (bytes : List ℕ) → HasSnapshotFault fault bytes → FaultStage fault bytes
stage_of_fault faults.NotSnapshot bytes p = record { stage = 1; early = omega arith; stops = record { reached = p.0; last = p.1 }; is = refl }
stage_of_fault faults.BadLayout bytes p = record { stage = 3; early = omega arith; stops = bad_header bytes p.0 p.1; is = refl }
stage_of_fault faults.Short bytes (inl p) = record {
  stage = 0;
  early = omega arith;
  stops = record { reached = tt; last = λ q. absurd (omega arith) };
  is =
      refl;
}
stage_of_fault faults.Short bytes (inr (inl p)) = record { stage = 2; early = omega arith; stops = ends_in_header bytes p; is = refl }
stage_of_fault faults.Short bytes (inr (inr p)) = record { stage = 4; early = omega arith; stops = ends_after bytes p; is = refl }
stage_of_fault faults.BadDigest bytes p = record { stage = 5; early = omega arith; stops = bad_digest bytes p.0 p.1; is = refl }
stage_of_fault faults.TrailingBytes bytes p = record { stage = 6; early = omega arith; stops = trailing p.0 bytes p.1 p.2; is = refl }
stage_of_fault faults.BadSlot bytes p = record { stage = 7; early = omega arith; stops = bad_slot bytes p; is = refl }
stage_of_fault faults.Read bytes p = absurd p
stage_of_fault faults.Memory bytes p = absurd p

not_both : (h : Header) (records bytes : List ℕ) (fault : SnapshotFault) → IsSnapshot h records → bytes ≡ snapshot_bytes h records →
    HasSnapshotFault fault bytes → ⊥
not_both h records bytes fault is e p =
    let s = stage_of_fault fault bytes p in
    let whole : StopsAfter 8 bytes = record { reached = (h, records, is, e); last = λ q. q } in
    not_before s.stage 8 bytes s.stops whole s.early

pub one_verdict : (bytes : List ℕ) (v w : Result (Header × List ℕ) SnapshotFault) → IsVerdict bytes v → IsVerdict bytes w → v ≡ w
one_verdict bytes (Ok s) (Ok t) p q =
    let e : snapshot_bytes s.0 s.1 ++ [] ≡ snapshot_bytes t.0 t.1 ++ [] = ap (λ (x : List ℕ). x ++ []) (sym p.1 ∙ q.1) in
    let same = one_snapshot s.0 t.0 s.1 t.1 [] [] p.0.file q.0.file e in
    λ i. Ok (same.0 i, same.1 i)
one_verdict bytes (Ok s) (Err g) p q = absurd (not_both s.0 s.1 bytes g p.0 p.1 q)
one_verdict bytes (Err f) (Ok t) p q = absurd (not_both t.0 t.1 bytes f q.0 q.1 p)
one_verdict bytes (Err f) (Err g) p q =
    let a = stage_of_fault f bytes p in
    let b = stage_of_fault g bytes q in
    let n : a.stage ≡ b.stage = one_stage a.stage b.stage bytes a.stops b.stops in
    let e : f ≡ g = a.is ∙ ap fault_after n ∙ sym b.is in
    ap (λ (x : SnapshotFault). Err x) e
