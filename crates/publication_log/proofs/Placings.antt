-- Changes, and the one way in which bytes are changes.
use Rattle.std.proofs.Common.{◌≡◌, ◌⊎◌, inl, inr, ℕ, ◌+◌, ◌^◌, ◌<◌, ◌≤◌, List, [], ◌∷◌, ◌++◌, length, take, drop, refl, sym, ap, subst, ◌∙◌, append_assoc, append-nil, arith}
use Rattle.std.proofs.Math.Seq.{take-add}
use Rattle.std.proofs.lemmas.List.{length-append, length-drop, take-append-drop, drop_at, drop-drop}
use Rattle.byteorder.specs.Endian.{little_number}
use Rattle.publication_log.specs.declared.changes.BodyFault.{BodyFault}
use Rattle.publication_log.specs.declared.changes.BodyFault.TheVariants.{Short, NotAscending}
use Rattle.publication_log.specs.Publications.{Placed, Published, log_number_bytes, placed_bytes, changes_bytes, body_bytes, next_place, IsPlaced, AreChanges, IsPublished, IsCutShort, HasChangesFault, IsFaultyAfterVersion, HasBodyFault}
use Rattle.publication_log.proofs.Numbers.{IsBytes, IsBytes-drop, number_read, number_back, length-number, cut_prefix, one_number}

pub length-placed : (c : Placed) → length (placed_bytes c) ≡ length c.bytes + 6
length-placed c =
    omega (arith, length-append (log_number_bytes 4 c.place) (log_number_bytes 2 (length c.bytes) ++ c.bytes), length-append (log_number_bytes 2 (length c.bytes)) c.bytes, length-number 4 c.place, length-number 2 (length c.bytes))

-- a change and what follows, taken apart
pub placed_parts : (c : Placed) (more : List ℕ) → placed_bytes c ++ more ≡ log_number_bytes 4 c.place ++ (log_number_bytes 2 (length c.bytes) ++ (c.bytes ++ more))
placed_parts c more =
    append_assoc (log_number_bytes 4 c.place) (log_number_bytes 2 (length c.bytes) ++ c.bytes) more
    ∙ ap (λ (x : List ℕ). log_number_bytes 4 c.place ++ x) (append_assoc (log_number_bytes 2 (length c.bytes)) c.bytes more)

-- changes of one place and the same bytes are one
same_placed : (c d : Placed) → c.place ≡ d.place → c.bytes ≡ d.bytes → c ≡ d
same_placed c d p b =
    let made : ℕ → List ℕ → Placed = λ (x : ℕ) (y : List ℕ). record { place = x; bytes = y } in
    ap (λ (x : ℕ). made x c.bytes) p ∙ ap (λ (y : List ℕ). made d.place y) b

-- no two changes are at one place
pub one_placed : (c d : Placed) (x y : List ℕ) → IsPlaced c → IsPlaced d → placed_bytes c ++ x ≡ placed_bytes d ++ y → (c ≡ d) × (x ≡ y)
one_placed c d x y ic id e =
    let all = sym (placed_parts c x) ∙ e ∙ placed_parts d y in
    let first = cut_prefix (log_number_bytes 4 c.place) (log_number_bytes 4 d.place) _ _ (length-number 4 c.place ∙ sym (length-number 4 d.place)) all in
    let second = cut_prefix (log_number_bytes 2 (length c.bytes)) (log_number_bytes 2 (length d.bytes)) (c.bytes ++ x) (d.bytes ++ y) (length-number 2 (length c.bytes) ∙ sym (length-number 2 (length d.bytes))) first.1 in
    let len : length c.bytes ≡ length d.bytes = one_number 2 (length c.bytes) (length d.bytes) ic.len id.len second.0 in
    let third = cut_prefix c.bytes d.bytes x y len second.1 in
    (same_placed c d (one_number 4 c.place d.place ic.place id.place first.0) third.0, third.1)

-- what was taken apart is a change
pub placed_joined : (bytes after payload rest : List ℕ) (place len : ℕ) → IsBytes bytes → 6 ≤ length bytes → place ≡ little_number 4 bytes → len ≡ little_number 2 (drop 4 bytes)
    → after ≡ drop 6 bytes → payload ≡ take len after → rest ≡ drop len after → length payload ≡ len
    → bytes ≡ placed_bytes (record { place = place; bytes = payload }) ++ rest
placed_joined bytes after payload rest place len fits long p l h1 h2 h3 count =
    let first : log_number_bytes 4 place ≡ take 4 bytes = number_read 4 place bytes fits (omega (arith, long)) p in
    let second : log_number_bytes 2 (length payload) ≡ take 2 (drop 4 bytes) =
    number_read 2 (length payload) (drop 4 bytes) (IsBytes-drop 4 bytes fits) (omega (arith, long, length-drop 4 bytes)) (count ∙ l) in
    let third : after ≡ payload ++ rest = sym (take-append-drop len after) ∙ ap (λ (x : List ℕ). x ++ drop len after) (sym h2) ∙ ap (λ (x : List ℕ). payload ++ x) (sym h3) in
    let beyond : drop 2 (drop 4 bytes) ≡ payload ++ rest = drop-drop 2 4 bytes ∙ sym h1 ∙ third in
    let middle : drop 4 bytes ≡ log_number_bytes 2 (length payload) ++ (payload ++ rest) =
    sym (take-append-drop 2 (drop 4 bytes)) ∙ ap (λ (x : List ℕ). x ++ drop 2 (drop 4 bytes)) (sym second) ∙ ap (λ (x : List ℕ). log_number_bytes 2 (length payload) ++ x) beyond in
    sym (take-append-drop 4 bytes)
    ∙ ap (λ (x : List ℕ). x ++ drop 4 bytes) (sym first)
    ∙ ap (λ (x : List ℕ). log_number_bytes 4 place ++ x) middle
    ∙ sym (placed_parts (record { place = place; bytes = payload }) rest)

-- the length that is read is that of the record
pub placed_len : (bytes more : List ℕ) (c : Placed) → IsPlaced c → bytes ≡ placed_bytes c ++ more → (little_number 2 (drop 4 bytes) ≡ length c.bytes) × (length bytes ≡ length c.bytes + 6 + length more)
placed_len bytes more c is e =
    let all : bytes ≡ log_number_bytes 4 c.place ++ (log_number_bytes 2 (length c.bytes) ++ (c.bytes ++ more)) = e ∙ placed_parts c more in (
      ap (λ (x : List ℕ). little_number 2 (drop 4 x)) all
          ∙ ap (little_number 2) (drop_at (log_number_bytes 4 c.place) (log_number_bytes 2 (length c.bytes) ++ (c.bytes ++ more)) 4 (length-number 4 c.place))
          ∙ number_back 2 (length c.bytes) (c.bytes ++ more) is.len,
      omega (arith, ap length e, length-append (placed_bytes c) more, length-placed c),
    )

-- one more change at the end
pub changes_push : (cs : List Placed) (c : Placed) → changes_bytes (cs ++ c ∷ []) ≡ changes_bytes cs ++ placed_bytes c
changes_push [] c = append-nil (placed_bytes c)
changes_push (b ∷ bs) c = ap (λ (x : List ℕ). placed_bytes b ++ x) (changes_push bs c) ∙ sym (append_assoc (placed_bytes b) (changes_bytes bs) (placed_bytes c))

pub are_push : (low : ℕ) (cs : List Placed) (c : Placed) → AreChanges low cs → IsPlaced c → next_place low cs ≤ c.place → AreChanges low (cs ++ c ∷ [])
are_push low [] c are is le = (is, le, tt)
are_push low (b ∷ bs) c are is le = (are.0, are.1, are_push (b.place + 1) bs c are.2 is le)

pub next_push : (low : ℕ) (cs : List Placed) (c : Placed) → next_place low (cs ++ c ∷ []) ≡ c.place + 1
next_push low [] c = refl
next_push low (b ∷ bs) c = next_push (b.place + 1) bs c

-- a change is no nothing
no_end : (c : Placed) (rest : List ℕ) → placed_bytes c ++ rest ≡ [] → ⊥
no_end c rest e = absurd (omega (arith, ap length e, length-append (placed_bytes c) rest, length-placed c))

-- the same bytes are the same changes
pub one_changes : (low high : ℕ) (cs ds : List Placed) → AreChanges low cs → AreChanges high ds → changes_bytes cs ≡ changes_bytes ds → cs ≡ ds
one_changes low high [] [] ic id e = refl
one_changes low high [] (d ∷ ds) ic id e = absurd (no_end d (changes_bytes ds) (sym e))
one_changes low high (c ∷ cs) [] ic id e = absurd (no_end c (changes_bytes cs) e)
one_changes low high (c ∷ cs) (d ∷ ds) ic id e =
    let same = one_placed c d (changes_bytes cs) (changes_bytes ds) ic.0 id.0 e in
    ap (λ (x : Placed). x ∷ cs) same.0 ∙ ap (λ (xs : List Placed). d ∷ xs) (one_changes (c.place + 1) (d.place + 1) cs ds ic.2 id.2 same.1)

-- bytes that end within a change are no changes
stuck_short : (low high : ℕ) (cs ds : List Placed) (rest : List ℕ) → AreChanges low cs → AreChanges high ds → changes_bytes cs ++ rest ≡ changes_bytes ds → 0 < length rest → IsCutShort rest → ⊥
stuck_short low high [] [] rest ic id e some short = absurd (omega (arith, ap length e, some))
stuck_short low high [] (d ∷ ds) rest ic id e some short = short d (changes_bytes ds) id.0 e
stuck_short low high (c ∷ cs) [] rest ic id e some short = no_end c (changes_bytes cs ++ rest) (sym (append_assoc (placed_bytes c) (changes_bytes cs) rest) ∙ e)
stuck_short low high (c ∷ cs) (d ∷ ds) rest ic id e some short =
    let same = one_placed c d (changes_bytes cs ++ rest) (changes_bytes ds) ic.0 id.0 (sym (append_assoc (placed_bytes c) (changes_bytes cs) rest) ∙ e) in
    stuck_short (c.place + 1) (d.place + 1) cs ds rest ic.2 id.2 same.1 some short

-- nor are bytes in which a place does not ascend
stuck_low : (low : ℕ) (cs ds : List Placed) (c : Placed) (rest : List ℕ) → AreChanges low cs → AreChanges low ds → changes_bytes cs ++ (placed_bytes c ++ rest) ≡ changes_bytes ds → IsPlaced c →
    c.place < next_place low cs → ⊥
stuck_low low [] [] c rest ic id e is lt = no_end c rest e
stuck_low low [] (d ∷ ds) c rest ic id e is lt =
    let same = one_placed c d rest (changes_bytes ds) is id.0 e in
    absurd (omega (arith, ap (λ (x : Placed). x.place) same.0, id.1, lt))
stuck_low low (b ∷ bs) [] c rest ic id e is lt =
    no_end b (changes_bytes bs ++ (placed_bytes c ++ rest)) (sym (append_assoc (placed_bytes b) (changes_bytes bs) (placed_bytes c ++ rest)) ∙ e)
stuck_low low (b ∷ bs) (d ∷ ds) c rest ic id e is lt =
    let same = one_placed b d (changes_bytes bs ++ (placed_bytes c ++ rest)) (changes_bytes ds) ic.0 id.0 (sym (append_assoc (placed_bytes b) (changes_bytes bs) (placed_bytes c ++ rest)) ∙ e) in
    stuck_low (b.place + 1) bs ds c rest ic.2 (subst (λ (x : Placed). AreChanges (x.place + 1) ds) (sym same.0) id.2) same.1 is lt

pub length-body : (p : Published) → length (body_bytes p) ≡ length (changes_bytes p.changes) + 8
length-body p = omega (arith, length-append (log_number_bytes 8 p.version) (changes_bytes p.changes), length-number 8 p.version)

-- bytes with a fault are no publication's
pub fault_is_none : (fault : BodyFault) (body : List ℕ) (p : Published) → HasBodyFault fault body → IsPublished p → body ≡ body_bytes p → ⊥
fault_is_none Short body p (inl lt) is e = absurd (omega (arith, lt, ap length e, length-body p))
fault_is_none Short body p (inr (version, rest, fits, e1, (cs, more, each, e2, some, short))) is e =
    let same = cut_prefix (log_number_bytes 8 version) (log_number_bytes 8 p.version) rest (changes_bytes p.changes) (length-number 8 version ∙ sym (length-number 8 p.version)) (sym e1 ∙ e) in
    stuck_short 0 0 cs p.changes more each is.changes (sym e2 ∙ same.1) some short
fault_is_none NotAscending body p (version, rest, fits, e1, (cs, c, more, each, e2, placed, lt)) is e =
    let same = cut_prefix (log_number_bytes 8 version) (log_number_bytes 8 p.version) rest (changes_bytes p.changes) (length-number 8 version ∙ sym (length-number 8 p.version)) (sym e1 ∙ e) in
    stuck_low 0 cs p.changes c more each is.changes (sym e2 ∙ same.1) placed lt

-- a fault after the version is one of the body
pub body_fault : (fault : BodyFault) (body : List ℕ) → IsFaultyAfterVersion fault body → HasBodyFault fault body
body_fault Short body h = inr h
body_fault NotAscending body h = h

-- one more change at the end of a body
pub body_push : (p : Published) (c : Placed) → body_bytes p ++ placed_bytes c ≡ log_number_bytes 8 p.version ++ changes_bytes (p.changes ++ c ∷ [])
body_push p c = append_assoc (log_number_bytes 8 p.version) (changes_bytes p.changes) (placed_bytes c) ∙ ap (λ (x : List ℕ). log_number_bytes 8 p.version ++ x) (sym (changes_push p.changes c))

same_published : (p q : Published) → p.version ≡ q.version → p.changes ≡ q.changes → p ≡ q
same_published p q v c =
    let made : ℕ → List Placed → Published = λ (x : ℕ) (y : List Placed). record { version = x; changes = y } in
    ap (λ (x : ℕ). made x p.changes) v ∙ ap (λ (y : List Placed). made q.version y) c

-- no two publications have the same bytes
pub one_body : (p q : Published) → IsPublished p → IsPublished q → body_bytes p ≡ body_bytes q → p ≡ q
one_body p q ip iq e =
    let same = cut_prefix (log_number_bytes 8 p.version) (log_number_bytes 8 q.version) (changes_bytes p.changes) (changes_bytes q.changes) (length-number 8 p.version ∙ sym (length-number 8 q.version)) e in
    same_published p q (one_number 8 p.version q.version ip.version iq.version same.0) (one_changes 0 0 p.changes q.changes ip.changes iq.changes same.1)
