-- A piece is read in one way.
use Rattle.std.proofs.Common.{◌≡◌, ◌≢◌, ◌⊎◌, ℕ, Bool, true, false, List, [], ◌∷◌, ◌++◌, Result, Ok, Err, Option, Some, None, refl, sym, ap, subst, ◌∙◌, arith, inl, inr}
use Rattle.std.specs.List.{flat_map, AllByRecursion}
use Rattle.frame_codec.specs.declared.frame.Frame.{Frame}
use Rattle.frame_codec.specs.declared.reader.ReadFault.{ReadFault}
use Rattle.frame_codec.specs.declared.reader.ReadFault.TheVariants.{TooLong, UnknownKind, BadPayload, Memory, Failed}
use Rattle.frame_codec.specs.Frames.{encoding}
use Rattle.frame_codec.specs.Streams.{IsFrameOf, HasFrame, HasFault, StopsAt, Begins, Feeds, is_kind, kind_at}
use Rattle.frame_codec.specs.Laws.{OneFault, FeedsDecide, FeedsBegin, FeedsAgree}
use Rattle.frame_codec.proofs.Unique.{one_encoding, one_prefix, one_reading, fault_of_frame, regroup}

-- ---- faults

both_kinds : (wide : Bool) {P : Type 0} (bytes : List ℕ) → is_kind wide (kind_at bytes) ≡ true → is_kind wide (kind_at bytes) ≡ false → P
both_kinds wide bytes a b = absurd (let bad : true ≡ false = sym a ∙ b in cc)

pub one_fault : OneFault
one_fault wide TooLong TooLong bytes a b = refl
one_fault wide TooLong UnknownKind bytes a b = absurd (omega (arith, a.1, b.1))
one_fault wide TooLong BadPayload bytes a b = absurd (omega (arith, a.1, b.1))
one_fault wide TooLong Memory bytes a b = absurd b
one_fault wide TooLong Failed bytes a b = absurd b
one_fault wide UnknownKind TooLong bytes a b = absurd (omega (arith, a.1, b.1))
one_fault wide UnknownKind UnknownKind bytes a b = refl
one_fault wide UnknownKind BadPayload bytes a b = both_kinds wide bytes b.2 a.2
one_fault wide UnknownKind Memory bytes a b = absurd b
one_fault wide UnknownKind Failed bytes a b = absurd b
one_fault wide BadPayload TooLong bytes a b = absurd (omega (arith, a.1, b.1))
one_fault wide BadPayload UnknownKind bytes a b = both_kinds wide bytes a.2 b.2
one_fault wide BadPayload BadPayload bytes a b = refl
one_fault wide BadPayload Memory bytes a b = absurd b
one_fault wide BadPayload Failed bytes a b = absurd b
one_fault wide Memory other bytes a b = absurd a
one_fault wide Failed other bytes a b = absurd a

-- an answer that isn't refused memory
abbrev IsClear : Result (Unit {0}) ReadFault → Type 0
IsClear answer = answer ≢ Err Memory

-- what stops a reader is a fault of the bytes or refused memory
fault_stands : (wide : Bool) (fault : ReadFault) (bytes : List ℕ) → IsClear (Err fault) → StopsAt wide fault bytes → HasFault wide fault bytes
fault_stands wide TooLong bytes clear h = h
fault_stands wide UnknownKind bytes clear h = h
fault_stands wide BadPayload bytes clear h = h
fault_stands wide Memory bytes clear h = absurd (clear refl)
fault_stands wide Failed bytes clear h = h

-- ---- if memory isn't refused

-- what is left where a piece's frames end has no frame at its beginning
ends_without : (wide : Bool) (old : List ℕ) (piece : List ℕ) (answer : Result (Unit {0}) ReadFault) (frames : List Frame) (new : Option (List ℕ)) →
    Feeds wide (Some old) piece answer frames new → answer ≢ Err Memory
    → (rest : List ℕ) × Begins wide (old ++ piece) frames rest × (HasFrame wide rest → ⊥)
ends_without wide old piece (Ok done) frames new f clear = (f.0, f.1.begins, f.1.partial.no_frame)
ends_without wide old piece (Err fault) frames new f clear = (f.0.0, f.0.1, fault_of_frame wide fault f.0.0 (fault_stands wide fault f.0.0 clear f.0.2))

failed_alike : (a b : Result (Unit {0}) ReadFault) (fs gs : List Frame) (u v : Option (List ℕ)) → (a ≡ Err Failed) × (fs ≡ []) × (u ≡ None) →
    (b ≡ Err Failed) × (gs ≡ []) × (v ≡ None) → (a ≡ b) × (fs ≡ gs) × (u ≡ v)
failed_alike a b fs gs u v f g = (f.0 ∙ sym g.0, f.1 ∙ sym g.1, f.2 ∙ sym g.2)

pub feeds_decide : FeedsDecide
feeds_decide wide None piece answer other frames others new end f g clear pure = failed_alike answer other frames others new end f g
feeds_decide wide (Some old) piece (Ok a) (Ok b) frames others new end f g clear pure =
    let e = one_reading wide (old ++ piece) frames others f.0 g.0 f.1.begins g.1.begins f.1.partial.no_frame g.1.partial.no_frame in
    (refl, e.0, f.2 ∙ ap (λ (x : List ℕ). Some x) e.1 ∙ sym g.2)
feeds_decide wide (Some old) piece (Ok a) (Err other) frames others new end f g clear pure =
    let h : HasFault wide other g.0.0 = fault_stands wide other g.0.0 pure g.0.2 in
    let e = one_reading wide (old ++ piece) frames others f.0 g.0.0 f.1.begins g.0.1 f.1.partial.no_frame (fault_of_frame wide other g.0.0 h) in
    absurd (f.1.partial.no_fault other (subst (HasFault wide other) (sym e.1) h))
feeds_decide wide (Some old) piece (Err fault) (Ok b) frames others new end f g clear pure =
    let h : HasFault wide fault f.0.0 = fault_stands wide fault f.0.0 clear f.0.2 in
    let e = one_reading wide (old ++ piece) frames others f.0.0 g.0 f.0.1 g.1.begins (fault_of_frame wide fault f.0.0 h) g.1.partial.no_frame in
    absurd (g.1.partial.no_fault fault (subst (HasFault wide fault) e.1 h))
feeds_decide wide (Some old) piece (Err fault) (Err other) frames others new end f g clear pure =
    let h : HasFault wide fault f.0.0 = fault_stands wide fault f.0.0 clear f.0.2 in
    let k : HasFault wide other g.0.0 = fault_stands wide other g.0.0 pure g.0.2 in
    let e = one_reading wide (old ++ piece) frames others f.0.0 g.0.0 f.0.1 g.0.1 (fault_of_frame wide fault f.0.0 h) (fault_of_frame wide other g.0.0 k) in
    let same : fault ≡ other = one_fault wide fault other f.0.0 h (subst (HasFault wide other) (sym e.1) k) in
    (ap (λ (x : ReadFault). Err x) same, e.0, f.1 ∙ sym g.1)

-- ---- if it may be refused

-- what comes before the end of a piece
pub some_begin : (wide : Bool) (old piece : List ℕ) (answer : Result (Unit {0}) ReadFault) (frames : List Frame) (new : Option (List ℕ)) →
    Feeds wide (Some old) piece answer frames new → (rest : List ℕ) × Begins wide (old ++ piece) frames rest
some_begin wide old piece (Ok done) frames new f = (f.0, f.1.begins)
some_begin wide old piece (Err fault) frames new f = (f.0.0, f.0.1)

pub feeds_begin : FeedsBegin
feeds_begin wide None piece answer other frames others new end f g clear = ([], rw (f.1, g.1) refl)
feeds_begin wide (Some old) piece answer other frames others new end f g clear =
    let a = ends_without wide old piece answer frames new f clear in
    let b = some_begin wide old piece other others end g in
    let m = one_prefix wide others frames b.0 a.0 b.1.each a.1.each (sym b.1.whole ∙ a.1.whole) a.2 in
    (m.0, m.1)

-- of two beginnings of one stream the shorter begins the other
either_prefix : (wide : Bool) (fs gs : List Frame) (r s : List ℕ) → AllByRecursion (IsFrameOf wide) fs → AllByRecursion (IsFrameOf wide) gs →
    flat_map encoding fs ++ r ≡ flat_map encoding gs ++ s
    → ((more : List Frame) × (fs ≡ gs ++ more)) ⊎ ((more : List Frame) × (gs ≡ fs ++ more))
either_prefix wide [] gs r s ff gg e = inr (gs, refl)
either_prefix wide (f ∷ fs) [] r s ff gg e = inl (f ∷ fs, refl)
either_prefix wide (f ∷ fs) (g ∷ gs) r s ff gg e =
    let one = one_encoding f g (flat_map encoding fs ++ r) (flat_map encoding gs ++ s) ff.0.frame gg.0.frame (sym (regroup f fs r) ∙ e ∙ regroup g gs s) in
    elim (either_prefix wide fs gs r s ff.1 gg.1 one.1) [
      | inl m ↦ inl (m.0, ap (λ (x : Frame). x ∷ fs) one.0 ∙ ap (λ (x : List Frame). g ∷ x) m.1)
      | inr m ↦ inr (m.0, ap (λ (x : Frame). x ∷ gs) (sym one.0) ∙ ap (λ (x : List Frame). f ∷ x) m.1)
    ]

pub feeds_agree : FeedsAgree
feeds_agree wide None piece answer other frames others new end f g = inl ([], rw (f.1, g.1) refl)
feeds_agree wide (Some old) piece answer other frames others new end f g =
    let a = some_begin wide old piece answer frames new f in
    let b = some_begin wide old piece other others end g in
    either_prefix wide frames others a.0 b.0 a.1.each b.1.each (sym a.1.whole ∙ b.1.whole)
