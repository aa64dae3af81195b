-- A piece after an unfinished frame.
use Rattle.std.proofs.Common.{◌≡◌, ℕ, Bool, ◌+◌, ◌-◌, ◌<◌, ◌≤◌, true, false, List, [], ◌++◌, length, take, drop, get_or, refl, sym, ap, subst, ◌∙◌, append_assoc, arith, inl, inr}
use Rattle.std.proofs.lemmas.Bool.{cases_lt}
use Rattle.std.proofs.lemmas.List.{length-append, length-drop, length-take, length-take-le, get_or-take, append-nil, nil_from_length, take-append-drop}
use Rattle.frame_codec.specs.declared.frame.Frame.{Frame}
use Rattle.frame_codec.specs.Frames.{encoding, payload_of, IsPayloadLength}
use Rattle.frame_codec.specs.declared.reader.ReadFault.{ReadFault}
use Rattle.frame_codec.specs.declared.reader.ReadFault.TheVariants.{TooLong, UnknownKind, BadPayload, Memory, Failed}
use Rattle.frame_codec.specs.Streams.{HasBadLength, HasFault, HasFrame, StopsAt, IsFrameOf, IsPartial, IsReadable, is_kind, kind_at, length_at}
use Rattle.frame_codec.proofs.Prefixes.{announced, judged, partial_in_all, partial_lacks, sound_ahead, sound_before, fault_ahead}
use Rattle.frame_codec.proofs.Unique.{fault_of_frame}

-- ---- a header in two places

pub header_readable : (wide : Bool) (bytes : List ℕ) (size : ℕ) → IsReadable wide (take 5 bytes) size → IsReadable wide bytes size
header_readable wide bytes size r =
    let n : length (take 5 bytes) ≤ 5 = omega (arith, length-take 5 bytes) in
    subst (λ (x : List ℕ). IsReadable wide x size) (take-append-drop 5 bytes) (elim (cases_lt (length bytes) 5) [
      | inl few ↦
          let none : drop 5 bytes ≡ [] = nil_from_length (drop 5 bytes) (omega (arith, length-drop 5 bytes)) in
          rw (none, append-nil) r
      | inr all ↦ sound_ahead wide (take 5 bytes) (drop 5 bytes) size (omega (arith, length-take 5 bytes)) r
    ])

pub header_fault : (wide : Bool) (fault : ReadFault) (bytes : List ℕ) → HasFault wide fault (take 5 bytes) → HasFault wide fault bytes
header_fault wide fault bytes h = subst (HasFault wide fault) (take-append-drop 5 bytes) (fault_ahead wide fault (take 5 bytes) (drop 5 bytes) h)

-- ---- a length that is judged by the kind

-- a length that no frame of the kind has is a fault of the payload
pub length_faults : (wide : Bool) (bytes : List ℕ) → HasBadLength wide bytes → HasFault wide BadPayload bytes
length_faults wide bytes h = (
  h.0,
  h.1,
  h.2,
  λ w.
      let a = announced wide bytes w.0 w.1 w.2 w.3 in
      let n : length (payload_of w.0) ≡ length_at bytes = ap length a.stands.payload
      ∙ length-take-le (length_at bytes) (drop 5 bytes) (omega (arith, length-drop 5 bytes, h.0)) in
      h.3 (w.0, a.stands.kind, a.stands.fields, n),
)

-- the kind in a header that was put together, if as many bytes have come as it announces
kind_in : (bytes header : List ℕ) (len size : ℕ) → len ≤ 5 → take len header ≡ take 5 bytes → 5 ≤ length bytes → get_or header 4 0 ≡ kind_at bytes
kind_in bytes header len size within taken all =
    let n : length (take len header) ≡ length (take 5 bytes) = ap length taken in
    let full : len ≡ 5 = omega (arith, within, n, length-take len header, length-take 5 bytes, all) in
    sym (get_or-take 5 header 4 0 (omega arith)) ∙ ap (λ k. get_or (take k header) 4 0) (sym full) ∙ ap (λ (x : List ℕ). get_or x 4 0) taken
    ∙ get_or-take 5 bytes 4 0 (omega arith)

-- what a kind and a length in a header that was put together say of the bytes
pub record Judges (wide : Bool) (bytes header : List ℕ) (len size : ℕ) : Type 0 where
  pub within : len ≤ 5
  pub taken : take len header ≡ take 5 bytes
  pub readable : IsReadable wide bytes size

judges_length : (wide : Bool) (bytes header : List ℕ) (len size : ℕ) → Judges wide bytes header len size → size ≤ length bytes →
    (get_or header 4 0 ≡ kind_at bytes) × (size - 5 ≡ length_at bytes)
judges_length wide bytes header len size j whole =
    let at = judged wide bytes size j.readable whole in
    (kind_in bytes header len size j.within j.taken (omega (arith, at.within)), omega (arith, at.whole_len))

pub bad_length : (wide : Bool) (bytes header : List ℕ) (len size : ℕ) → Judges wide bytes header len size → size ≤ length bytes →
    (IsPayloadLength (get_or header 4 0) (size - 5) → ⊥) → HasFault wide BadPayload bytes
bad_length wide bytes header len size j whole none =
    let at = judged wide bytes size j.readable whole in
    let e = judges_length wide bytes header len size j whole in
    length_faults wide bytes (at.within, at.len, at.kind, rw (e.0, e.1) at none)

pub good_length : (wide : Bool) (bytes header : List ℕ) (len size : ℕ) → Judges wide bytes header len size → size ≤ length bytes →
    IsPayloadLength (get_or header 4 0) (size - 5) → HasBadLength wide bytes → ⊥
good_length wide bytes header len size j whole is h =
    let e = judges_length wide bytes header len size j whole in
    h.3 (rw (e.0, e.1) at is)

-- a header announces no more than a frame may have
pub readable_limit : (wide : Bool) (bytes : List ℕ) (size : ℕ) → IsReadable wide bytes size → size ≤ 16777221
readable_limit wide bytes size r = elim (cases_lt (length bytes) 5) [
  | inl few ↦ omega (arith, r.header few)
  | inr all ↦ let le : length_at bytes ≤ 16777216 = r.short (omega (arith, all)) in omega (arith, le, (r.known all).1)
]

-- fewer bytes than the header announces have no bad length yet
pub no_bad_length : (wide : Bool) (bytes : List ℕ) (size : ℕ) → IsReadable wide bytes size → length bytes < size → HasBadLength wide bytes → ⊥
no_bad_length wide bytes size r few h = omega (arith, h.0, (r.known (omega (arith, h.0))).1, few)

-- ---- an unfinished frame that was given what it lacks of `size` bytes

pub record Fills (wide : Bool) (old piece new rest : List ℕ) (size : ℕ) : Type 0 where
  pub partial : IsPartial true old
  pub readable : IsReadable wide (old ++ piece) size
  pub new_is : new ≡ old ++ take (size - length old) piece
  pub rest_is : rest ≡ drop (size - length old) piece

pub filled_whole : (wide : Bool) (old piece new rest : List ℕ) (size : ℕ) → Fills wide old piece new rest size → new ++ rest ≡ old ++ piece
filled_whole wide old piece new rest size f =
    rw (f.new_is, f.rest_is) (append_assoc old (take (size - length old) piece) (drop (size - length old) piece)
    ∙ ap (λ (x : List ℕ). old ++ x) (take-append-drop (size - length old) piece))

-- the header says five bytes or more
header_counts : (wide : Bool) (bytes : List ℕ) (size : ℕ) → IsReadable wide bytes size → 5 ≤ size
header_counts wide bytes size r = elim (cases_lt (length bytes) 5) [
  | inl few ↦ omega (arith, r.header few)
  | inr all ↦ omega (arith, (r.known all).1)
]

-- an unfinished frame is shorter than the header says
lacks : (wide : Bool) (old piece : List ℕ) (size : ℕ) → IsPartial true old → IsReadable wide (old ++ piece) size → length old < size
lacks wide old piece size p r = elim (cases_lt (length old) 5) [
  | inl few ↦ omega (arith, header_counts wide (old ++ piece) size r)
  | inr ge ↦ partial_lacks wide old size p (sound_before wide old piece size ge r)
]

-- no more bytes than the frame's were put together, and as many if there were enough
within_size : (wide : Bool) (old piece new rest : List ℕ) (size : ℕ) → Fills wide old piece new rest size → length new ≤ size
within_size wide old piece new rest size f =
    let lt = lacks wide old piece size f.partial f.readable in
    let n : length new ≡ length old + length (take (size - length old) piece) = ap length f.new_is ∙ length-append old (take (size - length old) piece) in
    omega (arith, lt, n, length-take (size - length old) piece)

used_up : (wide : Bool) (old piece new rest : List ℕ) (size : ℕ) → Fills wide old piece new rest size → length new < size → rest ≡ []
used_up wide old piece new rest size f lt =
    let n : length new ≡ length old + length (take (size - length old) piece) = ap length f.new_is ∙ length-append old (take (size - length old) piece) in
    let m : length rest ≡ length piece - (size - length old) = ap length f.rest_is ∙ length-drop (size - length old) piece in
    nil_from_length rest (omega (arith, n, m, length-take (size - length old) piece))

-- the header of what was put together, if it is whole
filled_readable : (wide : Bool) (old piece new rest : List ℕ) (size : ℕ) → Fills wide old piece new rest size → 5 ≤ length new → IsReadable wide new size
filled_readable wide old piece new rest size f ge =
    sound_before wide new rest size ge (subst (λ (x : List ℕ). IsReadable wide x size) (sym (filled_whole wide old piece new rest size f)) f.readable)

pub filled_alone : (wide : Bool) (old piece new rest : List ℕ) (size : ℕ) → Fills wide old piece new rest size → (f : Frame) (more : List ℕ) → IsFrameOf wide f →
    new ≡ encoding f ++ more → more ≡ []
filled_alone wide old piece new rest size fill f more fits e =
    let an = announced wide new f more fits e in
    let ge : 5 ≤ length new = omega (arith, an.size) in
    let r = filled_readable wide old piece new rest size fill ge in
    nil_from_length more (omega (
      arith,
      ap length an.after,
      length-drop (length_at new) (drop 5 new),
      length-drop 5 new,
      within_size wide old piece new rest size fill,
      (r.known ge).1,
      an.size,
    ))

pub filled_until : (wide : Bool) (old piece new rest : List ℕ) (size : ℕ) → Fills wide old piece new rest size → IsPartial wide new → rest ≡ []
filled_until wide old piece new rest size f q = elim (cases_lt (length new) 5) [
  | inl few ↦ used_up wide old piece new rest size f (omega (arith, header_counts wide (old ++ piece) size f.readable))
  | inr ge ↦ used_up wide old piece new rest size f (partial_lacks wide new size (partial_in_all wide new q) (filled_readable wide old piece new rest size f ge))
]

-- ---- what stops a reader

-- a sound header has no fault, and a length that was judged is none
pub sound_stops : (wide : Bool) (bytes : List ℕ) (size : ℕ) → IsReadable wide bytes size → (HasBadLength wide bytes → ⊥) → StopsAt wide Memory bytes
sound_stops wide bytes size r good = (
  λ h. let le : length_at bytes ≤ 16777216 = r.short h.0 in omega (arith, le, h.1),
  λ h. absurd (let t : is_kind wide (kind_at bytes) ≡ true = (r.known h.0).0 in let bad : true ≡ false = sym t ∙ h.2 in cc),
  good,
)

-- a frame has no fault, nor has less than one
pub frame_stops : (wide : Bool) (bytes : List ℕ) → HasFrame wide bytes → StopsAt wide Memory bytes
frame_stops wide bytes w = (
  λ h. fault_of_frame wide TooLong bytes h w,
  λ h. fault_of_frame wide UnknownKind bytes h w,
  λ h. fault_of_frame wide BadPayload bytes (length_faults wide bytes h) w,
)

pub partial_stops : (wide : Bool) (bytes : List ℕ) → IsPartial wide bytes → StopsAt wide Memory bytes
partial_stops wide bytes p = (p.no_fault TooLong, p.no_fault UnknownKind, λ h. p.no_fault BadPayload (length_faults wide bytes h))

pub frame_ahead : (wide : Bool) (bytes more : List ℕ) → HasFrame wide bytes → HasFrame wide (bytes ++ more)
frame_ahead wide bytes more w = (w.0, w.1 ++ more, w.2, ap (λ (x : List ℕ). x ++ more) w.3 ∙ append_assoc (encoding w.0) w.1 more)

-- what stops a reader at the frame that was put together stops it at the whole
pub filled_stops : (wide : Bool) (fault : ReadFault) (old piece new rest : List ℕ) → new ++ rest ≡ old ++ piece → StopsAt wide fault new → (fault ≡ Memory → HasFrame wide new) →
    StopsAt wide fault (old ++ piece)
filled_stops wide TooLong old piece new rest whole h w = subst (HasFault wide TooLong) whole (fault_ahead wide TooLong new rest h)
filled_stops wide UnknownKind old piece new rest whole h w = subst (HasFault wide UnknownKind) whole (fault_ahead wide UnknownKind new rest h)
filled_stops wide BadPayload old piece new rest whole h w = subst (HasFault wide BadPayload) whole (fault_ahead wide BadPayload new rest h)
filled_stops wide Memory old piece new rest whole h w = subst (StopsAt wide Memory) whole (frame_stops wide (new ++ rest) (frame_ahead wide new rest (w refl)))
filled_stops wide Failed old piece new rest whole h w = absurd h
