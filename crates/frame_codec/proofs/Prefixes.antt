-- What is at the beginning of bytes.
use Rattle.std.proofs.Common.{◌≡◌, ℕ, ◌+◌, ◌<◌, ◌≤◌, Bool, true, false, ◌&&◌, ◌||◌, List, [], ◌∷◌, ◌++◌, length, get_or, take, drop, refl, sym, ap, subst, ◌∙◌, append_assoc, arith, inl, inr}
use Rattle.std.proofs.lemmas.Bool.{cases_lt, cases_Bool}
use Rattle.std.proofs.lemmas.List.{length-append, take_at, drop_at, take-append-drop, length-drop, length-take-le, drop-drop, drop_more, get_or_append_left, take-append-le, get_or_at, get_or-take, drop-take}
use Rattle.frame_codec.specs.declared.frame.Frame.{Frame}
use Rattle.frame_codec.specs.declared.frame.Frame.TheVariants.{Load, Hello, HintAsk, DeltaAsk, Query, Edit, Publish, Bye, Append, ChangesAsk, Welcome, HintPart, Delta, Answer, Stale, Done, NoDelta, Changes, Refused}
use Rattle.frame_codec.specs.declared.reader.ReadFault.{ReadFault}
use Rattle.frame_codec.specs.declared.reader.ReadFault.TheVariants.{TooLong, UnknownKind, BadPayload, Memory, Failed}
use Rattle.frame_codec.specs.Numbers.{number_bytes, number_in}
use Rattle.frame_codec.specs.Frames.{kind_of, payload_of, payload_size, payload_limit, encoding, IsFrame, Stands}
use Rattle.frame_codec.specs.Streams.{is_kind, length_at, kind_at, HasFrame, HasFault, StopsAt, IsFrameOf, IsPartial, IsReadable}
use Rattle.frame_codec.proofs.Payloads.{payload_sized}
use Rattle.frame_codec.proofs.NumberBytes.{IsBytes, prefix, length-number, number_back, number_ahead, drop_number}

-- every kind is one of a wide store
kinds_are : (f : Frame) → is_kind true (kind_of f) ≡ true
kinds_are (Load record_len groups width records) = refl
kinds_are (Query scheme version words) = refl
kinds_are (Hello profile key) = refl
kinds_are (HintAsk scheme version part) = refl
kinds_are (DeltaAsk since) = refl
kinds_are (Edit index bytes) = refl
kinds_are Publish = refl
kinds_are Bye = refl
kinds_are (Append bytes) = refl
kinds_are (ChangesAsk since) = refl
kinds_are (Welcome profile width record_len groups count version dimension seed) = refl
kinds_are (HintPart scheme version part words) = refl
kinds_are (Delta since now count rows) = refl
kinds_are (Answer scheme version words) = refl
kinds_are (Stale version count) = refl
kinds_are (Done version) = refl
kinds_are (NoDelta version count) = refl
kinds_are (Changes since now count entries) = refl
kinds_are (Refused code) = refl

-- every frame may be in a stream of a wide store
pub in_all : (f : Frame) → IsFrame f → IsFrameOf true f
in_all f fits = record { frame = fits; known = kinds_are f }

-- a kind of one stream is a kind of a wide one
kind_in_all : (wide : Bool) (k : ℕ) → is_kind wide k ≡ true → is_kind true k ≡ true
kind_in_all true k e = e
kind_in_all false k e = more _ _ e
  where
    more : (a b : Bool) → (a || (false && b)) ≡ true → (a || (true && b)) ≡ true
    more true b e = refl
    more false b e = absurd cc

-- ---- an encoding at the beginning

pub encoded_length : (f : Frame) → length (encoding f) ≡ 5 + length (payload_of f)
unfolding encoding
encoded_length f = omega (arith, length-append (number_bytes 4 (length (payload_of f))) (kind_of f ∷ payload_of f), length-number 4 (length (payload_of f)))

-- the length, the kind and the payload, and then the other bytes
encoding_first : (f : Frame) (more : List ℕ) → encoding f ++ more ≡ number_bytes 4 (length (payload_of f)) ++ (kind_of f ∷ (payload_of f ++ more))
unfolding encoding
encoding_first f more = append_assoc (number_bytes 4 (length (payload_of f))) (kind_of f ∷ payload_of f) more

-- a frame's length, kind and payload, added one after another
pub encoded_in_order : (out : List ℕ) (f : Frame) (n k : ℕ) → n ≡ payload_size f → k ≡ kind_of f →
    ((out ++ number_bytes 4 n) ++ k ∷ []) ++ payload_of f ≡ out ++ encoding f
unfolding encoding
encoded_in_order out f n k len kind =
    let size : n ≡ length (payload_of f) = len ∙ sym (payload_sized f) in
    append_assoc (out ++ number_bytes 4 n) (k ∷ []) (payload_of f)
    ∙ append_assoc out (number_bytes 4 n) (k ∷ payload_of f)
    ∙ rw (size, kind) refl

-- what the first five bytes of an encoding say
pub record Header (f : Frame) (more : List ℕ) : Type 0 where
  pub size : length (encoding f ++ more) ≡ 5 + length (payload_of f) + length more
  pub len : length_at (encoding f ++ more) ≡ length (payload_of f)
  pub kind : kind_at (encoding f ++ more) ≡ kind_of f
  pub beyond : drop 5 (encoding f ++ more) ≡ payload_of f ++ more

pub header : (f : Frame) (more : List ℕ) → IsFrame f → Header f more
header f more fits =
    let n : ℕ = length (payload_of f) in
    let le : length (payload_of f) ≤ 16777216 = fits.short in
    let fourth : drop 4 (encoding f ++ more) ≡ kind_of f ∷ (payload_of f ++ more) = ap (drop 4) (encoding_first f more)
    ∙ drop_number 4 (length (payload_of f)) (kind_of f ∷ (payload_of f ++ more)) in
    record {
      size = omega (arith, length-append (encoding f) more, encoded_length f);
      len = ap (number_in 4) (encoding_first f more) ∙ number_back 4 (length (payload_of f)) (kind_of f ∷ (payload_of f ++ more)) (omega (arith, le));
      kind = ap (λ (x : List ℕ). get_or x 4 0) (encoding_first f more)
          ∙ get_or_at (number_bytes 4 (length (payload_of f))) (kind_of f) (payload_of f ++ more) 0 4 (length-number 4 (length (payload_of f)));
      beyond = sym (drop-drop 1 4 (encoding f ++ more)) ∙ ap (drop 1) fourth;
    }

-- a frame at the beginning is the one that the first five bytes announce
pub record Announced (wide : Bool) (bytes : List ℕ) (f : Frame) (more : List ℕ) : Type 0 where
  pub size : 5 + length_at bytes ≤ length bytes
  pub len : length_at bytes ≤ payload_limit
  pub kind : is_kind wide (kind_at bytes) ≡ true
  pub stands : Stands (kind_at bytes) (take (length_at bytes) (drop 5 bytes)) f
  pub after : more ≡ drop (length_at bytes) (drop 5 bytes)

pub announced : (wide : Bool) (bytes : List ℕ) (f : Frame) (more : List ℕ) → IsFrameOf wide f → bytes ≡ encoding f ++ more → Announced wide bytes f more
announced wide bytes f more fits e =
    let h = header f more fits.frame in
    subst (λ (b : List ℕ). Announced wide b f more) (sym e) (record {
      size = omega (arith, h.size, h.len);
      len = omega (arith, h.len, fits.frame.short);
      kind = ap (is_kind wide) h.kind ∙ fits.known;
      stands = record {
        kind = sym h.kind;
        payload = sym (rw (h.len, h.beyond) (take_at (payload_of f) more (length (payload_of f)) refl));
        fields = fits.frame.fields;
      };
      after = sym (rw (h.len, h.beyond) (drop_at (payload_of f) more (length (payload_of f)) refl));
    })

-- the length and the kind, and then the other bytes
five : (bytes : List ℕ) → IsBytes bytes → 5 ≤ length bytes → number_bytes 4 (length_at bytes) ++ (kind_at bytes ∷ drop 5 bytes) ≡ bytes
five bytes fits le = ap (λ (x : List ℕ). number_bytes 4 (length_at bytes) ++ x) (sym (drop_more bytes 4 0 (omega arith))) ∙ prefix 4 bytes fits (omega arith)

-- the frame that the first five bytes announce is at the beginning
pub whole_frame : (bytes : List ℕ) (f : Frame) → IsBytes bytes → 5 + length_at bytes ≤ length bytes → length_at bytes ≤ payload_limit →
    Stands (kind_at bytes) (take (length_at bytes) (drop 5 bytes)) f
    → IsFrame f × (bytes ≡ encoding f ++ drop (length_at bytes) (drop 5 bytes))
whole_frame bytes f fits size len stands =
    let n : length (payload_of f) ≡ length_at bytes = ap length stands.payload
    ∙ length-take-le (length_at bytes) (drop 5 bytes) (omega (arith, length-drop 5 bytes)) in
    let rest : List ℕ = drop (length_at bytes) (drop 5 bytes) in (
      record { fields = stands.fields; short = omega (arith, n, len) },
      sym (encoding_first f (drop (length_at bytes) (drop 5 bytes))
          ∙ rw (n, stands.kind, stands.payload)
          (ap (λ (x : List ℕ). number_bytes 4 (length_at bytes) ++ (kind_at bytes ∷ x)) (take-append-drop (length_at bytes) (drop 5 bytes)))
          ∙ five bytes fits (omega arith)),
    )

-- ---- less than a frame

-- nothing is whole, and nothing can be judged yet
pub is_partial : (wide : Bool) (bytes : List ℕ) → (5 + length_at bytes ≤ length bytes → ⊥) → (4 ≤ length bytes → length_at bytes ≤ payload_limit) →
    (5 ≤ length bytes → is_kind wide (kind_at bytes) ≡ true) → IsPartial wide bytes
is_partial wide bytes short len kind = record {
  no_frame = λ h. short (announced wide bytes h.0 h.1 h.2 h.3).size;
  no_fault = none;
} where
  none : (fault : ReadFault) → HasFault wide fault bytes → ⊥
  none TooLong h = let le : length_at bytes ≤ 16777216 = len h.0 in omega (arith, le, h.1)
  none UnknownKind h = absurd (let t : is_kind wide (kind_at bytes) ≡ true = kind h.0 in let bad : true ≡ false = sym t ∙ h.2 in cc)
  none BadPayload h = short h.0
  none Memory h = h
  none Failed h = h

pub nothing_partial : (wide : Bool) → IsPartial wide []
nothing_partial wide = is_partial wide [] (λ h. omega arith) (λ h. absurd (omega arith)) (λ h. absurd (omega arith))

-- bytes that are sound, and fewer than they say
pub sound_partial : (wide : Bool) (bytes : List ℕ) (size : ℕ) → IsReadable wide bytes size → length bytes < size → IsPartial wide bytes
sound_partial wide bytes size s lt = is_partial wide bytes
    (λ h. let k = s.known (omega (arith, h)) in omega (arith, h, k.1, lt))
    s.short
    (λ h. (s.known h).0)

-- less than a frame of one stream is less than a frame of a wide one
pub partial_in_all : (wide : Bool) (bytes : List ℕ) → IsPartial wide bytes → IsPartial true bytes
partial_in_all true bytes p = p
partial_in_all false bytes p = record { no_frame = no_frame; no_fault = no_fault } where
  -- a payload that is there, of a kind that is one of every stream or not
  whole : 5 + length_at bytes ≤ length bytes → length_at bytes ≤ payload_limit → (HasFrame false bytes → ⊥) → ⊥
  whole size len none = elim (cases_Bool (is_kind false (kind_at bytes))) [
    | inl known ↦ p.no_fault BadPayload (size, len, known, none)
    | inr unknown ↦ p.no_fault UnknownKind (omega (arith, size), len, unknown)
  ]

  no_frame : HasFrame true bytes → ⊥
  no_frame h = let a = announced true bytes h.0 h.1 h.2 h.3 in whole a.size a.len p.no_frame

  no_fault : (fault : ReadFault) → HasFault true fault bytes → ⊥
  no_fault TooLong h = p.no_fault TooLong h
  no_fault UnknownKind h = elim (cases_Bool (is_kind false (kind_at bytes))) [
    | inl known ↦ absurd (let t : is_kind true (kind_at bytes) ≡ true = kind_in_all false (kind_at bytes) known in let bad : true ≡ false = sym t ∙ h.2 in cc)
    | inr unknown ↦ p.no_fault UnknownKind (h.0, h.1, unknown)
  ]
  no_fault BadPayload h = whole h.0 h.1 p.no_frame
  no_fault Memory h = h
  no_fault Failed h = h

-- an unfinished frame that has its header lacks some of its payload
pub partial_lacks : (wide : Bool) (bytes : List ℕ) (size : ℕ) → IsPartial true bytes → IsReadable wide bytes size → length bytes < size
partial_lacks wide bytes size p s = elim (cases_lt (length bytes) size) [
  | inl lt ↦ lt
  | inr ge ↦ absurd (elim (cases_lt (length bytes) 5) [
    | inl few ↦ omega (arith, s.header few)
    | inr all ↦ p.no_fault BadPayload
        (omega (arith, (s.known all).1), s.short (omega arith), kind_in_all wide (kind_at bytes) (s.known all).0, p.no_frame)
  ])
]

-- what a sound header says of the bytes if the frame is whole
pub record Judged (wide : Bool) (bytes : List ℕ) (size : ℕ) : Type 0 where
  pub whole_len : size ≡ 5 + length_at bytes
  pub within : 5 + length_at bytes ≤ length bytes
  pub len : length_at bytes ≤ payload_limit
  pub kind : is_kind wide (kind_at bytes) ≡ true
  pub prefix_kind : get_or (take size bytes) 4 0 ≡ kind_at bytes
  pub prefix_payload : drop 5 (take size bytes) ≡ take (length_at bytes) (drop 5 bytes)
  pub beyond : drop size bytes ≡ drop (length_at bytes) (drop 5 bytes)

pub judged : (wide : Bool) (bytes : List ℕ) (size : ℕ) → IsReadable wide bytes size → size ≤ length bytes → Judged wide bytes size
judged wide bytes size s le =
    let ge : 5 ≤ length bytes = elim (cases_lt (length bytes) 5) [
      | inl lt ↦ omega (arith, s.header lt)
      | inr all ↦ all
    ] in
    let e : size ≡ 5 + length_at bytes = (s.known ge).1 in
    record {
      whole_len = e;
      within = omega arith;
      len = s.short (omega arith);
      kind = (s.known ge).0;
      prefix_kind = get_or-take size bytes 4 0 (omega arith);
      prefix_payload = rw e (drop-take 5 (length_at bytes) bytes);
      beyond = rw e (sym (drop-drop (length_at bytes) 5 bytes));
    }

-- ---- more bytes after

kind_ahead : (bytes more : List ℕ) → 5 ≤ length bytes → kind_at (bytes ++ more) ≡ kind_at bytes
kind_ahead bytes more le = get_or_append_left bytes more 0 4 (omega arith)

-- a sound header stays so, whatever comes after
pub sound_ahead : (wide : Bool) (bytes more : List ℕ) (size : ℕ) → 5 ≤ length bytes → IsReadable wide bytes size → IsReadable wide (bytes ++ more) size
sound_ahead wide bytes more size le s =
    let len : length_at (bytes ++ more) ≡ length_at bytes = number_ahead 4 bytes more (omega arith) in
    record {
      header = λ h. absurd (omega (arith, h, length-append bytes more));
      short = λ h. omega (arith, len, s.short (omega arith));
      known = λ h. (ap (is_kind wide) (kind_ahead bytes more le) ∙ (s.known le).0, omega (arith, len, (s.known le).1));
    }

-- a header was sound before further bytes came
pub sound_before : (wide : Bool) (bytes more : List ℕ) (size : ℕ) → 5 ≤ length bytes → IsReadable wide (bytes ++ more) size → IsReadable wide bytes size
sound_before wide bytes more size le s =
    let len : length_at (bytes ++ more) ≡ length_at bytes = number_ahead 4 bytes more (omega arith) in
    let long : 5 ≤ length (bytes ++ more) = omega (arith, length-append bytes more) in
    record {
      header = λ h. absurd (omega (arith, h));
      short = λ h. omega (arith, len, s.short (omega arith));
      known = λ h. (ap (is_kind wide) (sym (kind_ahead bytes more le)) ∙ (s.known long).0, omega (arith, len, (s.known long).1));
    }

-- a frame at the beginning of bytes with more after them is in the bytes, if they are long enough
frame_within : (wide : Bool) (bytes more : List ℕ) → 5 + length_at bytes ≤ length bytes → HasFrame wide (bytes ++ more) → HasFrame wide bytes
frame_within wide bytes more size h =
    let f : Frame = h.0 in
    let len : length_at bytes ≡ length (payload_of f) = sym (number_ahead 4 bytes more (omega arith)) ∙ ap length_at h.3 ∙ (header h.0 h.1 h.2.frame).len in
    let long : length (encoding f) ≤ length bytes = omega (arith, encoded_length f, len) in
    let here : take (length (encoding f)) bytes ≡ encoding f = sym (take-append-le (length (encoding f)) bytes more long)
    ∙ ap (take (length (encoding f))) h.3 ∙ take_at (encoding f) h.1 (length (encoding f)) refl in (
      f,
      drop (length (encoding f)) bytes,
      h.2,
      sym (take-append-drop (length (encoding f)) bytes)
          ∙ ap (λ (x : List ℕ). x ++ drop (length (encoding f)) bytes) here,
    )

-- a fault stays where it is, whatever comes after
pub fault_ahead : (wide : Bool) (fault : ReadFault) (bytes more : List ℕ) → HasFault wide fault bytes → HasFault wide fault (bytes ++ more)
fault_ahead wide TooLong bytes more h = (omega (arith, length-append bytes more, h.0), omega (arith, number_ahead 4 bytes more h.0, h.1))
fault_ahead wide UnknownKind bytes more h = (
  omega (arith, length-append bytes more, h.0),
  omega (arith, number_ahead 4 bytes more (omega (arith, h.0)), h.1),
  ap (is_kind wide) (kind_ahead bytes more h.0)
      ∙ h.2,
)
fault_ahead wide BadPayload bytes more h = (
  omega (arith, length-append bytes more, number_ahead 4 bytes more (omega (arith, h.0)), h.0),
  omega (arith, number_ahead 4 bytes more (omega (arith, h.0)), h.1),
  ap (is_kind wide) (kind_ahead bytes more (omega (arith, h.0))) ∙ h.2,
  λ w. h.3 (frame_within wide bytes more h.0 w),
)
fault_ahead wide Memory bytes more h = h
fault_ahead wide Failed bytes more h = h

-- what makes a reader stop: a fault that is there, or that memory was refused
pub fault_stops : (wide : Bool) (fault : ReadFault) (bytes : List ℕ) → HasFault wide fault bytes → StopsAt wide fault bytes
fault_stops wide TooLong bytes h = h
fault_stops wide UnknownKind bytes h = h
fault_stops wide BadPayload bytes h = h
fault_stops wide Memory bytes h = absurd h
fault_stops wide Failed bytes h = h
