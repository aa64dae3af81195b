-- The head of a query.
use Rattle.std.proofs.Common.{◌≡◌, ℕ, ◌+◌, ◌-◌, ◌*◌, ◌/◌, ◌≤◌, ◌<◌, false, List, ◌++◌, length, get_or, take, drop, Option, Some, refl, sym, ap, subst, ◌∙◌, arith}
use Rattle.std.specs.Prelude.{IfNone}
use Rattle.std.proofs.lemmas.List.{length-take, length-take-le, length-drop, get_or-take, get_or-drop, drop-take, drop-drop, take-append-drop}
use Rattle.frame_codec.specs.declared.frame.Frame.{Frame}
use Rattle.frame_codec.specs.declared.frame.Frame.TheVariants.{Query}
use Rattle.frame_codec.specs.declared.reader.ReadFault.{ReadFault}
use Rattle.frame_codec.specs.declared.ahead.QueryHead.{QueryHead}
use Rattle.frame_codec.specs.Numbers.{number_in}
use Rattle.frame_codec.specs.Frames.{IsPayloadLength, Stands, payload_of}
use Rattle.frame_codec.specs.Streams.{HasFault, HasFrame, HasQuery, HasQueryNext, IsReadable, kind_at, length_at}
use Rattle.frame_codec.proofs.NumberBytes.{IsBytes, IsBytes-drop, length-words_in, number_ahead, words_in}
use Rattle.frame_codec.proofs.Fronts.{IsBytes-take}
use Rattle.frame_codec.proofs.Payloads.{scheme_fields, is_query, payload_sized}
use Rattle.frame_codec.proofs.PayloadLengths.{has_length}
use Rattle.frame_codec.proofs.Prefixes.{announced, judged, whole_frame}
use Rattle.frame_codec.proofs.Unique.{fault_of_frame}

-- what the first fourteen bytes say
pub record Says (bytes space : List ℕ) (size : ℕ) (head : QueryHead) : Type 0 where
  pub fits : IsBytes bytes
  pub readable : IsReadable false bytes size
  pub whole : size ≤ length bytes
  pub len : IsPayloadLength 5 (size - 5)
  pub space_is : space ≡ take 14 bytes
  pub kind : get_or space 4 0 ≡ 5
  pub scheme : head.scheme ≡ get_or space 5 0
  pub version : head.version ≡ number_in 8 (take 8 (drop 6 space))
  pub count : head.count ≡ (size - 14) / 4

-- a number in the bytes that were taken
number_taken : (k n : ℕ) (bytes : List ℕ) → n + k ≤ length bytes → (m : ℕ) → n + k ≤ m → number_in k (drop n (take m bytes)) ≡ number_in k (drop n bytes)
number_taken k n bytes le m more =
    let long : k ≤ length (drop n (take m bytes)) = omega (arith, length-drop n (take m bytes), length-take m bytes) in
    let whole : drop n (take m bytes) ++ drop (m - n) (drop n bytes) ≡ drop n bytes =
    ap (λ k. drop n (take k bytes) ++ drop (m - n) (drop n bytes)) (let e : m ≡ n + (m - n) = omega arith in e)
    ∙ ap (λ (x : List ℕ). x ++ drop (m - n) (drop n bytes)) (drop-take n (m - n) bytes) ∙ take-append-drop (m - n) (drop n bytes) in
    sym (number_ahead k (drop n (take m bytes)) (drop (m - n) (drop n bytes)) long) ∙ ap (number_in k) whole

pub has_query_head : (bytes space : List ℕ) (size : ℕ) (head : QueryHead) → Says bytes space size head → HasQuery bytes head
has_query_head bytes space size head s =
    let at = judged false bytes size s.readable s.whole in
    let p : List ℕ = take (length_at bytes) (drop 5 bytes) in
    let h = has_length 5 (size - 5) s.len in
    let n : ℕ = h.1.0 in
    let len : length p ≡ 9 + 4 * n =
    length-take-le (length_at bytes) (drop 5 bytes) (omega (arith, length-drop 5 bytes, at.within)) ∙ omega (arith, h.1.1, h.2, at.whole_len) in
    let fits : IsBytes p = IsBytes-take (length_at bytes) (drop 5 bytes) (IsBytes-drop 5 bytes s.fits) in
    let f = scheme_fields p fits n len in
    let few : 9 ≤ length_at bytes = omega (arith, h.1.1, h.2, at.whole_len) in
    let all : 14 ≤ length bytes = omega (arith, few, at.within) in
    let kind : kind_at bytes ≡ 5 = sym (get_or-take 14 bytes 4 0 (omega arith)) ∙ ap (λ (x : List ℕ). get_or x 4 0) (sym s.space_is) ∙ s.kind in
    let scheme : get_or p 0 0 ≡ head.scheme = get_or-take (length_at bytes) (drop 5 bytes) 0 0 (omega (arith, few)) ∙ get_or-drop 5 bytes 0 0
    ∙ sym (get_or-take 14 bytes 5 0 (omega arith)) ∙ ap (λ (x : List ℕ). get_or x 5 0) (sym s.space_is) ∙ sym s.scheme in
    let version : number_in 8 (drop 1 p) ≡ head.version =
    number_taken 8 1 (drop 5 bytes) (omega (arith, length-drop 5 bytes, all)) (length_at bytes) (omega (arith, few))
    ∙ ap (number_in 8) (drop-drop 1 5 bytes) ∙ sym (number_taken 8 6 bytes (omega (arith, all)) 14 (omega arith))
    ∙ ap (λ (x : List ℕ). number_in 8 (drop 6 x)) (sym s.space_is)
    ∙ sym (number_taken 8 0 (drop 6 space) (omega (arith, length-drop 6 space, ap length s.space_is, length-take 14 bytes, all)) 8 (omega arith)) ∙ sym s.version in
    let words : List ℕ = words_in n (drop 9 p) in
    let stands : Stands 5 p (Query head.scheme head.version words) = rw (scheme, version) at (is_query p _ _ _ f.0 f.1) in
    let w = whole_frame bytes (Query head.scheme head.version words) s.fits at.within at.len (rw kind stands) in
    (words, drop (length_at bytes) (drop 5 bytes), w.0, w.1, length-words_in n (drop 9 p) ∙ omega (arith, s.count, h.1.1, h.2))

-- what a whole query at the beginning says of the bytes
pub record Announces (bytes : List ℕ) : Type 0 where
  pub frame : HasFrame false bytes
  pub within : 5 + length_at bytes ≤ length bytes
  pub kind : kind_at bytes ≡ 5
  pub len : IsPayloadLength 5 (length_at bytes)
  pub long : 9 ≤ length_at bytes

pub announces : (bytes : List ℕ) (head : QueryHead) → HasQuery bytes head → Announces bytes
announces bytes head q =
    let f : Frame = Query head.scheme head.version q.0 in
    let a = announced false bytes f q.1 (record { frame = q.2; known = refl }) q.3 in
    let n : length (payload_of f) ≡ length_at bytes =
    ap length a.stands.payload ∙ length-take-le (length_at bytes) (drop 5 bytes) (omega (arith, length-drop 5 bytes, a.size)) in
    record {
      frame = (f, q.1, record { frame = q.2; known = refl }, q.3);
      within = a.size;
      kind = sym a.stands.kind;
      len = (f, refl, q.2.fields, n);
      long = omega (arith, n, payload_sized f);
    }

-- none where a fault is
pub no_query_of_fault : (fault : ReadFault) (bytes : List ℕ) → HasFault false fault bytes → (head : QueryHead) → HasQuery bytes head → ⊥
no_query_of_fault fault bytes h head q = fault_of_frame false fault bytes h (announces bytes head q).frame

-- none if the bytes are fewer than the first five say, or these say too few
pub no_query_of_few : (bytes : List ℕ) (size : ℕ) → IsReadable false bytes size → (14 ≤ size → length bytes < size) → (head : QueryHead) → HasQuery bytes head → ⊥
no_query_of_few bytes size r few head q =
    let a = announces bytes head q in
    let known = r.known (omega (arith, a.within)) in
    omega (arith, a.within, a.long, known.1, few (omega (arith, a.long, known.1)))

-- none if the kind is another one, or no query is so long
pub no_query_of_kind : (bytes space : List ℕ) (size : ℕ) → IsReadable false bytes size → space ≡ take 14 bytes →
    (get_or space 4 0 ≡ 5 → IsPayloadLength 5 (size - 5) → ⊥) → (head : QueryHead) → HasQuery bytes head → ⊥
no_query_of_kind bytes space size r space_is none head q =
    let a = announces bytes head q in
    let known = r.known (omega (arith, a.within)) in
    let kind : get_or space 4 0 ≡ 5 = ap (λ (x : List ℕ). get_or x 4 0) space_is ∙ get_or-take 14 bytes 4 0 (omega arith) ∙ a.kind in
    let len : length_at bytes ≡ size - 5 = omega (arith, known.1) in
    none kind (subst (IsPayloadLength 5) len a.len)

-- none for a reader that keeps such bytes
pub no_query_next : (r : Option QueryHead) (kept piece : List ℕ) (now : Option (List ℕ)) → now ≡ Some kept →
    IfNone r ((head : QueryHead) → HasQuery (kept ++ piece) head → ⊥) → IfNone r ((head : QueryHead) → HasQueryNext now piece head → ⊥)
no_query_next r kept piece now e h = rw e h
