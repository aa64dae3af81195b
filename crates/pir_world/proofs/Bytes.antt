-- A delivery over bytes is that over frames.
use Rattle.std.proofs.Common.{◌≡◌, ℕ, ◌+◌, ◌-◌, ◌≤◌, Bool, true, List, [], ◌∷◌, ◌++◌, length, take, drop, min, Option, Some, Result, Ok, Err, refl, sym, ap, subst, ◌∙◌, append_assoc, arith, inl, inr}
use Rattle.std.specs.Prelude.{nat_le}
use Rattle.std.specs.List.{flat_map, AllByRecursion}
use Rattle.std.proofs.lemmas.List.{length-append, take-append-drop, length-take}
use Rattle.std.proofs.lemmas.List.Concat.{flat_map-cons, flat_map-append}
use Rattle.std.proofs.lemmas.Bool.{cases_Bool, le-leb, leb-true}
use Rattle.frame_codec.specs.declared.frame.Frame.{Frame}
use Rattle.frame_codec.specs.declared.reader.ReadFault.{ReadFault}
use Rattle.frame_codec.specs.declared.reader.ReadFault.TheVariants as fault
use Rattle.frame_codec.specs.Frames.{encoding}
use Rattle.frame_codec.specs.Streams.{IsFrameOf, Feeds, Arrives, HasFrame}
use Rattle.frame_codec.proofs.Unique.{reads_sent}
use Rattle.frame_codec.proofs.Runs.{all_append}
use Rattle.pir_world.specs.Runs.{Wire, whole_frames, rest_after, bytes_reached, arrived, wire_after, sent}
use Rattle.pir_world.specs.Sides.{Carries}

prefix_within : (s r l y : List ℕ) → r ++ l ≡ s ++ y → length s ≤ length r → r ≡ s ++ drop (length s) r
prefix_within [] r l y e le = refl
prefix_within (x ∷ s) [] l y e le = absurd (omega arith)
prefix_within (x ∷ s) (z ∷ r) l y e le =
    let hd : z ≡ x = cc in
    let tl : r ++ l ≡ s ++ y = cc in
    ap (λ (w : ℕ). w ∷ r) hd ∙ ap (λ (w : List ℕ). x ∷ w) (prefix_within s r l y tl (omega arith))

-- up to a rest in which no frame is whole, these are the frames
pub record Cut (all fs more : List Frame) (n m : ℕ) : Type 0 where
  pub whole_is : whole_frames all n ≡ fs
  pub frames_are : (rest_after all n).frames ≡ more
  pub got_is : (rest_after all n).got ≡ m

cut_none : (wide : Bool) (more : List Frame) (rest later : List ℕ) → AllByRecursion (IsFrameOf wide) more → rest ++ later ≡ flat_map encoding more → (HasFrame wide rest → ⊥) →
    Cut more [] more (length rest) (length rest)
cut_none wide [] rest later all e partial = record { whole_is = refl; frames_are = refl; got_is = omega (arith, ap length e, length-append rest later) }
cut_none wide (m ∷ ms) rest later all e partial = elim (cases_Bool (nat_le (length (encoding m)) (length rest))) [
  | inl t ↦ absurd (partial (
    m,
    drop (length (encoding m)) rest,
    all.0,
    prefix_within (encoding m) rest later (flat_map encoding ms) (e ∙ flat_map-cons encoding m ms) (leb-true _ _ t),
  ))
  | inr t ↦ record { whole_is = rw t refl; frames_are = rw t refl; got_is = rw t refl }
]

pub cut : (wide : Bool) (fs more : List Frame) (rest later : List ℕ) (n : ℕ) → AllByRecursion (IsFrameOf wide) more → rest ++ later ≡ flat_map encoding more → (HasFrame wide rest → ⊥) →
    n ≡ length (flat_map encoding fs) + length rest → Cut (fs ++ more) fs more n (length rest)
cut wide [] more rest later n all e partial size = let s : n ≡ length rest = size ∙ omega arith in rw s (cut_none wide more rest later all e partial)
cut wide (f ∷ fs) more rest later n all e partial size =
    let one : length (flat_map encoding (f ∷ fs)) ≡ length (encoding f) + length (flat_map encoding fs) = ap length (flat_map-cons encoding f fs)
    ∙ length-append (encoding f) (flat_map encoding fs) in
    let t : nat_le (length (encoding f)) n ≡ true = le-leb (length (encoding f)) n (omega (arith, size, one)) in
    let c = cut wide fs more rest later (n - length (encoding f)) all e partial (omega (arith, size, one)) in
    record { whole_is = rw t (ap (λ (x : List Frame). f ∷ x) c.whole_is); frames_are = rw t c.frames_are; got_is = rw t c.got_is }

-- what a delivery of some of the waiting bytes gives
pub record Delivered (wide : Bool) (reader : Option (List ℕ)) (waiting : List ℕ) (w : Wire) (most : ℕ) (frames : List Frame) : Type 0 where
  pub frames_are : frames ≡ arrived w most
  pub rest : Carries wide reader waiting (wire_after w most)

pub delivered : (wide : Bool) (reader : Option (List ℕ)) (waiting : List ℕ) (w : Wire) (most m : ℕ) (frames : List Frame) (new : Option (List ℕ)) →
    m ≡ min most (length waiting) → Carries wide reader waiting w → Feeds wide reader (take m waiting) (Ok tt) frames new
    → Delivered wide new (drop m waiting) w most frames
delivered wide reader waiting w most m frames new size c f =
    let g : Feeds wide (Some c.unfinished) (take m waiting) (Ok tt) frames new = rw c.reader_is at f in
    let whole_ : (c.unfinished ++ take m waiting) ++ drop m waiting ≡ flat_map encoding w.frames =
    append_assoc c.unfinished (take m waiting) (drop m waiting) ∙ ap (λ (x : List ℕ). c.unfinished ++ x) (take-append-drop m waiting) ∙ c.bytes in
    let s = reads_sent wide c.unfinished (take m waiting) (drop m waiting) w.frames (Ok tt) frames new c.each whole_ g in
    let later : g.0 ++ drop m waiting ≡ flat_map encoding s.0 = let P : Option (List ℕ) → Type 0 = λ x. Arrives (Ok tt) x (drop m waiting) s.0 in
    subst P g.2 s.3 in
    let n1 : length c.unfinished + length waiting ≡ length (flat_map encoding w.frames) = sym (length-append c.unfinished waiting) ∙ ap length c.bytes in
    let n2 : length c.unfinished + length (take m waiting) ≡ length (flat_map encoding frames) + length g.0 =
    sym (length-append c.unfinished (take m waiting)) ∙ ap length g.1.begins.whole ∙ length-append (flat_map encoding frames) g.0 in
    let n3 : length (take m waiting) ≡ min m (length waiting) = length-take m waiting in
    let at : bytes_reached w most ≡ length (flat_map encoding frames) + length g.0 = omega (arith, n1, n2, n3, size, c.got) in
    let k = cut wide frames s.0 g.0 (drop m waiting) (bytes_reached w most) s.2 later g.1.partial.no_frame at in
    let k2 : Cut w.frames frames s.0 (bytes_reached w most) (length g.0) = subst (λ (x : List Frame). Cut x frames s.0 (bytes_reached w most) (length g.0)) (sym s.1) k in
    record {
      frames_are = sym k2.whole_is;
      rest = record { unfinished = g.0; reader_is = g.2; bytes = rw k2.frames_are later; got = k2.got_is; each = rw k2.frames_are s.2 };
    }

-- no codec fault comes but for lack of memory; and then the frames read are the first ones
pub memory_alone : (wide : Bool) (reader : Option (List ℕ)) (waiting : List ℕ) (w : Wire) (m : ℕ) (stop : ReadFault) (frames : List Frame) (new : Option (List ℕ)) →
    Carries wide reader waiting w → Feeds wide reader (take m waiting) (Err stop) frames new → stop ≡ fault.Memory
memory_alone wide reader waiting w m stop frames new c f =
    let g : Feeds wide (Some c.unfinished) (take m waiting) (Err stop) frames new = rw c.reader_is at f in
    let whole_ : (c.unfinished ++ take m waiting) ++ drop m waiting ≡ flat_map encoding w.frames =
    append_assoc c.unfinished (take m waiting) (drop m waiting) ∙ ap (λ (x : List ℕ). c.unfinished ++ x) (take-append-drop m waiting) ∙ c.bytes in
    let s = reads_sent wide c.unfinished (take m waiting) (drop m waiting) w.frames (Err stop) frames new c.each whole_ g in
    is_memory stop (drop m waiting) s.0 s.3
  where
    is_memory : (stop : ReadFault) (later : List ℕ) (more : List Frame) → Arrives (Err stop) new later more → stop ≡ fault.Memory
    is_memory fault.TooLong later more a = absurd a
    is_memory fault.UnknownKind later more a = absurd a
    is_memory fault.BadPayload later more a = absurd a
    is_memory fault.Memory later more a = refl
    is_memory fault.Failed later more a = absurd a

-- more frames are sent
pub carries_more : (wide : Bool) (reader : Option (List ℕ)) (waiting : List ℕ) (w : Wire) (fs : List Frame) → AllByRecursion (IsFrameOf wide) fs → Carries wide reader waiting w →
    Carries wide reader (waiting ++ flat_map encoding fs) (sent w fs)
carries_more wide reader waiting w fs all c = record {
  unfinished = c.unfinished;
  reader_is = c.reader_is;
  got = c.got;
  each = all_append (IsFrameOf wide) w.frames fs c.each all;
  bytes = sym (append_assoc c.unfinished waiting (flat_map encoding fs)) ∙ ap (λ (x : List ℕ). x ++ flat_map encoding fs) c.bytes
      ∙ sym (flat_map-append encoding w.frames fs);
}

-- the frames read are a prefix of those on their way
pub prefix_read : (wide : Bool) (reader : Option (List ℕ)) (waiting : List ℕ) (w : Wire) (m : ℕ) (answer : Result (Unit {0}) ReadFault) (frames : List Frame)
    (new : Option (List ℕ)) → Carries wide reader waiting w → Feeds wide reader (take m waiting) answer frames new
    → (more : List Frame) × (w.frames ≡ frames ++ more)
prefix_read wide reader waiting w m answer frames new c f =
    let g : Feeds wide (Some c.unfinished) (take m waiting) answer frames new = rw c.reader_is at f in
    let whole_ : (c.unfinished ++ take m waiting) ++ drop m waiting ≡ flat_map encoding w.frames =
    append_assoc c.unfinished (take m waiting) (drop m waiting) ∙ ap (λ (x : List ℕ). c.unfinished ++ x) (take-append-drop m waiting) ∙ c.bytes in
    let s = reads_sent wide c.unfinished (take m waiting) (drop m waiting) w.frames answer frames new c.each whole_ g in
    (s.0, s.1)
