-- One frame of a piece.
use Rattle.std.proofs.Common.{◌≡◌, ℕ, Bool, true, zero, suc, ◌+◌, ◌-◌, ◌<◌, ◌≤◌, List, [], ◌∷◌, ◌++◌, length, take, drop, Option, Some, None, Result, Ok, Err, refl, sym, ap, subst, ◌∙◌, append_assoc, arith}
use Rattle.std.specs.Prelude.{option_to_list, IfNone, IfOk, IsOk}
use Rattle.std.proofs.Math.Seq.{take-append_seam, take-append-add, take-length}
use Rattle.std.proofs.lemmas.List.{length-append, append-nil, take-append-drop}
use Rattle.frame_codec.specs.declared.frame.Frame.{Frame}
use Rattle.frame_codec.specs.declared.reader.ReadFault.{ReadFault}
use Rattle.frame_codec.specs.declared.reader.ReadFault.TheVariants.{Memory, Failed}
use Rattle.frame_codec.specs.declared.reader.FrameRead.{FrameRead}
use Rattle.frame_codec.specs.Frames.{encoding}
use Rattle.frame_codec.specs.Streams.{IsFrameOf, Feeds, HasFrame, IsPartial, Reads, TakesFrame}
use Rattle.frame_codec.proofs.Prefixes.{in_all, nothing_partial, partial_in_all}
use Rattle.frame_codec.proofs.Pieces.{frame_stops, frame_ahead}
use Rattle.frame_codec.proofs.Runs.{begins_none, begins_one, begins_ahead, reads_on, stops_on}

-- so many of the piece's bytes end the frame
ends_frame : (old piece rest : List ℕ) (f : Frame) → old ++ piece ≡ encoding f ++ rest → length rest ≤ length piece →
    old ++ take (length piece - length rest) piece ≡ encoding f
ends_frame old piece rest f e le =
    let n : ℕ = length piece - length rest in
    let m : length old + n ≡ length (encoding f) =
    omega (arith, le, sym (length-append old piece) ∙ ap length e ∙ length-append (encoding f) rest) in
    sym (take-append-add old piece n) ∙ ap (λ k. take k (old ++ piece)) m ∙ ap (take (length (encoding f))) e ∙ take-append_seam (encoding f) rest

-- a frame needs a byte at least
needs_some : (wide : Bool) (old piece : List ℕ) (n : ℕ) (f : Frame) → IsPartial true old → IsFrameOf wide f → old ++ take n piece ≡ encoding f → 0 < n
needs_some wide old piece zero f p fits e =
    let none : old ≡ encoding f = sym (append-nil old) ∙ e in
    absurd (p.no_frame (f, [], in_all f fits.frame, none ∙ sym (append-nil (encoding f))))
needs_some wide old piece (suc n) f p fits e = omega arith

-- a frame that a piece completes
pub takes_frame : (wide : Bool) (old piece rest new : List ℕ) (f : Frame) → IsPartial true old → IsFrameOf wide f → old ++ piece ≡ encoding f ++ rest → length rest ≤ length piece →
    new ≡ [] → TakesFrame wide (Some old) piece (record { count = length piece - length rest; frame = Some f }) (Some new)
takes_frame wide old piece rest new f p fits e le none =
    let whole : old ++ take (length piece - length rest) piece ≡ encoding f = ends_frame old piece rest f e le in
    let read : Reads wide (old ++ take (length piece - length rest) piece) (f ∷ []) [] =
    record { begins = begins_one wide _ f [] fits (whole ∙ sym (append-nil (encoding f))); partial = nothing_partial wide } in
    record {
      within = omega arith;
      fed = ([], read, ap (λ (x : List ℕ). Some x) none);
      whole = tt;
      ends = (needs_some wide old piece (length piece - length rest) f p fits whole, ap (λ (x : List ℕ). Some x) none);
    }

-- a piece that completes none
pub takes_all : (wide : Bool) (old piece new : List ℕ) → new ≡ old ++ piece → IsPartial wide new →
    TakesFrame wide (Some old) piece (record { count = length piece; frame = None }) (Some new)
takes_all wide old piece new e p = record {
  within = omega arith;
  fed = (
    new,
    rw take-length (subst (λ (x : List ℕ). Reads wide x [] new) e (record { begins = begins_none wide new; partial = p })),
    refl,
  );
  whole = refl;
  ends = tt;
}

-- a reader that is fed two pieces, the first without a fault, is fed both at once
pub feeds_both : (wide : Bool) (old : Option (List ℕ)) (p q : List ℕ) (answer : Result (Unit {0}) ReadFault) (fs gs : List Frame) (mid new : Option (List ℕ)) →
    Feeds wide old p (Ok tt) fs mid → Feeds wide mid q answer gs new → Feeds wide old (p ++ q) answer (fs ++ gs) new
feeds_both wide None p q answer fs gs mid new a b = let no : Ok tt ≡ Err Failed = a.0 in absurd cc
feeds_both wide (Some o) p q (Ok d) fs gs mid new a b =
    let second : Feeds wide (Some a.0) q (Ok d) gs new = subst (λ (m : Option (List ℕ)). Feeds wide m q (Ok d) gs new) a.2 b in (
      second.0,
      rw (sym (append_assoc o p q)) (reads_on wide ((o ++ p) ++ q) fs gs (a.0 ++ q) second.0 (begins_ahead wide (o ++ p) fs a.0 q a.1.begins) second.1),
      second.2,
    )
feeds_both wide (Some o) p q (Err fault) fs gs mid new a b =
    let second : Feeds wide (Some a.0) q (Err fault) gs new = subst (λ (m : Option (List ℕ)). Feeds wide m q (Err fault) gs new) a.2 b in
    (rw (sym (append_assoc o p q)) (stops_on wide ((o ++ p) ++ q) fs gs (a.0 ++ q) fault (begins_ahead wide (o ++ p) fs a.0 q a.1.begins) second.0), second.1)

-- What is left of a piece, fed to a reader, is the end of what the whole piece does to the reader
-- before it.
abbrev pub GoesOn : Bool → Option (List ℕ) → List ℕ → List Frame → Option (List ℕ) → List ℕ → Type 0
GoesOn wide old piece frames now rest = (answer : Result (Unit {0}) ReadFault) (more : List Frame) (new : Option (List ℕ)) → Feeds wide now rest answer more new →
    Feeds wide old piece answer (frames ++ more) new

-- one more frame of it
pub goes_on_frame : (wide : Bool) (old : Option (List ℕ)) (piece : List ℕ) (frames : List Frame) (now : Option (List ℕ)) (rest : List ℕ) (n : ℕ) (f : Frame)
    (mid : Option (List ℕ)) → GoesOn wide old piece frames now rest → Feeds wide now (take n rest) (Ok tt) (f ∷ []) mid → GoesOn wide old piece (frames ++ f ∷ []) mid (drop n rest)
goes_on_frame wide old piece frames now rest n f mid g a answer more new b =
    let both : Feeds wide now (take n rest ++ drop n rest) answer (f ∷ [] ++ more) new =
    feeds_both wide now (take n rest) (drop n rest) answer (f ∷ []) more mid new a b in
    rw (append_assoc frames (f ∷ []) more)
    (g answer (f ∷ [] ++ more) new (subst (λ (x : List ℕ). Feeds wide now x answer (f ∷ [] ++ more) new) (take-append-drop n rest) both))

-- if a frame was complete and memory for it was refused, the reader stops before it
pub refused_frame : (wide : Bool) (now : Option (List ℕ)) (rest : List ℕ) (n : ℕ) (f : Frame) (mid : Option (List ℕ)) → Feeds wide now (take n rest) (Ok tt) (f ∷ []) mid →
    Feeds wide now rest (Err Memory) [] None
refused_frame wide None rest n f mid a = let no : Ok tt ≡ Err Failed = a.0 in absurd cc
refused_frame wide (Some old) rest n f mid a =
    let whole = a.1.begins.whole in
    let here : HasFrame wide (old ++ take n rest) = (f, a.0, a.1.begins.each.0, whole ∙ ap (λ (x : List ℕ). x ++ a.0) (append-nil (encoding f))) in
    let all : HasFrame wide (old ++ rest) =
    subst (λ (x : List ℕ). HasFrame wide (old ++ x)) (take-append-drop n rest)
    (subst (HasFrame wide) (append_assoc old (take n rest) (drop n rest)) (frame_ahead wide (old ++ take n rest) (drop n rest) here)) in
    ((old ++ rest, begins_none wide (old ++ rest), frame_stops wide (old ++ rest) all), refl)

-- ---- what was taken, by whether a frame is whole

pub fed_one : (wide : Bool) (old : Option (List ℕ)) (piece : List ℕ) (t : FrameRead) (new : Option (List ℕ)) (f : Frame) → TakesFrame wide old piece t new → t.frame ≡ Some f →
    Feeds wide old (take t.count piece) (Ok tt) (f ∷ []) new
fed_one wide old piece t new f k is = subst (λ (x : Option Frame). Feeds wide old (take t.count piece) (Ok tt) (option_to_list x) new) is k.fed

pub fed_none : (wide : Bool) (old : Option (List ℕ)) (piece : List ℕ) (t : FrameRead) (new : Option (List ℕ)) → TakesFrame wide old piece t new → t.frame ≡ None →
    Feeds wide old piece (Ok tt) [] new
fed_none wide old piece t new k is =
    let all : t.count ≡ length piece = subst (λ (x : Option Frame). IfNone x (t.count ≡ length piece)) is k.whole in
    let fed : Feeds wide old (take t.count piece) (Ok tt) [] new =
    subst (λ (x : Option Frame). Feeds wide old (take t.count piece) (Ok tt) (option_to_list x) new) is k.fed in
    subst (λ (x : List ℕ). Feeds wide old x (Ok tt) [] new) (ap (λ k. take k piece) all ∙ take-length piece) fed

-- what a reader keeps after a piece is less than a frame
pub keeps_partial : (wide : Bool) (old : List ℕ) (piece : List ℕ) (r : Result FrameRead ReadFault) (new : List ℕ) →
    IfOk r (λ t. TakesFrame wide (Some old) piece t (Some new)) → IsOk r → IsPartial true new
keeps_partial wide old piece (Ok t) new k ok =
    let same : k.fed.0 ≡ new = some_same k.fed.0 new (sym k.fed.2) in
    subst (IsPartial true) same (partial_in_all wide k.fed.0 k.fed.1.partial)
  where
    some_same : (x y : List ℕ) → Some x ≡ Some y → x ≡ y
    some_same x y e = cc
keeps_partial wide old piece (Err fault) new k ok = absurd cc
