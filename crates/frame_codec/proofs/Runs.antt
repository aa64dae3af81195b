-- Frames one after another.
use Rattle.std.proofs.Common.{◌≡◌, ℕ, Bool, List, [], ◌∷◌, ◌++◌, Option, Some, Err, refl, sym, ap, subst, ◌∙◌, append_assoc}
use Rattle.std.specs.List.{flat_map, AllByRecursion}
use Rattle.std.proofs.lemmas.List.{append-nil}
use Rattle.std.proofs.lemmas.List.Concat.{flat_map-cons, flat_map-append}
use Rattle.frame_codec.specs.declared.frame.Frame.{Frame}
use Rattle.frame_codec.specs.declared.reader.ReadFault.{ReadFault}
use Rattle.frame_codec.specs.Frames.{encoding}
use Rattle.frame_codec.specs.Streams.{IsFrameOf, Begins, Reads, Stops, Feeds, FeedsAll, IsPartial, joined_pieces}
use Rattle.frame_codec.proofs.Prefixes.{nothing_partial}
use Rattle.frame_codec.proofs.Unique.{one_reading}

-- what is so of each of some and of others is so of all
pub all_append : {X : Type 0} (P : X → Type 0) (xs ys : List X) → AllByRecursion P xs → AllByRecursion P ys → AllByRecursion P (xs ++ ys)
all_append P [] ys all others = others
all_append P (x ∷ xs) ys all others = (all.0, all_append P xs ys all.1 others)

pub begins_none : (wide : Bool) (bytes : List ℕ) → Begins wide bytes [] bytes
begins_none wide bytes = record { whole = refl; each = tt }

pub begins_one : (wide : Bool) (bytes : List ℕ) (f : Frame) (more : List ℕ) → IsFrameOf wide f → bytes ≡ encoding f ++ more → Begins wide bytes (f ∷ []) more
begins_one wide bytes f more fits e = record {
  whole = e ∙ ap (λ (x : List ℕ). x ++ more) (sym (append-nil (encoding f)) ∙ sym (flat_map-cons encoding f []));
  each = (fits, tt);
}

-- frames, and then those of the rest
pub begins_both : (wide : Bool) (bytes : List ℕ) (fs gs : List Frame) (rest more : List ℕ) → Begins wide bytes fs rest → Begins wide rest gs more → Begins wide bytes (fs ++ gs) more
begins_both wide bytes fs gs rest more a b = record {
  whole = a.whole ∙ ap (λ (x : List ℕ). flat_map encoding fs ++ x) b.whole ∙ sym (append_assoc (flat_map encoding fs) (flat_map encoding gs) more)
      ∙ ap (λ (x : List ℕ). x ++ more) (sym (flat_map-append encoding fs gs));
  each = all_append (IsFrameOf wide) fs gs a.each b.each;
}

pub begins_more : (wide : Bool) (bytes : List ℕ) (fs : List Frame) (rest : List ℕ) (f : Frame) (more : List ℕ) → Begins wide bytes fs rest → IsFrameOf wide f →
    rest ≡ encoding f ++ more → Begins wide bytes (fs ++ f ∷ []) more
begins_more wide bytes fs rest f more b fits e = begins_both wide bytes fs (f ∷ []) rest more b (begins_one wide rest f more fits e)

-- bytes that come later are after the rest
pub begins_ahead : (wide : Bool) (bytes : List ℕ) (fs : List Frame) (rest later : List ℕ) → Begins wide bytes fs rest → Begins wide (bytes ++ later) fs (rest ++ later)
begins_ahead wide bytes fs rest later b = record { whole = ap (λ (x : List ℕ). x ++ later) b.whole ∙ append_assoc (flat_map encoding fs) rest later; each = b.each }

-- a rest that reads on
pub reads_on : (wide : Bool) (bytes : List ℕ) (fs gs : List Frame) (rest more : List ℕ) → Begins wide bytes fs rest → Reads wide rest gs more → Reads wide bytes (fs ++ gs) more
reads_on wide bytes fs gs rest more b r = record { begins = begins_both wide bytes fs gs rest more b r.begins; partial = r.partial }

pub stops_on : (wide : Bool) (bytes : List ℕ) (fs gs : List Frame) (rest : List ℕ) (fault : ReadFault) → Begins wide bytes fs rest → Stops wide rest gs fault →
    Stops wide bytes (fs ++ gs) fault
stops_on wide bytes fs gs rest fault b s = (s.0, begins_both wide bytes fs gs rest s.0 b s.1, s.2)

-- ---- pieces one after another

-- pieces, read on from what is before them
pub reads_pieces : (wide : Bool) (pieces : List (List ℕ)) (old : List ℕ) (frames : List Frame) (rest : List ℕ) → IsPartial wide old → FeedsAll wide old pieces frames rest →
    Reads wide (old ++ joined_pieces pieces) frames rest
reads_pieces wide [] old frames rest p f = rw (f.0, f.1, append-nil old) record { begins = begins_none wide old; partial = p }
reads_pieces wide (piece ∷ pieces) old frames rest p f =
    let between : List ℕ = f.4.0 in
    let first = f.4.1 in
    let same : f.1 ≡ f.4.0 = some_same f.1 f.4.0 f.4.2 in
    let read : Reads wide (old ++ piece) f.0 f.1 = rw same first in
    let later : Reads wide (f.1 ++ joined_pieces pieces) f.2 rest = reads_pieces wide pieces f.1 f.2 rest read.partial f.5 in
    let whole : old ++ joined_pieces (piece ∷ pieces) ≡ (old ++ piece) ++ joined_pieces pieces =
    ap (λ (x : List ℕ). old ++ x) (flat_map-cons (λ (x : List ℕ). x) piece pieces) ∙ sym (append_assoc old piece (joined_pieces pieces)) in
    rw (whole, f.6) (reads_on wide ((old ++ piece) ++ joined_pieces pieces) f.0 f.2 (f.1 ++ joined_pieces pieces) rest
    (begins_ahead wide (old ++ piece) f.0 f.1 (joined_pieces pieces) read.begins) later)
  where
    some_same : (x y : List ℕ) → Some x ≡ Some y → x ≡ y
    some_same x y e = cc

pub reads_all : (wide : Bool) (pieces : List (List ℕ)) (frames : List Frame) (rest : List ℕ) → FeedsAll wide [] pieces frames rest → Reads wide (joined_pieces pieces) frames rest
reads_all wide pieces frames rest f = reads_pieces wide pieces [] frames rest (nothing_partial wide) f

pub stops_after : (wide : Bool) (pieces : List (List ℕ)) (frames : List Frame) (rest piece : List ℕ) (fault : ReadFault) (last : List Frame) (new : Option (List ℕ)) →
    FeedsAll wide [] pieces frames rest → Feeds wide (Some rest) piece (Err fault) last new → Stops wide (joined_pieces pieces ++ piece) (frames ++ last) fault
stops_after wide pieces frames rest piece fault last new f s =
    stops_on wide (joined_pieces pieces ++ piece) frames last (rest ++ piece) fault
    (begins_ahead wide (joined_pieces pieces) frames rest piece (reads_all wide pieces frames rest f).begins) s.0

pub same_frames : (wide : Bool) (pieces others : List (List ℕ)) (frames more : List Frame) (rest end : List ℕ) → FeedsAll wide [] pieces frames rest →
    FeedsAll wide [] others more end → joined_pieces pieces ≡ joined_pieces others → (frames ≡ more) × (rest ≡ end)
same_frames wide pieces others frames more rest end f g e =
    let a = reads_all wide pieces frames rest f in
    let b = reads_all wide others more end g in
    one_reading wide (joined_pieces pieces) frames more rest end a.begins (subst (λ (x : List ℕ). Begins wide x more end) (sym e) b.begins) a.partial.no_frame
    b.partial.no_frame
