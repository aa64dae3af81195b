-- Bytes are read in one way.
use Rattle.std.proofs.Common.{◌≡◌, ℕ, ◌/◌, ◌^◌, ◌<◌, Bool, true, false, List, [], ◌∷◌, ◌++◌, length, drop, take, get_or, All, Result, Ok, Err, Option, Some, refl, sym, ap, subst, ◌∙◌, append_assoc, arith}
use Rattle.std.specs.Prelude.{◌==◌, if◌then◌else◌}
use Rattle.std.specs.List.{flat_map, AllByRecursion}
use Rattle.std.proofs.lemmas.List.{append-nil}
use Rattle.std.proofs.lemmas.List.Concat.{flat_map-cons}
use Rattle.std.proofs.lemmas.List.Elements.{recursion_from_All}
use Rattle.frame_codec.specs.declared.frame.Frame.{Frame}
use Rattle.frame_codec.specs.declared.frame.Frame.TheVariants.{Load, Hello, HintAsk, DeltaAsk, Query, Edit, Publish, Bye, Append, ChangesAsk, Welcome, HintPart, Delta, Answer, Stale, Done, NoDelta, Changes, Refused}
use Rattle.frame_codec.specs.declared.reader.ReadFault.{ReadFault}
use Rattle.frame_codec.specs.declared.reader.ReadFault.TheVariants.{TooLong, UnknownKind, BadPayload, Memory, Failed}
use Rattle.frame_codec.specs.Numbers.{number_bytes, number_in, word_bytes}
use Rattle.frame_codec.specs.Frames.{encoding, IsFrame, HasFields, Stands, kind_of, payload_of}
use Rattle.frame_codec.specs.Streams.{HasFrame, HasFault, StopsAt, IsFrameOf, Begins, Feeds, Arrives, length_at, kind_at}
use Rattle.frame_codec.proofs.NumberBytes.{length-words, number_back, drop_number, words_in, words_back}
use Rattle.frame_codec.proofs.Prefixes.{announced, fault_ahead, in_all}

-- the words that are all
words_all : List ℕ → List ℕ
words_all bytes = words_in (length bytes / 4) bytes

words_all_back : (words : List ℕ) → All (λ w. w < 2 ^ 32) words → words_all (word_bytes words) ≡ words
unfolding words_all
words_all_back words all =
    let n : length (word_bytes words) / 4 ≡ length words = omega (arith, length-words words) in
    rw n (words_back words (recursion_from_All (λ w. w < 2 ^ 32) words all))

-- a welcome's fields, each after the one before
welcome_in : List ℕ → Frame
welcome_in p =
    let p2 : List ℕ = drop 2 p in
    let p3 : List ℕ = drop 1 p2 in
    let p5 : List ℕ = drop 2 p3 in
    let p7 : List ℕ = drop 2 p5 in
    let p11 : List ℕ = drop 4 p7 in
    let p19 : List ℕ = drop 8 p11 in
    Welcome (number_in 2 p) (get_or p2 0 0) (number_in 2 p3) (number_in 2 p5) (number_in 4 p7) (number_in 8 p11) (number_in 2 p19) (drop 2 p19)

-- a Delta's fields, each after the one before
delta_in : List ℕ → Frame
delta_in p =
    let p8 : List ℕ = drop 8 p in
    let p16 : List ℕ = drop 8 p8 in
    let p20 : List ℕ = drop 4 p16 in
    Delta (number_in 8 p) (number_in 8 p8) (number_in 4 p16) (record { dimension = number_in 2 p20; words = words_all (drop 2 p20) })

-- the fields of changed records, each after the one before
changes_in : List ℕ → Frame
changes_in p =
    let p8 : List ℕ = drop 8 p in
    let p16 : List ℕ = drop 8 p8 in
    Changes (number_in 8 p) (number_in 8 p8) (number_in 4 p16) (drop 4 p16)

-- the frame of a kind and a payload, if there is one
frame_of : ℕ → List ℕ → Frame
frame_of k p =
    if k == 1 then Load (number_in 2 p) (number_in 2 (drop 2 p)) (get_or (drop 2 (drop 2 p)) 0 0) (drop 1 (drop 2 (drop 2 p)))
    else (if k == 2 then Hello (number_in 2 p) (drop 2 p)
    else (if k == 3 then HintAsk (get_or p 0 0) (number_in 8 (drop 1 p)) (number_in 4 (drop 8 (drop 1 p)))
    else (if k == 4 then DeltaAsk (number_in 8 p)
    else (if k == 5 then Query (get_or p 0 0) (number_in 8 (drop 1 p)) (words_all (drop 8 (drop 1 p)))
    else (if k == 6 then Edit (number_in 4 p) (drop 4 p)
    else (if k == 7 then Publish
    else (if k == 8 then Bye
    else (if k == 9 then Append p
    else (if k == 10 then ChangesAsk (number_in 8 p)
    else (if k == 130 then welcome_in p
    else (if k == 131 then HintPart (get_or p 0 0) (number_in 8 (drop 1 p)) (number_in 4 (drop 8 (drop 1 p))) (words_all (drop 4 (drop 8 (drop 1 p))))
    else (if k == 132 then delta_in p
    else (if k == 133 then Answer (get_or p 0 0) (number_in 8 (drop 1 p)) (words_all (drop 8 (drop 1 p)))
    else (if k == 134 then Stale (number_in 8 p) (number_in 4 (drop 8 p))
    else (if k == 135 then Done (number_in 8 p)
    else (if k == 136 then NoDelta (number_in 8 p) (number_in 4 (drop 8 p))
    else (if k == 138 then changes_in p
    else Refused (get_or p 0 0))))))))))))))))))

number_alone_back : (n x : ℕ) → x < 256 ^ n → number_in n (number_bytes n x) ≡ x
number_alone_back n x h = ap (number_in n) (sym (append-nil (number_bytes n x))) ∙ number_back n x [] h

frame_back : (f : Frame) → HasFields f → frame_of (kind_of f) (payload_of f) ≡ f
unfolding frame_of payload_of welcome_in delta_in changes_in
frame_back (Load record_len groups width records) fits =
    rw (
      number_back 2 record_len (number_bytes 2 groups ++ (width ∷ records)) fits.0,
      drop_number 2 record_len (number_bytes 2 groups ++ (width ∷ records)),
      number_back 2 groups (width ∷ records) fits.1,
      drop_number 2 groups (width ∷ records),
    ) refl
frame_back (Query scheme version words) fits =
    rw (number_back 8 version (word_bytes words) fits.1, drop_number 8 version (word_bytes words), words_all_back words fits.2) refl
frame_back (Hello profile key) fits = rw (number_back 2 profile key fits.0, drop_number 2 profile key) refl
frame_back (HintAsk scheme version part) fits =
    rw (number_back 8 version (number_bytes 4 part) fits.1, drop_number 8 version (number_bytes 4 part), number_alone_back 4 part fits.2) refl
frame_back (DeltaAsk since) fits = rw (number_alone_back 8 since fits) refl
frame_back (Edit index bytes) fits = rw (number_back 4 index bytes fits.0, drop_number 4 index bytes) refl
frame_back Publish fits = refl
frame_back Bye fits = refl
frame_back (Append bytes) fits = refl
frame_back (ChangesAsk since) fits = rw (number_alone_back 8 since fits) refl
frame_back (Welcome profile width record_len groups count version dimension seed) fits =
    let p19 : List ℕ = number_bytes 2 dimension ++ seed in
    let p11 : List ℕ = number_bytes 8 version ++ (number_bytes 2 dimension ++ seed) in
    let p7 : List ℕ = number_bytes 4 count ++ (number_bytes 8 version ++ (number_bytes 2 dimension ++ seed)) in
    let p5 : List ℕ = number_bytes 2 groups ++ (number_bytes 4 count ++ (number_bytes 8 version ++ (number_bytes 2 dimension ++ seed))) in
    let p3 : List ℕ = number_bytes 2 record_len
    ++ (number_bytes 2 groups ++ (number_bytes 4 count ++ (number_bytes 8 version ++ (number_bytes 2 dimension ++ seed)))) in
    rw (
      number_back 2 profile (width ∷ p3) fits.0,
      drop_number 2 profile (width ∷ p3),
      number_back 2 record_len p5 fits.2,
      drop_number 2 record_len p5,
      number_back 2 groups p7 fits.3,
      drop_number 2 groups p7,
      number_back 4 count p11 fits.4,
      drop_number 4 count p11,
      number_back 8 version p19 fits.5,
      drop_number 8 version p19,
      number_back 2 dimension seed fits.6,
      drop_number 2 dimension seed,
    ) refl
frame_back (HintPart scheme version part words) fits =
    let p9 : List ℕ = number_bytes 4 part ++ word_bytes words in
    rw (
      number_back 8 version p9 fits.1,
      drop_number 8 version p9,
      number_back 4 part (word_bytes words) fits.2,
      drop_number 4 part (word_bytes words),
      words_all_back words fits.3,
    ) refl
frame_back (Delta since now count rows) fits =
    let p20 : List ℕ = number_bytes 2 rows.dimension ++ word_bytes rows.words in
    let p16 : List ℕ = number_bytes 4 count ++ (number_bytes 2 rows.dimension ++ word_bytes rows.words) in
    let p8 : List ℕ = number_bytes 8 now ++ (number_bytes 4 count ++ (number_bytes 2 rows.dimension ++ word_bytes rows.words)) in
    rw (
      number_back 8 since p8 fits.0,
      drop_number 8 since p8,
      number_back 8 now p16 fits.1,
      drop_number 8 now p16,
      number_back 4 count p20 fits.2,
      drop_number 4 count p20,
      number_back 2 rows.dimension (word_bytes rows.words) fits.3,
      drop_number 2 rows.dimension (word_bytes rows.words),
      words_all_back rows.words fits.5,
    ) refl
frame_back (Answer scheme version words) fits =
    rw (number_back 8 version (word_bytes words) fits.1, drop_number 8 version (word_bytes words), words_all_back words fits.2) refl
frame_back (Stale version count) fits =
    rw (number_back 8 version (number_bytes 4 count) fits.0, drop_number 8 version (number_bytes 4 count), number_alone_back 4 count fits.1) refl
frame_back (Done version) fits = rw (number_alone_back 8 version fits) refl
frame_back (NoDelta version count) fits =
    rw (number_back 8 version (number_bytes 4 count) fits.0, drop_number 8 version (number_bytes 4 count), number_alone_back 4 count fits.1) refl
frame_back (Changes since now count entries) fits =
    let p8 : List ℕ = number_bytes 8 now ++ (number_bytes 4 count ++ entries) in
    rw (
      number_back 8 since p8 fits.0,
      drop_number 8 since p8,
      number_back 8 now (number_bytes 4 count ++ entries) fits.1,
      drop_number 8 now (number_bytes 4 count ++ entries),
      number_back 4 count entries fits.2,
      drop_number 4 count entries,
    ) refl
frame_back (Refused code) fits = refl

one_frame : (k : ℕ) (p : List ℕ) (f g : Frame) → Stands k p f → Stands k p g → f ≡ g
one_frame k p f g a b =
    let x : frame_of k p ≡ f = rw (← a.kind, ← a.payload) (frame_back f a.fields) in
    let y : frame_of k p ≡ g = rw (← b.kind, ← b.payload) (frame_back g b.fields) in
    sym x ∙ y

-- no encoding begins another
pub one_encoding : (f g : Frame) (x y : List ℕ) → IsFrame f → IsFrame g → encoding f ++ x ≡ encoding g ++ y → (f ≡ g) × (x ≡ y)
one_encoding f g x y ff gg e =
    let a = announced true (encoding f ++ x) f x (in_all f ff) refl in
    let b = announced true (encoding f ++ x) g y (in_all g gg) e in
    (one_frame (kind_at (encoding f ++ x)) (take (length_at (encoding f ++ x)) (drop 5 (encoding f ++ x))) f g a.stands b.stands, a.after ∙ sym b.after)

pub regroup : (f : Frame) (fs : List Frame) (r : List ℕ) → flat_map encoding (f ∷ fs) ++ r ≡ encoding f ++ (flat_map encoding fs ++ r)
regroup f fs r = ap (λ (x : List ℕ). x ++ r) (flat_map-cons encoding f fs) ∙ append_assoc (encoding f) (flat_map encoding fs) r

-- the frames of one reading begin those of another that ends where no frame is whole
pub one_prefix : (wide : Bool) (fs gs : List Frame) (r s : List ℕ) → AllByRecursion (IsFrameOf wide) fs → AllByRecursion (IsFrameOf wide) gs →
    flat_map encoding fs ++ r ≡ flat_map encoding gs ++ s → (HasFrame wide s → ⊥)
    → (more : List Frame) × (gs ≡ fs ++ more) × (r ≡ flat_map encoding more ++ s) × AllByRecursion (IsFrameOf wide) more
one_prefix wide [] gs r s ff gg e last = (gs, refl, e, gg)
one_prefix wide (f ∷ fs) [] r s ff gg e last = absurd (last (f, flat_map encoding fs ++ r, ff.0, sym e ∙ regroup f fs r))
one_prefix wide (f ∷ fs) (g ∷ gs) r s ff gg e last =
    let one = one_encoding f g (flat_map encoding fs ++ r) (flat_map encoding gs ++ s) ff.0.frame gg.0.frame (sym (regroup f fs r) ∙ e ∙ regroup g gs s) in
    let m = one_prefix wide fs gs r s ff.1 gg.1 one.1 last in
    (m.0, ap (λ (x : Frame). x ∷ gs) (sym one.0) ∙ ap (λ (x : List Frame). f ∷ x) m.1, m.2, m.3)

same_reading : (wide : Bool) (fs gs : List Frame) (r s : List ℕ) → AllByRecursion (IsFrameOf wide) fs → AllByRecursion (IsFrameOf wide) gs →
    flat_map encoding fs ++ r ≡ flat_map encoding gs ++ s → (HasFrame wide r → ⊥) → (HasFrame wide s → ⊥) → (fs ≡ gs) × (r ≡ s)
same_reading wide [] [] r s ff gg e lr ls = (refl, e)
same_reading wide [] (g ∷ gs) r s ff gg e lr ls = absurd (lr (g, flat_map encoding gs ++ s, gg.0, e ∙ regroup g gs s))
same_reading wide (f ∷ fs) [] r s ff gg e lr ls = absurd (ls (f, flat_map encoding fs ++ r, ff.0, sym e ∙ regroup f fs r))
same_reading wide (f ∷ fs) (g ∷ gs) r s ff gg e lr ls =
    let one = one_encoding f g (flat_map encoding fs ++ r) (flat_map encoding gs ++ s) ff.0.frame gg.0.frame (sym (regroup f fs r) ∙ e ∙ regroup g gs s) in
    let m = same_reading wide fs gs r s ff.1 gg.1 one.1 lr ls in
    (ap (λ (x : Frame). x ∷ fs) one.0 ∙ ap (λ (x : List Frame). g ∷ x) m.0, m.1)

pub one_reading : (wide : Bool) (bytes : List ℕ) (frames others : List Frame) (rest end : List ℕ) → Begins wide bytes frames rest → Begins wide bytes others end →
    (HasFrame wide rest → ⊥) → (HasFrame wide end → ⊥) → (frames ≡ others) × (rest ≡ end)
one_reading wide bytes frames others rest end a b last final = same_reading wide frames others rest end a.each b.each (sym a.whole ∙ b.whole) last final

-- ---- frames that are on their way

-- no fault is at the beginning of a frame
pub fault_of_frame : (wide : Bool) (fault : ReadFault) (bytes : List ℕ) → HasFault wide fault bytes → HasFrame wide bytes → ⊥
fault_of_frame wide TooLong bytes h w = let a = announced wide bytes w.0 w.1 w.2 w.3 in omega (arith, a.len, h.1)
fault_of_frame wide UnknownKind bytes h w =
    let a = announced wide bytes w.0 w.1 w.2 w.3 in
    let bad : true ≡ false = sym a.kind ∙ h.2 in
    absurd cc
fault_of_frame wide BadPayload bytes h w = h.3 w
fault_of_frame wide Memory bytes h w = h
fault_of_frame wide Failed bytes h w = h

nothing_bad : (wide : Bool) (fault : ReadFault) → HasFault wide fault [] → ⊥
nothing_bad wide TooLong h = omega (arith, h.0)
nothing_bad wide UnknownKind h = omega (arith, h.0)
nothing_bad wide BadPayload h = omega (arith, h.0)
nothing_bad wide Memory h = h
nothing_bad wide Failed h = h

-- no fault is where frames are on their way
no_fault_ahead : (wide : Bool) (fault : ReadFault) (rest later : List ℕ) (more : List Frame) → AllByRecursion (IsFrameOf wide) more → rest ++ later ≡ flat_map encoding more →
    HasFault wide fault rest → ⊥
no_fault_ahead wide fault rest later [] all e h = nothing_bad wide fault (subst (HasFault wide fault) e (fault_ahead wide fault rest later h))
no_fault_ahead wide fault rest later (m ∷ ms) all e h = fault_of_frame wide fault (rest ++ later) (fault_ahead wide fault rest later h) (
  m,
  flat_map encoding ms,
  all.0,
  e
      ∙ flat_map-cons encoding m ms,
)

nothing_whole : (wide : Bool) → HasFrame wide [] → ⊥
nothing_whole wide h = let a = announced wide [] h.0 h.1 h.2 h.3 in omega (arith, a.size)

stops_on_way : (wide : Bool) (fault : ReadFault) (new : Option (List ℕ)) (rest later : List ℕ) (more : List Frame) → AllByRecursion (IsFrameOf wide) more →
    rest ++ later ≡ flat_map encoding more → StopsAt wide fault rest → Arrives (Err fault) new later more
stops_on_way wide TooLong new rest later more all e h = absurd (no_fault_ahead wide TooLong rest later more all e h)
stops_on_way wide UnknownKind new rest later more all e h = absurd (no_fault_ahead wide UnknownKind rest later more all e h)
stops_on_way wide BadPayload new rest later more all e h = absurd (no_fault_ahead wide BadPayload rest later more all e h)
stops_on_way wide Memory new rest later more all e h = tt
stops_on_way wide Failed new rest later more all e h = absurd h

-- what comes of frames that were sent: those that are whole are read, and the others are still on
-- their way
pub reads_sent : (wide : Bool) (old piece later : List ℕ) (sent : List Frame) (answer : Result (Unit {0}) ReadFault) (frames : List Frame) (new : Option (List ℕ)) →
    AllByRecursion (IsFrameOf wide) sent → (old ++ piece) ++ later ≡ flat_map encoding sent
    → Feeds wide (Some old) piece answer frames new → (more : List Frame) × (sent ≡ frames ++ more) × AllByRecursion (IsFrameOf wide) more × Arrives answer new later more
reads_sent wide old piece later sent (Ok d) frames new all e f =
    let b = f.1.begins in
    let whole : flat_map encoding frames ++ (f.0 ++ later) ≡ flat_map encoding sent ++ [] = sym (append_assoc (flat_map encoding frames) f.0 later)
    ∙ ap (λ (x : List ℕ). x ++ later) (sym b.whole) ∙ e ∙ sym (append-nil (flat_map encoding sent)) in
    let m = one_prefix wide frames sent (f.0 ++ later) [] b.each all whole (nothing_whole wide) in
    (m.0, m.1, m.3, rw f.2 (m.2 ∙ append-nil (flat_map encoding m.0)))
reads_sent wide old piece later sent (Err fault) frames new all e f =
    let b = f.0.1 in
    let whole : flat_map encoding frames ++ (f.0.0 ++ later) ≡ flat_map encoding sent ++ [] = sym (append_assoc (flat_map encoding frames) f.0.0 later)
    ∙ ap (λ (x : List ℕ). x ++ later) (sym b.whole) ∙ e ∙ sym (append-nil (flat_map encoding sent)) in
    let m = one_prefix wide frames sent (f.0.0 ++ later) [] b.each all whole (nothing_whole wide) in
    (m.0, m.1, m.3, stops_on_way wide fault new f.0.0 later m.0 m.3 (m.2 ∙ append-nil (flat_map encoding m.0)) f.0.2)
