-- What a piece leads to.
use Rattle.std.proofs.Common.{◌≡◌, ℕ, zero, suc, ◌<◌, List, [], ◌∷◌, ◌++◌, append_assoc, length, take, drop, Bool, true, false, Option, Some, Ok, Err, arith, ap, ◌∙◌, sym, refl, subst, inl, inr, ◌⊎◌}
use Rattle.std.specs.Prelude.{cond, MatchBool}
use Rattle.std.specs.List.{flat_map, AllByRecursion}
use Rattle.std.proofs.lemmas.List.{append-nil, take-append-drop}
use Rattle.std.proofs.lemmas.List.Concat.{flat_map-cons, flat_map-append}
use Rattle.frame_codec.specs.declared.frame.Frame.{Frame}
use Rattle.frame_codec.specs.declared.frame.Frame.TheVariants.{Refused}
use Rattle.frame_codec.specs.declared.reader.ReadFault.{ReadFault}
use Rattle.frame_codec.specs.declared.reader.ReadFault.TheVariants.{TooLong, UnknownKind, BadPayload, Memory, Failed}
use Rattle.frame_codec.specs.Frames.{encoding}
use Rattle.frame_codec.specs.Streams.{IsFrameOf, Begins, Feeds, HasFault, HasFrame, StopsAt}
use Rattle.frame_codec.proofs.Pieces.{frame_stops}
use Rattle.once_session.specs.declared.stage.Stage.{Stage}
use Rattle.once_session.specs.declared.stage.Stage.TheVariants as stage
use Rattle.once_session.specs.Courses.{replies_to, stage_after, encodings}
use Rattle.once_session.specs.Outputs.{IsPrefixOf, IsStreamFault, takes_frames, rest_reply, is_well, is_finished, IsServeFault, EndsWork, WaitsForMore, Breaks, Turns}
use Rattle.connection_io.specs.Calls.{IoCall, Sends}
use Rattle.connection_io.proofs.Parts.{sends_both, sends_faulty}
use Rattle.once_session.specs.declared.engine.OnceFault.{OnceFault}
use Rattle.once_session.specs.declared.engine.OnceFault.TheVariants as fault
use Rattle.once_session.specs.OnceTurns.{SendsBefore, WritesWorkReplies, LacksMemoryForFrame}
use Rattle.frame_codec.proofs.Unique.{fault_of_frame}
use Rattle.once_session.proofs.CourseLemmas.{prefix_after, prefix_taken, all_prefix}

at_false : (b : Bool) (P Q : Type 0) → b ≡ false → Q → MatchBool b P Q
at_false true P Q e q = let no : true ≡ false = e in cc
at_false false P Q e q = q

ends_as : (st : Stage) (rest : List ℕ) → takes_frames st ≡ false → is_finished st ≡ is_well st rest
ends_as stage.Fresh rest e = let no : true ≡ false = e in cc
ends_as (stage.Loaded t) rest e = let no : true ≡ false = e in cc
ends_as stage.Done rest e = refl
ends_as stage.Bad rest e = refl

not_both : (b : Bool) → b ≡ false → b ≡ true → ⊥
not_both b e f = let no : false ≡ true = sym e ∙ f in cc

-- a frame ended the work
pub turn_over : (old new : Stage) (stream : List ℕ) (frames : List Frame) (rest : List ℕ) (codec : Option (List ℕ)) (out : List ℕ) → Begins false stream frames rest →
    new ≡ stage_after old frames → takes_frames new ≡ false → out ≡ encodings (replies_to old frames) → Turns (Ok tt) old stream new codec out
turn_over old new stream frames rest codec out begins is over o =
    let shut : takes_frames (stage_after old frames) ≡ false = ap takes_frames (sym is) ∙ over in
    at_false (takes_frames new) (WaitsForMore old stream new codec out) (EndsWork old stream new out) over (record {
      frames = frames;
      rest = rest;
      begins = begins;
      no_frame = λ e f. not_both (takes_frames (stage_after old frames)) shut e;
      no_part = λ e f. not_both (takes_frames (stage_after old frames)) shut e;
      out_is = o ∙ sym (append-nil (encodings (replies_to old frames)))
          ∙ ap (λ b. encodings (replies_to old frames) ++ cond b (rest_reply rest) []) (sym shut);
      well_is = ends_as new rest over ∙ ap (λ s. is_well s rest) is;
    })

judged_fault : (fault : ReadFault) (rest : List ℕ) → IsStreamFault fault → StopsAt false fault rest → HasFault false fault rest
judged_fault TooLong rest j s = s
judged_fault UnknownKind rest j s = s
judged_fault BadPayload rest j s = s
judged_fault Memory rest j s = absurd j
judged_fault Failed rest j s = absurd j

some_bytes : (fault : ReadFault) (rest : List ℕ) → HasFault false fault rest → rest ≡ [] → ⊥
some_bytes TooLong rest h e = let none : length rest ≡ 0 = ap length e in omega (arith, h.0)
some_bytes UnknownKind rest h e = let none : length rest ≡ 0 = ap length e in omega (arith, h.0)
some_bytes BadPayload rest h e = let none : length rest ≡ 0 = ap length e in omega (arith, h.0)
some_bytes Memory rest h e = h
some_bytes Failed rest h e = h

refused_rest : (rest : List ℕ) → (rest ≡ [] → ⊥) → rest_reply rest ≡ encoding (Refused 1)
refused_rest [] some = absurd (some refl)
refused_rest (b ∷ bs) some = refl

ill_rest : (st : Stage) (rest : List ℕ) → takes_frames st ≡ true → (rest ≡ [] → ⊥) → is_well st rest ≡ false
ill_rest stage.Fresh [] g some = absurd (some refl)
ill_rest stage.Fresh (b ∷ bs) g some = refl
ill_rest (stage.Loaded t) [] g some = absurd (some refl)
ill_rest (stage.Loaded t) (b ∷ bs) g some = refl
ill_rest stage.Done rest g some = let no : false ≡ true = g in cc
ill_rest stage.Bad rest g some = refl

-- what is owed if the stream can't be read on
owed_at : (old : Stage) (frames : List Frame) (rest : List ℕ) → takes_frames (stage_after old frames) ≡ true → (rest ≡ [] → ⊥) →
    encodings (replies_to old frames) ++ encoding (Refused 1) ≡ encodings (replies_to old frames)
    ++ cond (takes_frames (stage_after old frames)) (rest_reply rest) []
owed_at old frames rest going some =
    ap (λ (b : List ℕ). encodings (replies_to old frames) ++ b) (sym (refused_rest rest some) ∙ ap (λ b. cond b (rest_reply rest) []) (sym going))

-- what can't be read was refused
pub turn_refused : (old new : Stage) (stream : List ℕ) (frames : List Frame) (rest : List ℕ) (fault : ReadFault) (codec : Option (List ℕ)) (out : List ℕ) →
    Begins false stream frames rest →
    StopsAt false fault rest → IsStreamFault fault → takes_frames (stage_after old frames) ≡ true → new ≡ stage.Bad →
    out ≡ encodings (replies_to old frames) ++ encoding (Refused 1) → Turns (Ok tt) old stream new codec out
turn_refused old new stream frames rest fault codec out begins stops judged going bad o =
    let has : HasFault false fault rest = judged_fault fault rest judged stops in
    let some : rest ≡ [] → ⊥ = some_bytes fault rest has in
    at_false (takes_frames new) (WaitsForMore old stream new codec out) (EndsWork old stream new out) (ap takes_frames bad) (record {
      frames = frames;
      rest = rest;
      begins = begins;
      no_frame = λ _. fault_of_frame false fault rest has;
      no_part = λ _ p. p.no_fault fault has;
      out_is = o ∙ owed_at old frames rest going some;
      well_is = ap is_finished bad ∙ sym (ill_rest (stage_after old frames) rest going some);
    })

-- and here the refusal, or nothing of it, was written in part
pub turn_cut : (old : Stage) (stream : List ℕ) (frames : List Frame) (rest : List ℕ) (fault : ReadFault) (n : ℕ) → Begins false stream frames rest →
    StopsAt false fault rest → takes_frames (stage_after old frames) ≡ true → ((n ≡ 0) ⊎ IsStreamFault fault) →
    Breaks old stream (encodings (replies_to old frames) ++ take n (encoding (Refused 1)))
turn_cut old stream frames rest fault n begins stops going (inl none) = record {
  frames = frames;
  rest = rest;
  begins = begins;
  prefix = let nothing : encodings (replies_to old frames) ≡ encodings (replies_to old frames) ++ take n (encoding (Refused 1)) =
      sym (ap (λ n. encodings (replies_to old frames) ++ take n (encoding (Refused 1))) none ∙ append-nil (encodings (replies_to old frames))) in
      inl (subst (λ (b : List ℕ). IsPrefixOf b (encodings (replies_to old frames))) nothing (all_prefix (encodings (replies_to old frames))));
}
turn_cut old stream frames rest fault n begins stops going (inr judged) =
    let has : HasFault false fault rest = judged_fault fault rest judged stops in
    let some : rest ≡ [] → ⊥ = some_bytes fault rest has in
    record {
      frames = frames;
      rest = rest;
      begins = begins;
      prefix = inr (
        (λ _. fault_of_frame false fault rest has),
        (λ _ p. p.no_fault fault has),
        subst (IsPrefixOf (encodings (replies_to old frames) ++ take n (encoding (Refused 1)))) (owed_at old frames rest going some)
            (prefix_after (encodings (replies_to old frames)) (take n (encoding (Refused 1))) (encoding (Refused 1)) (prefix_taken n (encoding (Refused 1)))),
      );
    }

-- some bytes, and then a part of others
pub sends_before : {C : Type 0} (does : C → IoCall → C → Type 0) (e : OnceFault) (a m b : C) (bytes more : List ℕ) → Sends does a bytes m →
    SendsBefore does e m more b → SendsBefore does e a (bytes ++ more) b
sends_before does fault.BadInput a m b bytes more s t = sends_both does a m b bytes more s t
sends_before does fault.Read a m b bytes more s t = sends_both does a m b bytes more s t
sends_before does fault.Write a m b bytes more s t = sends_faulty does a m b bytes more s t
sends_before does fault.Memory a m b bytes more s t = sends_both does a m b bytes more s t
sends_before does fault.TurnsUsedUp a m b bytes more s t = sends_both does a m b bytes more s t

-- the work goes on
pub turn_on : (old new : Stage) (rest piece : List ℕ) (frames : List Frame) (codec : Option (List ℕ)) (out : List ℕ) →
    Feeds false (Some rest) piece (Ok tt) frames codec →
    new ≡ stage_after old frames → takes_frames new ≡ true → out ≡ encodings (replies_to old frames) → Turns (Ok tt) old (rest ++ piece) new codec out
turn_on old new rest piece frames codec out feeds is going o =
    subst (λ b. MatchBool b (WaitsForMore old (rest ++ piece) new codec out) (EndsWork old (rest ++ piece) new out)) (sym going)
    (record { frames = frames; rest = feeds.0; reads = feeds.1; codec_is = feeds.2; stage_is = is; out_is = o })

-- ---- refused memory

has_next : (frames : List Frame) (count : ℕ) (rest : List ℕ) → AllByRecursion (IsFrameOf false) frames → count < length frames →
    HasFrame false (flat_map encoding (drop count frames) ++ rest)
has_next [] count rest all lt = absurd (omega arith)
has_next (f ∷ fs) zero rest all lt = (
  f,
  flat_map encoding fs ++ rest,
  all.0,
  ap (λ (x : List ℕ). x ++ rest) (flat_map-cons encoding f fs) ∙ append_assoc (encoding f) (flat_map encoding fs) rest,
)
has_next (f ∷ fs) (suc count) rest all lt = has_next fs count rest all.1 (omega arith)

first_each : (frames : List Frame) (count : ℕ) → AllByRecursion (IsFrameOf false) frames → AllByRecursion (IsFrameOf false) (take count frames)
first_each frames zero all = tt
first_each [] (suc count) all = tt
first_each (f ∷ fs) (suc count) all = (all.0, first_each fs count all.1)

-- the first frames, and what follows them
first_begin : (stream : List ℕ) (frames : List Frame) (rest : List ℕ) (count : ℕ) → Begins false stream frames rest →
    Begins false stream (take count frames) (flat_map encoding (drop count frames) ++ rest)
first_begin stream frames rest count begins = record {
  whole = begins.whole
      ∙ ap (λ (x : List ℕ). x ++ rest) (ap (flat_map encoding) (sym (take-append-drop count frames))
      ∙ flat_map-append encoding (take count frames) (drop count frames))
      ∙ append_assoc (flat_map encoding (take count frames)) (flat_map encoding (drop count frames)) rest;
  each = first_each frames count begins.each;
}

-- the replies to some frames failed: a write did, or memory was refused to one of them
pub frames_failed : {C : Type 0} (does : C → IoCall → C → Type 0) (e : OnceFault) (old : Stage) (stream : List ℕ) (frames : List Frame) (rest : List ℕ)
    (new : Stage) (codec : Option (List ℕ)) (a b : C)
    → IsServeFault e → Begins false stream frames rest → (out : List ℕ) × SendsBefore does e a out b × IsPrefixOf out (encodings (replies_to old frames))
    → (e ≡ fault.Memory → LacksMemoryForFrame does frames old a new b)
    → (out : List ℕ) × WritesWorkReplies does (Err e) a out b × Turns (Err e) old stream new codec out
frames_failed does e old stream frames rest new codec a b (inl is) begins part lacks = (
  part.0,
  part.1,
  subst (λ x. Turns (Err x) old stream new codec part.0) (sym is) (record { frames = frames; rest = rest; begins = begins; prefix = inl part.2 }),
)
frames_failed does e old stream frames rest new codec a b (inr is) begins part lacks =
    let l = lacks is in
    let later : List ℕ = flat_map encoding (drop l.0 frames) ++ rest in
    let out : List ℕ = encodings (replies_to old (take l.0 frames)) in (
      out,
      subst (λ x. SendsBefore does x a out b) (sym is) l.2,
      subst (λ x. Turns (Err x) old stream new codec out) (sym is) (record {
        frames = take l.0 frames;
        rest = later;
        begins = first_begin stream frames rest l.0 begins;
        out_is = refl;
        open_still = ap takes_frames (sym l.3) ∙ l.4;
        unfaulted = frame_stops false later (has_next frames l.0 rest begins.each l.1);
      }),
    )

-- what stopped the reading and was not judged is refused memory
unjudged_stops : (fault : ReadFault) (rest : List ℕ) → (IsStreamFault fault → ⊥) → StopsAt false fault rest → StopsAt false Memory rest
unjudged_stops TooLong rest j s = absurd (j tt)
unjudged_stops UnknownKind rest j s = absurd (j tt)
unjudged_stops BadPayload rest j s = absurd (j tt)
unjudged_stops Memory rest j s = s
unjudged_stops Failed rest j s = absurd s

-- what stopped the reading could not be answered: a write failed, or memory had been refused
pub stop_failed : {C : Type 0} (does : C → IoCall → C → Type 0) (e : OnceFault) (old : Stage) (stream : List ℕ) (frames : List Frame) (rest : List ℕ)
    (why : ReadFault) (new : Stage) (codec : Option (List ℕ)) (a m b : C)
    → IsServeFault e → Begins false stream frames rest → StopsAt false why rest → takes_frames (stage_after old frames) ≡ true
    → Sends does a (encodings (replies_to old frames)) m
    → (n : ℕ) × SendsBefore does e m (take n (encoding (Refused 1))) b × ((n ≡ 0) ⊎ IsStreamFault why)
    → (IsStreamFault why → e ≡ fault.Write) → (e ≡ fault.Memory → b ≡ m)
    → (out : List ℕ) × WritesWorkReplies does (Err e) a out b × Turns (Err e) old stream new codec out
stop_failed does e old stream frames rest why new codec a m b (inl is) begins stops going sent part judged same =
    let out : List ℕ = encodings (replies_to old frames) ++ take part.0 (encoding (Refused 1)) in (
      out,
      sends_before does e a m b _ _ sent part.1,
      subst (λ x. Turns (Err x) old stream new codec out) (sym is) (turn_cut old stream frames rest why part.0 begins stops going part.2),
    )
stop_failed does e old stream frames rest why new codec a m b (inr is) begins stops going sent part judged same =
    let out : List ℕ = encodings (replies_to old frames) in
    let unjudged : IsStreamFault why → ⊥ = λ j. let bad : fault.Write ≡ fault.Memory = sym (judged j) ∙ is in absurd cc in (
      out,
      subst (λ x. SendsBefore does x a out b) (sym is) (subst (λ c. Sends does a out c) (sym (same is)) sent),
      subst (λ x. Turns (Err x) old stream new codec out) (sym is) (record {
        frames = frames;
        rest = rest;
        begins = begins;
        out_is = refl;
        open_still = going;
        unfaulted = unjudged_stops why rest unjudged stops;
      }),
    )
