-- What a stream leads to, piece by piece.
use Rattle.std.proofs.Common.{◌≡◌, ℕ, List, [], ◌∷◌, ◌++◌, take, Bool, true, false, Option, Some, Result, Ok, Err, ap, ◌∙◌, sym, refl, subst, inl, inr, append_assoc}
use Rattle.std.specs.Prelude.{cond, MatchBool}
use Rattle.std.specs.Io.KnownBytes.{IsAtEnd}
use Rattle.std.proofs.lemmas.List.{append-nil}
use Rattle.frame_codec.specs.declared.frame.Frame.{Frame}
use Rattle.frame_codec.specs.declared.frame.Frame.TheVariants.{Refused}
use Rattle.frame_codec.specs.Frames.{encoding}
use Rattle.frame_codec.specs.Streams.{Begins}
use Rattle.frame_codec.proofs.Runs.{begins_both, begins_none, begins_ahead}
use Rattle.frame_codec.proofs.Prefixes.{nothing_partial}
use Rattle.frame_codec.proofs.Pieces.{partial_stops}
use Rattle.once_session.specs.declared.engine.OnceFault.{OnceFault}
use Rattle.once_session.specs.declared.engine.OnceFault.TheVariants as fault
use Rattle.once_session.specs.declared.stage.Stage.{Stage}
use Rattle.once_session.specs.declared.stage.Stage.TheVariants as stage
use Rattle.once_session.specs.Courses.{replies_to, stage_after, encodings}
use Rattle.once_session.specs.Outputs.{IsPrefixOf, takes_frames, rest_reply, is_well, is_finished, output_of, EndsWork, WaitsForMore, Breaks, Turns, IsOutput, IsOnceReply, IsStreamCut, LacksMemoryAfter, IsServeFault, ServesOneStream, Finishes}
use Rattle.once_session.proofs.CourseLemmas.{stage_after-append, output-append, prefix_after, prefix_taken}

-- nothing was read yet
pub waits_none : WaitsForMore stage.Fresh [] stage.Fresh (Some []) []
waits_none = record {
  frames = [];
  rest = [];
  reads = record { begins = begins_none false []; partial = nothing_partial false };
  codec_is = refl;
  stage_is = refl;
  out_is = refl;
}

-- two parts of an output
both_outs : (fs gs : List Frame) (st : Stage) (out more : List ℕ) → out ≡ encodings (replies_to stage.Fresh fs) → st ≡ stage_after stage.Fresh fs →
    (tail : List ℕ) →
    more ≡ encodings (replies_to st gs) ++ tail → out ++ more ≡ encodings (replies_to stage.Fresh (fs ++ gs)) ++ tail
both_outs fs gs st out more o s tail m =
    ap (λ (b : List ℕ). b ++ more) o
    ∙ ap (λ (b : List ℕ). encodings (replies_to stage.Fresh fs) ++ b) (m ∙ ap (λ x. encodings (replies_to x gs) ++ tail) s)
    ∙ sym (append_assoc (encodings (replies_to stage.Fresh fs)) (encodings (replies_to (stage_after stage.Fresh fs) gs)) tail)
    ∙ ap (λ (b : List ℕ). b ++ tail) (sym (output-append stage.Fresh fs gs))

-- the stage after both
both_stages : (fs gs : List Frame) (st : Stage) → st ≡ stage_after stage.Fresh fs → stage_after st gs ≡ stage_after stage.Fresh (fs ++ gs)
both_stages fs gs st s = ap (λ x. stage_after x gs) s ∙ sym (stage_after-append stage.Fresh fs gs)

both_begin : (read piece : List ℕ) (fs gs : List Frame) (rest last : List ℕ) → Begins false read fs rest → Begins false (rest ++ piece) gs last →
    Begins false (read ++ piece) (fs ++ gs) last
both_begin read piece fs gs rest last a b = begins_both false (read ++ piece) fs gs (rest ++ piece) last (begins_ahead false read fs rest piece a) b

-- the work goes on
pub waits_on : (read out piece more : List ℕ) (st new : Stage) (codec left : Option (List ℕ)) (w : WaitsForMore stage.Fresh read st codec out) →
    WaitsForMore st (w.rest ++ piece) new left more →
    WaitsForMore stage.Fresh (read ++ piece) new left (out ++ more)
waits_on read out piece more st new codec left w t = record {
  frames = w.frames ++ t.frames;
  rest = t.rest;
  reads = record { begins = both_begin read piece w.frames t.frames w.rest t.rest w.reads.begins t.reads.begins; partial = t.reads.partial };
  codec_is = t.codec_is;
  stage_is = t.stage_is ∙ both_stages w.frames t.frames st w.stage_is;
  out_is = both_outs w.frames t.frames st out more w.out_is w.stage_is [] (t.out_is ∙ sym (append-nil (encodings (replies_to st t.frames))))
      ∙ append-nil (encodings (replies_to stage.Fresh (w.frames ++ t.frames)));
}

-- a frame, or what can't be read, ended it
pub ends_on : (read out piece more : List ℕ) (st new : Stage) (codec left : Option (List ℕ)) (well : Bool) (w : WaitsForMore stage.Fresh read st codec out) →
    EndsWork st (w.rest ++ piece) new more → is_finished new ≡ well →
    IsOutput (read ++ piece) (out ++ more) left well
ends_on read out piece more st new codec left well w t done =
    let s : stage_after st t.frames ≡ stage_after stage.Fresh (w.frames ++ t.frames) = both_stages w.frames t.frames st w.stage_is in
    record {
      frames = w.frames ++ t.frames;
      rest = t.rest;
      begins = both_begin read piece w.frames t.frames w.rest t.rest w.reads.begins t.begins;
      last = record { no_frame = λ going. t.no_frame (ap takes_frames s ∙ going); no_more = λ going p. absurd (t.no_part (ap takes_frames s ∙ going) p) };
      out_is = both_outs w.frames t.frames st out more w.out_is w.stage_is (cond (takes_frames (stage_after st t.frames)) (rest_reply t.rest) []) t.out_is
          ∙ ap (λ x. encodings (replies_to stage.Fresh (w.frames ++ t.frames)) ++ cond (takes_frames x) (rest_reply t.rest) []) s;
      well_is = sym done ∙ t.well_is ∙ ap (λ x. is_well x t.rest) s;
    }

-- two parts of an output, of which the second is a prefix
both_prefix : (fs gs : List Frame) (st : Stage) (out more : List ℕ) → out ≡ encodings (replies_to stage.Fresh fs) → st ≡ stage_after stage.Fresh fs →
    (tail : List ℕ) →
    IsPrefixOf more (encodings (replies_to st gs) ++ tail) → IsPrefixOf (out ++ more) (encodings (replies_to stage.Fresh (fs ++ gs)) ++ tail)
both_prefix fs gs st out more o s tail f =
    let all : List ℕ = encodings (replies_to st gs) ++ tail in
    subst (IsPrefixOf (out ++ more)) (both_outs fs gs st out all o s tail refl) (prefix_after out more all f)

prefix_alone : (prefix all : List ℕ) → IsPrefixOf prefix (all ++ []) → IsPrefixOf prefix all
prefix_alone prefix all f = subst (IsPrefixOf prefix) (append-nil all) f

prefix_long : (prefix all : List ℕ) → IsPrefixOf prefix all → IsPrefixOf prefix (all ++ [])
prefix_long prefix all f = subst (IsPrefixOf prefix) (sym (append-nil all)) f

-- it broke off
pub breaks_on : (read out piece more : List ℕ) (st : Stage) (codec left : Option (List ℕ)) (w : WaitsForMore stage.Fresh read st codec out) →
    Breaks st (w.rest ++ piece) more →
    IsStreamCut (read ++ piece) (out ++ more) left
breaks_on read out piece more st codec left w t =
    let s : stage_after st t.frames ≡ stage_after stage.Fresh (w.frames ++ t.frames) = both_stages w.frames t.frames st w.stage_is in
    let all : List ℕ = encodings (replies_to st t.frames) in
    let tail : List ℕ = cond (takes_frames (stage_after st t.frames)) (rest_reply t.rest) [] in
    record {
      frames = w.frames ++ t.frames;
      rest = t.rest;
      begins = both_begin read piece w.frames t.frames w.rest t.rest w.reads.begins t.begins;
      prefix = elim t.prefix [
        | inl f ↦ inl (prefix_alone (out ++ more) (encodings (replies_to stage.Fresh (w.frames ++ t.frames)))
            (both_prefix w.frames t.frames st out more w.out_is w.stage_is [] (prefix_long more all f)))
        | inr f ↦ inr (
          record { no_frame = λ going. f.0 (ap takes_frames s ∙ going); no_more = λ going p. absurd (f.1 (ap takes_frames s ∙ going) p) },
          subst (λ x. IsPrefixOf (out ++ more) (encodings (replies_to stage.Fresh (w.frames ++ t.frames)) ++ cond (takes_frames x) (rest_reply t.rest) [])) s
              (both_prefix w.frames t.frames st out more w.out_is w.stage_is tail f.2),
        )
      ];
    }

-- memory was refused to it
pub lacks_on : (read out piece more : List ℕ) (st : Stage) (codec : Option (List ℕ)) (w : WaitsForMore stage.Fresh read st codec out) →
    LacksMemoryAfter st (w.rest ++ piece) more →
    LacksMemoryAfter stage.Fresh (read ++ piece) (out ++ more)
lacks_on read out piece more st codec w t =
    let s : stage_after st t.frames ≡ stage_after stage.Fresh (w.frames ++ t.frames) = both_stages w.frames t.frames st w.stage_is in
    record {
      frames = w.frames ++ t.frames;
      rest = t.rest;
      begins = both_begin read piece w.frames t.frames w.rest t.rest w.reads.begins t.begins;
      out_is = both_outs w.frames t.frames st out more w.out_is w.stage_is [] (t.out_is ∙ sym (append-nil (encodings (replies_to st t.frames))))
          ∙ append-nil (encodings (replies_to stage.Fresh (w.frames ++ t.frames)));
      open_still = ap takes_frames (sym s) ∙ t.open_still;
      unfaulted = t.unfaulted;
    }

-- every turn was used
pub waits_served : (read out : List ℕ) (st : Stage) (codec : Option (List ℕ)) → WaitsForMore stage.Fresh read st codec out → takes_frames st ≡ true →
    IsOnceReply read out
waits_served read out st codec w going = record {
  frames = w.frames;
  rest = w.rest;
  reads = w.reads;
  open_still = ap takes_frames (sym w.stage_is) ∙ going;
  out_is =
      w.out_is;
}

-- the stream's end is after a frame, or within one
shut_output : (read out more : List ℕ) (st : Stage) (codec left : Option (List ℕ)) (well : Bool) (w : WaitsForMore stage.Fresh read st codec out) →
    takes_frames st ≡ true → IsAtEnd left → more ≡ rest_reply w.rest →
    well ≡ is_well (stage_after stage.Fresh w.frames) w.rest → IsOutput read (out ++ more) left well
shut_output read out more st codec left well w going end m is = record {
  frames = w.frames;
  rest = w.rest;
  begins = w.reads.begins;
  last = record { no_frame = λ _ f. w.reads.partial.no_frame f; no_more = λ _ _. end };
  out_is = ap (λ (b : List ℕ). b ++ more) w.out_is ∙ ap (λ (b : List ℕ). encodings (replies_to stage.Fresh w.frames) ++ b)
      (m ∙ ap (λ b. cond b (rest_reply w.rest) []) (sym going ∙ ap takes_frames w.stage_is));
  well_is = is;
}

well_at_end : (st : Stage) (rest : List ℕ) → takes_frames st ≡ true → rest ≡ [] → true ≡ is_well st rest
well_at_end stage.Fresh rest g e = sym (ap (is_well stage.Fresh) e)
well_at_end (stage.Loaded t) rest g e = sym (ap (is_well (stage.Loaded t)) e)
well_at_end stage.Done rest g e = refl
well_at_end stage.Bad rest g e = let no : false ≡ true = g in cc

ill_at_end : (st : Stage) (rest : List ℕ) → takes_frames st ≡ true → (rest ≡ [] → ⊥) → false ≡ is_well st rest
ill_at_end stage.Fresh [] g some = absurd (some refl)
ill_at_end stage.Fresh (b ∷ bs) g some = refl
ill_at_end (stage.Loaded t) [] g some = absurd (some refl)
ill_at_end (stage.Loaded t) (b ∷ bs) g some = refl
ill_at_end stage.Done rest g some = let no : false ≡ true = g in cc
ill_at_end stage.Bad rest g some = refl

some_reply : (rest : List ℕ) → (rest ≡ [] → ⊥) → encoding (Refused 1) ≡ rest_reply rest
some_reply [] some = absurd (some refl)
some_reply (b ∷ bs) some = refl

shut_cut : (read out more : List ℕ) (st : Stage) (codec left : Option (List ℕ)) (w : WaitsForMore stage.Fresh read st codec out) → takes_frames st ≡ true →
    IsAtEnd left → IsPrefixOf more (rest_reply w.rest) →
    IsStreamCut read (out ++ more) left
shut_cut read out more st codec left w going end f = record {
  frames = w.frames;
  rest = w.rest;
  begins = w.reads.begins;
  prefix = inr (
    record { no_frame = λ _ h. w.reads.partial.no_frame h; no_more = λ _ _. end },
    subst (λ (b : List ℕ). IsPrefixOf (b ++ more) (output_of w.frames w.rest)) (sym w.out_is)
        (prefix_after (encodings (replies_to stage.Fresh w.frames)) more (cond (takes_frames (stage_after stage.Fresh w.frames)) (rest_reply w.rest) [])
        (subst (λ b. IsPrefixOf more (cond b (rest_reply w.rest) [])) (sym going ∙ ap takes_frames w.stage_is) f)),
  );
}

pub finish_served : (turns : ℕ) (answer : Result (Unit {0}) OnceFault) (read out more : List ℕ) (st : Stage) (codec left : Option (List ℕ))
    (w : WaitsForMore stage.Fresh read st codec out) → takes_frames st ≡ true → IsAtEnd left →
    Finishes answer w.rest more → ServesOneStream turns answer read (out ++ more) left
finish_served turns (Ok done) read out more st codec left w going end f =
    shut_output read out more st codec left true w going end (f.1 ∙ sym (ap rest_reply f.0))
    (well_at_end (stage_after stage.Fresh w.frames) w.rest (ap takes_frames (sym w.stage_is) ∙ going) f.0)
finish_served turns (Err fault.BadInput) read out more st codec left w going end f =
    shut_output read out more st codec left false w going end (f.1 ∙ some_reply w.rest f.0)
    (ill_at_end (stage_after stage.Fresh w.frames) w.rest (ap takes_frames (sym w.stage_is) ∙ going) f.0)
finish_served turns (Err fault.Read) read out more st codec left w going end f = absurd f
finish_served turns (Err fault.TurnsUsedUp) read out more st codec left w going end f = absurd f
finish_served turns (Err fault.Write) read out more st codec left w going end f = shut_cut read out more st codec left w going end f
finish_served turns (Err fault.Memory) read out more st codec left w going end f = absurd f

-- a turn broke off, by a fault of one reply
pub turn_served : (turns : ℕ) (e : OnceFault) (read out piece more : List ℕ) (st new : Stage) (codec later left : Option (List ℕ))
    (w : WaitsForMore stage.Fresh read st codec out) → IsServeFault e →
    Turns (Err e) st (w.rest ++ piece) new later more → ServesOneStream turns (Err e) (read ++ piece) (out ++ more) left
turn_served turns e read out piece more st new codec later left w (inl is) t =
    let broken = subst (λ x. Turns (Err x) st (w.rest ++ piece) new later more) is t in
    subst (λ x. ServesOneStream turns (Err x) (read ++ piece) (out ++ more) left) (sym is) (breaks_on read out piece more st codec left w broken)
turn_served turns e read out piece more st new codec later left w (inr is) t =
    let halts = subst (λ x. Turns (Err x) st (w.rest ++ piece) new later more) is t in
    subst (λ x. ServesOneStream turns (Err x) (read ++ piece) (out ++ more) left) (sym is) (lacks_on read out piece more st codec w halts)

-- what a turn that goes on, or ends, led to
pub turned_on : (st new : Stage) (stream more : List ℕ) (left : Option (List ℕ)) → takes_frames new ≡ true → Turns (Ok tt) st stream new left more →
    WaitsForMore st stream new left more
turned_on st new stream more left going t = subst (λ b. MatchBool b (WaitsForMore st stream new left more) (EndsWork st stream new more)) going t

pub turned_off : (st new : Stage) (stream more : List ℕ) (left : Option (List ℕ)) → takes_frames new ≡ false → Turns (Ok tt) st stream new left more →
    EndsWork st stream new more
turned_off st new stream more left over t = subst (λ b. MatchBool b (WaitsForMore st stream new left more) (EndsWork st stream new more)) over t

-- no room for a piece: nothing was read
pub nothing_served : (turns : ℕ) (left : Option (List ℕ)) → ServesOneStream turns (Err fault.Memory) [] [] left
nothing_served turns left =
    record { frames = []; rest = []; begins = begins_none false []; out_is = refl; open_still = refl; unfaulted = partial_stops false [] (nothing_partial false) }

-- the refusal of a frame that is cut was written in part
pub finish_cut : (e : OnceFault) (rest : List ℕ) (n : ℕ) → (rest ≡ [] → ⊥) → e ≡ fault.Write → Finishes (Err e) rest (take n (encoding (Refused 1)))
finish_cut e rest n some is =
    subst (λ x. Finishes (Err x) rest (take n (encoding (Refused 1)))) (sym is)
    (subst (IsPrefixOf (take n (encoding (Refused 1)))) (some_reply rest some) (prefix_taken n (encoding (Refused 1))))
