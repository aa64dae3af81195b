-- Turns over a reader and a writer.
use Rattle.std.proofs.Common.{◌≡◌, ◌<◌, ◌≤◌, ◌*◌, ℕ, Bool, true, false, List, [], ◌++◌, length, Option, Some, Result, Ok, Err, refl, sym, subst, inl, inr}
use Rattle.std.specs.Io.KnownBytes.{Appends, Consumes}
use Rattle.connection_io.specs.declared.pair.Pair.{Pair}
use Rattle.connection_io.specs.Pairs.{PairDoes}
use Rattle.connection_io.specs.Turns.{CallTurn}
use Rattle.connection_io.proofs.Pairs.{moved_none}
use Rattle.connection_io.proofs.ManyTurns.{WentOut, Turned, SoFar, Whole, no_turns, many_turned, by_piece, by_last_words, by_failed_read, by_count, no_call, finally_whole}
use Rattle.once_session.specs.declared.stage.Stage.{Stage}
use Rattle.once_session.specs.declared.stage.Stage.TheVariants as stage
use Rattle.once_session.specs.declared.engine.OnceFault.{OnceFault}
use Rattle.once_session.specs.declared.engine.OnceFault.TheVariants as fault
use Rattle.once_session.specs.Outputs.{takes_frames, WaitsForMore, Turns, Finishes, ServesOneStream, IsOutput, IsServeFault}
use Rattle.once_session.specs.OnceTurns.{WritesWorkReplies, Work, fresh_work, TakesWorkPiece, LeavesOpen, EndsByPiece, EndsByEnd, BreaksOffWork, EndsWorkTurns, ServesWorkOver}
use Rattle.once_session.proofs.RunLemmas.{waits_none, waits_on, waits_served, finish_served, turn_served, turned_on, turned_off, ends_on, nothing_served}

-- what is so after turns after which the work goes on
record Going (read out : List ℕ) (work : Work) : Type 0 where
  waits : WaitsForMore stage.Fresh read work.stage (Some work.unfinished) out
  going : takes_frames work.stage ≡ true

same_rest : (a b : List ℕ) → Some a ≡ Some b → a ≡ b
same_rest a b e = cc

-- what comes after the frames is the unfinished one
rest_is : (read out : List ℕ) (work : Work) (w : WaitsForMore stage.Fresh read work.stage (Some work.unfinished) out) → work.unfinished ≡ w.rest
rest_is read out work w = same_rest work.unfinished w.rest w.codec_is

keeps : (read out : List ℕ) (old new : Work) (turn : CallTurn) → Going read out old → takes_frames new.stage ≡ true
    → Turns (Ok tt) old.stage (old.unfinished ++ turn.piece) new.stage (Some new.unfinished) turn.output → Going (read ++ turn.piece) (out ++ turn.output) new
keeps read out old new turn i going turned = record {
  waits =
      let t = subst (λ (r : List ℕ). Turns (Ok tt) old.stage (r ++ turn.piece) new.stage (Some new.unfinished) turn.output)
      (rest_is read out old i.waits) turned in
      waits_on read out turn.piece turn.output old.stage new.stage (Some old.unfinished) (Some new.unfinished) i.waits
      (turned_on old.stage new.stage (i.waits.rest ++ turn.piece) turn.output (Some new.unfinished) going t);
  going = going;
}

module _ {R W : Type 0} (remaining : R → Option (List ℕ)) (contents : W → Option (List ℕ)) where
  -- how replies went out
  went_out : (b c : Pair R W) (bytes : List ℕ) (answer : Result (Unit {0}) OnceFault) → WritesWorkReplies (PairDoes remaining contents) answer b bytes c
      → WentOut remaining contents b bytes c
  went_out b c bytes (Ok d) s = inl s
  went_out b c bytes (Err fault.BadInput) s = inl s
  went_out b c bytes (Err fault.Read) s = inl s
  went_out b c bytes (Err fault.Write) s = inr s
  went_out b c bytes (Err fault.Memory) s = inl s
  went_out b c bytes (Err fault.TurnsUsedUp) s = inl s

  turned : (old : Work) (b : Pair R W) (answer : Result (Unit {0}) OnceFault) (turn : CallTurn) (new : Stage) (codec : Option (List ℕ)) (c : Pair R W)
      → TakesWorkPiece (PairDoes remaining contents) old b answer turn new codec c → Turned remaining contents b turn c
  turned old b answer turn new codec c t = record { middle = t.middle; reads = t.reads; writes = went_out t.middle c turn.output answer t.writes }

  module _ (turns : ℕ) (a : Pair R W) where
    -- what was read and written in all
    abbrev Answered : Result (Unit {0}) OnceFault → Pair R W → Type 0
    Answered answer b = Whole remaining contents turns a (ServesOneStream turns answer) b

    module _ (count : ℕ) (mid : Work) (b : Pair R W) (i : SoFar remaining contents Going a count mid b) (lt : count < turns) where
      -- a piece ended the work
      over_by : (well : Bool) (c : Pair R W) → (e : EndsByPiece (PairDoes remaining contents) mid b well c) →
          IsOutput (i.read ++ e.turn.piece) (i.out ++ e.turn.output) (remaining c.reader.now) well
      over_by well c e =
          let w = i.holds.waits in
          let t = subst (λ (r : List ℕ). Turns (Ok tt) mid.stage (r ++ e.turn.piece) e.stage e.codec e.turn.output) (rest_is i.read i.out mid w) e.takes.turned in
          ends_on i.read i.out e.turn.piece e.turn.output mid.stage e.stage (Some mid.unfinished) (remaining c.reader.now) well w
          (turned_off mid.stage e.stage (w.rest ++ e.turn.piece) e.turn.output e.codec e.over t) e.well_is

      ended_by_piece : (answer : Result (Unit {0}) OnceFault) (well : Bool) (c : Pair R W) (e : EndsByPiece (PairDoes remaining contents) mid b well c)
          → ServesOneStream turns answer (i.read ++ e.turn.piece) (i.out ++ e.turn.output) (remaining c.reader.now) → Answered answer c
      ended_by_piece answer well c e s =
          by_piece remaining contents Going (ServesOneStream turns answer) turns a count mid b i c e.turn lt
          (turned mid b (Ok tt) e.turn e.stage e.codec c e.takes) s

      -- the stream ended
      ended_by_end : (answer : Result (Unit {0}) OnceFault) (c : Pair R W) → EndsByEnd (PairDoes remaining contents) mid b answer c → Answered answer c
      ended_by_end answer c e =
          let w = i.holds.waits in
          let f : Finishes answer w.rest e.out = subst (λ (r : List ℕ). Finishes answer r e.out) (rest_is i.read i.out mid w) e.finishes in
          by_last_words remaining contents Going (ServesOneStream turns answer) turns a count mid b i c e.middle e.out lt e.reads
          (went_out e.middle c e.out answer e.writes)
          (λ z. finish_served turns answer i.read i.out e.out mid.stage (Some mid.unfinished) (remaining c.reader.now) w i.holds.going z f)

      -- a fault
      broken_off : (e : OnceFault) (c : Pair R W) → IsServeFault e → BreaksOffWork (PairDoes remaining contents) mid b e c → Answered (Err e) c
      broken_off e c is (inl p) =
          let turn : CallTurn = p.0 in
          let w = i.holds.waits in
          let t = subst (λ (r : List ℕ). Turns (Err e) mid.stage (r ++ turn.piece) p.1 p.2 turn.output) (rest_is i.read i.out mid w) p.3.turned in
          by_piece remaining contents Going (ServesOneStream turns (Err e)) turns a count mid b i c turn lt (turned mid b (Err e) turn p.1 p.2 c p.3)
          (turn_served turns e i.read i.out turn.piece turn.output mid.stage p.1 (Some mid.unfinished) p.2 (remaining c.reader.now) w is t)
      broken_off e c is (inr p) = ended_by_end (Err e) c p

    ended : (count : ℕ) (mid : Work) (b : Pair R W) (answer : Result (Unit {0}) OnceFault) (c : Pair R W) → SoFar remaining contents Going a count mid b
        → EndsWorkTurns (PairDoes remaining contents) turns count mid b answer c → Answered answer c
    ended count mid b (Ok d) c i (lt, inl e) = ended_by_piece count mid b i lt (Ok d) true c e (over_by count mid b i lt true c e)
    ended count mid b (Ok d) c i (lt, inr e) = ended_by_end count mid b i lt (Ok d) c e
    ended count mid b (Err fault.BadInput) c i (lt, inl e) =
        ended_by_piece count mid b i lt (Err fault.BadInput) false c e (over_by count mid b i lt false c e)
    ended count mid b (Err fault.BadInput) c i (lt, inr e) = ended_by_end count mid b i lt (Err fault.BadInput) c e
    ended count mid b (Err fault.Read) c i e =
        by_failed_read remaining contents Going (ServesOneStream turns (Err fault.Read)) turns a count mid b i c e.0 e.1
        (waits_served i.read i.out mid.stage (Some mid.unfinished) i.holds.waits i.holds.going)
    ended count mid b (Err fault.Write) c i e = broken_off count mid b i e.0 fault.Write c (inl refl) e.1
    ended count mid b (Err fault.Memory) c i e = broken_off count mid b i e.0 fault.Memory c (inr refl) e.1
    ended count mid b (Err fault.TurnsUsedUp) c i e =
        by_count remaining contents Going (ServesOneStream turns (Err fault.TurnsUsedUp)) turns a count mid b i c e.0 e.1
        (λ z. (waits_served i.read i.out mid.stage (Some mid.unfinished) i.holds.waits i.holds.going, z))

    whole_over : (answer : Result (Unit {0}) OnceFault) (b : Pair R W) → ServesWorkOver (PairDoes remaining contents) turns a answer b → Answered answer b
    whole_over answer b (inl n) =
        subst (λ r. Answered r b) (sym n.0)
        (no_call remaining contents (ServesOneStream turns (Err fault.Memory)) turns a b n.1 (nothing_served turns (remaining b.reader.now)))
    whole_over answer b (inr t) =
        let first : SoFar remaining contents Going a 0 fresh_work a =
        no_turns remaining contents Going a [] fresh_work a (moved_none remaining contents a) (record { waits = waits_none; going = refl }) in
        ended (length t.before) t.work t.middle answer b
        (many_turned remaining contents Going (λ p turn q. LeavesOpen (PairDoes remaining contents) p.0 p.1 turn q.0 q.1)
        (λ p q turn k. turned p.0 p.1 (Ok tt) turn q.0.stage (Some q.0.unfinished) q.1 k.takes)
        (λ read out p q turn g k. keeps read out p.0 q.0 turn g k.going k.takes.turned)
        a (fresh_work, a) (t.work, t.middle) t.before first t.begun) t.ends

-- what a caller knows that joined a reader and a writer
pub finally_answered : {R W : Type 0} (remaining : R → Option (List ℕ)) (contents : W → Option (List ℕ)) (turns : ℕ) (a : Pair R W)
    (answer : Result (Unit {0}) OnceFault) (b : Pair R W) (r x : R) (w y : W)
    → ServesWorkOver (PairDoes remaining contents) turns a answer b → a.reader.now ≡ r → a.writer.now ≡ w
    → (a.reader.ghost_name ≡ b.reader.ghost_name → x ≡ b.reader.now) → (a.writer.ghost_name ≡ b.writer.ghost_name → y ≡ b.writer.now)
    → (read : List ℕ) × (out : List ℕ) × Consumes (remaining r) (remaining x) read × Appends (contents w) (contents y) out × (length read ≤ 65536 * turns)
    × ServesOneStream turns answer read out (remaining x)
finally_answered remaining contents turns a answer b r x w y o =
    finally_whole remaining contents (ServesOneStream turns answer) turns a b r x w y (whole_over remaining contents turns a answer b o)
