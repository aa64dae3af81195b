-- Turns of an engine over a reader and a writer: what they keep, and how they end.
use Rattle.std.proofs.Common.{◌≡◌, ◌<◌, ◌≤◌, ◌⊎◌, ◌+◌, ◌*◌, ℕ, List, [], ◌∷◌, ◌++◌, length, Option, sym, subst, arith, inl, inr}
use Rattle.std.specs.List.{FoldsTo}
use Rattle.std.specs.Io.KnownBytes.{Appends, Consumes, IsAtEnd}
use Rattle.std.proofs.lemmas.Fn.{chained_keeps}
use Rattle.std.proofs.lemmas.List.{length-append}
use Rattle.connection_io.specs.declared.pair.Pair.{Pair}
use Rattle.connection_io.specs.Calls.{Read, ReadFails, Sends, SendsUntilFault}
use Rattle.connection_io.specs.Pairs.{PairDoes}
use Rattle.connection_io.specs.Turns.{CallTurn, ReadsPiece}
use Rattle.connection_io.proofs.Pairs.{Moved, moved_none, moved_read, moved_end, at_end, moved_unread, moved_sent, moved_faulty, sent_left, faulty_left, finally_taken, finally_given}
use Rattle.connection_io.proofs.Parts.{most_more, least_more, within}

-- some bytes were written, or a part of what was owed until a write failed
abbrev pub WentOut : {R W : Type 0} → (R → Option (List ℕ)) → (W → Option (List ℕ)) → Pair R W → List ℕ → Pair R W → Type 0
WentOut remaining contents b bytes c = Sends (PairDoes remaining contents) b bytes c ⊎ SendsUntilFault (PairDoes remaining contents) b bytes c

-- a turn: a piece was read, and then written for
pub record Turned {R W : Type 0} (remaining : R → Option (List ℕ)) (contents : W → Option (List ℕ)) (b : Pair R W) (turn : CallTurn)
    (c : Pair R W) : Type 0 where
  pub middle : Pair R W
  pub reads : ReadsPiece (PairDoes remaining contents) b turn.piece middle
  pub writes : WentOut remaining contents middle turn.output c

-- What so many turns did after which the engine goes on: what was read and written, and what is so
-- of both and of the engine's state.
pub record SoFar {R W S : Type 0} (remaining : R → Option (List ℕ)) (contents : W → Option (List ℕ)) (Holds : List ℕ → List ℕ → S → Type 0) (a : Pair R W)
    (count : ℕ) (state : S) (b : Pair R W) : Type 0 where
  pub read : List ℕ
  pub out : List ℕ
  pub moved : Moved remaining contents a read out b
  pub most : length read ≤ 65536 * count
  pub least : count ≤ length read
  pub holds : Holds read out state

-- What was read and written in all, and what is so of both and of what the reader has left.
pub record Whole {R W : Type 0} (remaining : R → Option (List ℕ)) (contents : W → Option (List ℕ)) (turns : ℕ) (a : Pair R W)
    (Serves : List ℕ → List ℕ → Option (List ℕ) → Type 0) (b : Pair R W) : Type 0 where
  pub read : List ℕ
  pub out : List ℕ
  pub moved : Moved remaining contents a read out b
  pub most : length read ≤ 65536 * turns
  pub serves : Serves read out (remaining b.reader.now)

module _ {R W : Type 0} (remaining : R → Option (List ℕ)) (contents : W → Option (List ℕ)) where
  moved_out : (a b c : Pair R W) (read out bytes : List ℕ) → Moved remaining contents a read out b → WentOut remaining contents b bytes c →
      Moved remaining contents a read (out ++ bytes) c
  moved_out a b c read out bytes i (inl s) = moved_sent remaining contents a b c read out bytes i s
  moved_out a b c read out bytes i (inr s) = moved_faulty remaining contents a b c read out bytes i s

  moved_turn : (a b c : Pair R W) (read out : List ℕ) (turn : CallTurn) → Moved remaining contents a read out b → Turned remaining contents b turn c →
      Moved remaining contents a (read ++ turn.piece) (out ++ turn.output) c
  moved_turn a b c read out turn i t =
      moved_out a t.middle c (read ++ turn.piece) out turn.output (moved_read remaining contents a b t.middle read out turn.piece 65536 i t.reads.read)
      t.writes

  -- ---- turns that go on

  -- no turn was made, and this is so of what is there at the beginning
  pub no_turns : {S : Type 0} (Holds : List ℕ → List ℕ → S → Type 0) (a : Pair R W) (out : List ℕ) (state : S) (b : Pair R W)
      → Moved remaining contents a [] out b → Holds [] out state → SoFar remaining contents Holds a 0 state b
  no_turns Holds a out state b m h = record { read = []; out = out; moved = m; most = omega arith; least = omega arith; holds = h }

  -- one more
  turned_more : {S : Type 0} (Holds : List ℕ → List ℕ → S → Type 0) (a : Pair R W) (count : ℕ) (old : S) (b : Pair R W) (turn : CallTurn) (new : S)
      (c : Pair R W) → (i : SoFar remaining contents Holds a count old b) → Turned remaining contents b turn c
      → Holds (i.read ++ turn.piece) (i.out ++ turn.output) new → SoFar remaining contents Holds a (count + 1) new c
  turned_more Holds a count old b turn new c i t h = record {
    read = i.read ++ turn.piece;
    out = i.out ++ turn.output;
    moved = moved_turn a b c i.read i.out turn i.moved t;
    most = most_more i.read turn.piece count i.most t.reads.most;
    least = least_more i.read turn.piece count i.least t.reads.some;
    holds = h;
  }

  -- What each turn keeps, all turns keep.
  pub many_turned : {S : Type 0} (Holds : List ℕ → List ℕ → S → Type 0) (Turn : S × Pair R W → CallTurn → S × Pair R W → Type 0)
      → ((p q : S × Pair R W) (turn : CallTurn) → Turn p turn q → Turned remaining contents p.1 turn q.1)
      → ((read out : List ℕ) (p q : S × Pair R W) (turn : CallTurn) → Holds read out p.0 → Turn p turn q → Holds (read ++ turn.piece) (out ++ turn.output) q.0)
      → (a : Pair R W) (p q : S × Pair R W) (turns : List CallTurn) → SoFar remaining contents Holds a 0 p.0 p.1 → FoldsTo Turn p turns q
      → SoFar remaining contents Holds a (length turns) q.0 q.1
  many_turned {S = S} Holds Turn turned keeps a p q turns first go =
      chained_keeps Turn (λ (ts : List CallTurn) (r : S × Pair R W). SoFar remaining contents Holds a (length ts) r.0 r.1) one turns p q first go
    where
      one : (ts : List CallTurn) (r : S × Pair R W) (turn : CallTurn) (v : S × Pair R W) → SoFar remaining contents Holds a (length ts) r.0 r.1
          → Turn r turn v → SoFar remaining contents Holds a (length (ts ++ turn ∷ [])) v.0 v.1
      one ts r turn v i t =
          let more : length ts + 1 ≡ length (ts ++ turn ∷ []) = sym (length-append ts (turn ∷ [])) in
          subst (λ (n : ℕ). SoFar remaining contents Holds a n v.0 v.1) more
          (turned_more Holds a (length ts) r.0 r.1 turn v.0 v.1 i (turned r v turn t) (keeps i.read i.out r v turn i.holds t))

  -- ---- how they end

  module _ {S : Type 0} (Holds : List ℕ → List ℕ → S → Type 0) (Serves : List ℕ → List ℕ → Option (List ℕ) → Type 0) (turns : ℕ) (a : Pair R W) (count : ℕ)
      (state : S) (b : Pair R W) (i : SoFar remaining contents Holds a count state b) (c : Pair R W) where
    -- by a piece
    pub by_piece : (turn : CallTurn) → count < turns → Turned remaining contents b turn c
        → Serves (i.read ++ turn.piece) (i.out ++ turn.output) (remaining c.reader.now) → Whole remaining contents turns a Serves c
    by_piece turn lt t s = record {
      read = i.read ++ turn.piece;
      out = i.out ++ turn.output;
      moved = moved_turn a b c i.read i.out turn i.moved t;
      most = within (i.read ++ turn.piece) (count + 1) turns (most_more i.read turn.piece count i.most t.reads.most) (omega (arith, lt));
      serves = s;
    }

    -- by the end of what is read
    pub by_end : count < turns → PairDoes remaining contents b (Read 65536 []) c → (IsAtEnd (remaining c.reader.now) → Serves i.read i.out (remaining c.reader.now))
        → Whole remaining contents turns a Serves c
    by_end lt e s = record {
      read = i.read;
      out = i.out;
      moved = moved_end remaining contents a b c i.read i.out 65536 i.moved e;
      most = within i.read count turns i.most (omega (arith, lt));
      serves = s (at_end remaining contents b c 65536 e (omega arith));
    }

    -- by the end, and what is written then
    pub by_last_words : (m : Pair R W) (bytes : List ℕ) → count < turns → PairDoes remaining contents b (Read 65536 []) m
        → WentOut remaining contents m bytes c → (IsAtEnd (remaining c.reader.now) → Serves i.read (i.out ++ bytes) (remaining c.reader.now))
        → Whole remaining contents turns a Serves c
    by_last_words m bytes lt e w s = record {
      read = i.read;
      out = i.out ++ bytes;
      moved = moved_out a m c i.read i.out bytes (moved_end remaining contents a b m i.read i.out 65536 i.moved e) w;
      most = within i.read count turns i.most (omega (arith, lt));
      serves = s (stays w (at_end remaining contents b m 65536 e (omega arith)));
    }
      where
        stays : WentOut remaining contents m bytes c → IsAtEnd (remaining m.reader.now) → IsAtEnd (remaining c.reader.now)
        stays (inl x) z = subst IsAtEnd (sym (sent_left remaining contents m c bytes x)) z
        stays (inr x) z = subst IsAtEnd (sym (faulty_left remaining contents m c bytes x)) z

    -- by a read that failed
    pub by_failed_read : count < turns → PairDoes remaining contents b ReadFails c → Serves i.read i.out (remaining c.reader.now)
        → Whole remaining contents turns a Serves c
    by_failed_read lt e s = record {
      read = i.read;
      out = i.out;
      moved = moved_unread remaining contents a b c i.read i.out i.moved e;
      most = within i.read count turns i.most (omega (arith, lt));
      serves = s;
    }

    -- as there may be no more turns
    pub by_count : count ≡ turns → c ≡ b → (turns ≤ length i.read → Serves i.read i.out (remaining c.reader.now)) → Whole remaining contents turns a Serves c
    by_count e same s = record {
      read = i.read;
      out = i.out;
      moved = subst (λ (p : Pair R W). Moved remaining contents a i.read i.out p) (sym same) i.moved;
      most = within i.read count turns i.most (omega (arith, e));
      serves = s (omega (arith, e, i.least));
    }

  -- no call was made
  pub no_call : (Serves : List ℕ → List ℕ → Option (List ℕ) → Type 0) (turns : ℕ) (a b : Pair R W) → b ≡ a → Serves [] [] (remaining b.reader.now)
      → Whole remaining contents turns a Serves b
  no_call Serves turns a b same s = record {
    read = [];
    out = [];
    moved = subst (λ (p : Pair R W). Moved remaining contents a [] [] p) (sym same) (moved_none remaining contents a);
    most = omega arith;
    serves = s;
  }

  -- what a caller knows that joined a reader and a writer
  pub finally_whole : (Serves : List ℕ → List ℕ → Option (List ℕ) → Type 0) (turns : ℕ) (a b : Pair R W) (r x : R) (w y : W)
      → Whole remaining contents turns a Serves b → a.reader.now ≡ r → a.writer.now ≡ w
      → (a.reader.ghost_name ≡ b.reader.ghost_name → x ≡ b.reader.now) → (a.writer.ghost_name ≡ b.writer.ghost_name → y ≡ b.writer.now)
      → (read : List ℕ) × (out : List ℕ) × Consumes (remaining r) (remaining x) read × Appends (contents w) (contents y) out × (length read ≤ 65536 * turns)
      × Serves read out (remaining x)
  finally_whole Serves turns a b r x w y k first last reader writer =
      let left : b.reader.now ≡ x = sym (reader (sym k.moved.same_reader)) in (
        k.read,
        k.out,
        finally_taken remaining contents a b k.read k.out r x k.moved first reader,
        finally_given remaining contents a b k.read k.out w y k.moved last writer,
        k.most,
        subst (λ (z : R). Serves k.read k.out (remaining z)) left k.serves,
      )
