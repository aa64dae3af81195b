-- A client's turns over a reader and a writer.
use Rattle.std.proofs.Common.{◌≡◌, ◌<◌, ◌≤◌, ◌*◌, ℕ, List, [], ◌++◌, length, Option, Some, None, Result, Ok, Err, append_assoc, append-nil, refl, sym, ap, subst, ◌∙◌, arith, inl, inr}
use Rattle.std.specs.Io.KnownBytes.{Appends, Consumes}
use Rattle.connection_io.specs.declared.pair.Pair.{Pair}
use Rattle.connection_io.specs.Calls.{Sends}
use Rattle.connection_io.specs.Pairs.{PairDoes}
use Rattle.connection_io.proofs.Pairs.{moved_none, moved_sent, moved_faulty}
use Rattle.connection_io.proofs.ManyTurns.{WentOut, SoFar, Whole, no_turns, many_turned, by_piece, by_end, by_failed_read, by_count, no_call, finally_whole}
use Rattle.client_core.specs.Feeding.{Client}
use Rattle.client_core.specs.declared.state.Event.{Event}
use Rattle.blocking_io.specs.declared.conversing.ConverseFault.{ConverseFault}
use Rattle.blocking_io.specs.declared.conversing.ConverseFault.TheVariants as fault
use Rattle.connection_io.specs.Turns.{CallTurn}
use Rattle.blocking_io.specs.Conversing.{WaitsForReply, Receives, Converses}
use Rattle.blocking_io.specs.ConversingTurns.{TakesReply, ReceivesTurns, EndsConversing, NeverReceivesOver, ConversesOver}
use Rattle.blocking_io.proofs.Conversations.{waits_on, event_heard, fault_heard}

-- what is so after turns that left the client waiting: the first bytes stand before what it said
-- since
abbrev Waits : Client → List ℕ → List ℕ → List ℕ → Client → Type 0
Waits old first read out new = (said : List ℕ) × (out ≡ first ++ said) × WaitsForReply old read said new

module _ {R W : Type 0} (remaining : R → Option (List ℕ)) (contents : W → Option (List ℕ)) (turns : ℕ) (old : Client) (first : List ℕ) (a : Pair R W) where
  -- what was read and written in all, and how the client stands then
  abbrev Conversed : Result Event ConverseFault → Client → Pair R W → Type 0
  Conversed result new b = Whole remaining contents turns a (λ read out left. Converses old first turns result read out left new) b

  -- what the client says to one more piece comes after the first bytes too
  after_first : (out said output : List ℕ) → out ≡ first ++ said → out ++ output ≡ first ++ (said ++ output)
  after_first out said output e = ap (λ (x : List ℕ). x ++ output) e ∙ append_assoc first said output

  keeps : (read out : List ℕ) (p q : Client × Pair R W) (turn : CallTurn) → Waits old first read out p.0
      → TakesReply (PairDoes remaining contents) p.0 p.1 (Ok None) turn q.0 q.1 → Waits old first (read ++ turn.piece) (out ++ turn.output) q.0
  keeps read out p q turn w t = (
    w.0 ++ turn.output,
    after_first out w.0 turn.output w.1,
    waits_on old read w.0 p.0 turn.piece turn.output None q.0 refl w.2 t.heard,
  )

  module _ (count : ℕ) (mid : Client) (b : Pair R W) (i : SoFar remaining contents (Waits old first) a count mid b) where
    -- a last turn that had a piece
    last_piece : (result : Result Event ConverseFault) (answer : Result (Option Event) ConverseFault) (turn : CallTurn) (new : Client) (c : Pair R W)
        → count < turns → (t : TakesReply (PairDoes remaining contents) mid b answer turn new c) → WentOut remaining contents t.middle turn.output c
        → Receives old turns result (i.read ++ turn.piece) (i.holds.0 ++ turn.output) (remaining c.reader.now) new → Conversed result new c
    last_piece result answer turn new c lt t s h =
        by_piece remaining contents (Waits old first) _ turns a count mid b i c turn lt (record { middle = t.middle; reads = t.reads; writes = s })
        (inr (i.holds.0 ++ turn.output, after_first i.out i.holds.0 turn.output i.holds.1, h))

    -- a turn that left the client alone
    still : (new : Client) → new ≡ mid → WaitsForReply old i.read i.holds.0 new
    still new e = subst (λ (c : Client). WaitsForReply old i.read i.holds.0 c) (sym e) i.holds.2

    ended : (result : Result Event ConverseFault) (new : Client) (c : Pair R W) → EndsConversing (PairDoes remaining contents) turns count mid b result new c
        → Conversed result new c
    ended (Ok event) new c e =
        let turn : CallTurn = e.1.0 in
        last_piece (Ok event) (Ok (Some event)) turn new c e.0 e.1.1 (inl e.1.1.writes)
        (event_heard old turns i.read i.holds.0 mid turn.piece turn.output (Some event) event (remaining c.reader.now) new refl i.holds.2 e.1.1.heard)
    ended (Err fault.Ended) new c e =
        by_end remaining contents (Waits old first) _ turns a count mid b i c e.0 e.1.0 (λ z. inr (i.holds.0, i.holds.1, (still new e.1.1, z)))
    ended (Err fault.Read) new c e =
        by_failed_read remaining contents (Waits old first) _ turns a count mid b i c e.0 e.1.0 (inr (i.holds.0, i.holds.1, still new e.1.1))
    ended (Err fault.Write) new c e =
        let turn : CallTurn = e.1.0 in
        last_piece (Err fault.Write) (Err fault.Write) turn new c e.0 e.1.1 (inr e.1.1.writes)
        (fault_heard old turns i.read i.holds.0 mid turn.piece turn.output fault.Write (remaining c.reader.now) new i.holds.2 e.1.1.heard)
    ended (Err fault.BadWelcome) new c e =
        let turn : CallTurn = e.1.0 in
        last_piece (Err fault.BadWelcome) (Err fault.BadWelcome) turn new c e.0 e.1.1 (inl e.1.1.writes)
        (fault_heard old turns i.read i.holds.0 mid turn.piece turn.output fault.BadWelcome (remaining c.reader.now) new i.holds.2 e.1.1.heard)
    ended (Err fault.BadReply) new c e =
        let turn : CallTurn = e.1.0 in
        last_piece (Err fault.BadReply) (Err fault.BadReply) turn new c e.0 e.1.1 (inl e.1.1.writes)
        (fault_heard old turns i.read i.holds.0 mid turn.piece turn.output fault.BadReply (remaining c.reader.now) new i.holds.2 e.1.1.heard)
    ended (Err fault.Memory) new c e =
        let turn : CallTurn = e.1.0 in
        last_piece (Err fault.Memory) (Err fault.Memory) turn new c e.0 e.1.1 (inl e.1.1.writes)
        (fault_heard old turns i.read i.holds.0 mid turn.piece turn.output fault.Memory (remaining c.reader.now) new i.holds.2 e.1.1.heard)
    ended (Err fault.Failed) new c e =
        let turn : CallTurn = e.1.0 in
        last_piece (Err fault.Failed) (Err fault.Failed) turn new c e.0 e.1.1 (inl e.1.1.writes)
        (fault_heard old turns i.read i.holds.0 mid turn.piece turn.output fault.Failed (remaining c.reader.now) new i.holds.2 e.1.1.heard)
    ended (Err fault.TurnsUsedUp) new c e =
        by_count remaining contents (Waits old first) _ turns a count mid b i c e.0 e.2 (λ z. inr (i.holds.0, i.holds.1, (still new e.1, z)))

  -- the first bytes, and all turns
  whole_talk : (m : Pair R W) (result : Result Event ConverseFault) (new : Client) (b : Pair R W) → Sends (PairDoes remaining contents) a first m
      → ReceivesTurns (PairDoes remaining contents) turns old m result new b → Conversed result new b
  whole_talk m result new b s t =
      let start : SoFar remaining contents (Waits old first) a 0 old m =
      no_turns remaining contents (Waits old first) a first old m (moved_sent remaining contents a a m [] [] first (moved_none remaining contents a) s)
      ([], sym (append-nil first), inl (refl, refl, refl)) in
      let all = many_turned remaining contents (Waits old first) (λ p turn q. TakesReply (PairDoes remaining contents) p.0 p.1 (Ok None) turn q.0 q.1)
      (λ p q turn k. record { middle = k.middle; reads = k.reads; writes = inl k.writes }) keeps a (old, m) (t.client, t.middle) t.before start t.begun in
      ended (length t.before) t.client t.middle all result new b t.ends

  never : (result : Result Event ConverseFault) (new : Client) (b : Pair R W) → NeverReceivesOver (PairDoes remaining contents) old first a result new b
      → Conversed result new b
  never (Ok event) new b n = absurd n
  never (Err fault.Ended) new b n = absurd n
  never (Err fault.Read) new b n = absurd n
  never (Err fault.Write) new b n = record {
    read = [];
    out = n.1;
    moved = moved_faulty remaining contents a a b [] [] n.1 (moved_none remaining contents a) n.3;
    most = omega arith;
    serves = inl (refl, n.2, n.0);
  }
  never (Err fault.BadWelcome) new b n = absurd n
  never (Err fault.BadReply) new b n = absurd n
  never (Err fault.Memory) new b n = no_call remaining contents _ turns a b n.1 (inl (refl, refl, n.0))
  never (Err fault.TurnsUsedUp) new b n = absurd n
  never (Err fault.Failed) new b n = absurd n

-- what a caller knows that joined a reader and a writer
pub finally_heard : {R W : Type 0} (remaining : R → Option (List ℕ)) (contents : W → Option (List ℕ)) (turns : ℕ) (old : Client) (first : List ℕ)
    (a : Pair R W) (result : Result Event ConverseFault) (new : Client) (b : Pair R W) (r x : R) (w y : W)
    → ConversesOver (PairDoes remaining contents) old first a turns result new b → a.reader.now ≡ r → a.writer.now ≡ w
    → (a.reader.ghost_name ≡ b.reader.ghost_name → x ≡ b.reader.now) → (a.writer.ghost_name ≡ b.writer.ghost_name → y ≡ b.writer.now)
    → (read : List ℕ) × (out : List ℕ) × Consumes (remaining r) (remaining x) read × Appends (contents w) (contents y) out × (length read ≤ 65536 * turns)
    × Converses old first turns result read out (remaining x) new
finally_heard remaining contents turns old first a result new b r x w y o =
    finally_whole remaining contents (λ read out left. Converses old first turns result read out left new) turns a b r x w y
    (elim o [
      | inl n ↦ never remaining contents turns old first a result new b n
      | inr t ↦ whole_talk remaining contents turns old first a t.0 result new b t.1 t.2
    ])
