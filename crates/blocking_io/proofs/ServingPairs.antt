-- A server's turns over a reader and a writer.
use Rattle.std.proofs.Common.{◌≡◌, ◌<◌, ◌≤◌, ◌⊎◌, ◌*◌, ℕ, true, false, List, [], ◌++◌, length, Option, Result, Ok, Err, refl, sym, subst, inl, inr}
use Rattle.std.specs.Io.KnownBytes.{Appends, Consumes}
use Rattle.connection_io.specs.declared.pair.Pair.{Pair}
use Rattle.connection_io.specs.Pairs.{PairDoes}
use Rattle.connection_io.proofs.Pairs.{moved_none}
use Rattle.connection_io.proofs.ManyTurns.{WentOut, SoFar, Whole, no_turns, many_turned, by_piece, by_end, by_failed_read, by_count, no_call, finally_whole}
use Rattle.version_store.specs.Histories.{StoreState, History, StandsFor}
use Rattle.server_core.specs.Cores.{Core, session_of}
use Rattle.server_core.specs.Serving.{Setting, setting_of}
use Rattle.server_core.specs.Sessions.{Session}
use Rattle.blocking_io.specs.declared.serving.Ending.{Ending}
use Rattle.blocking_io.specs.declared.serving.Ending.TheVariants.{Closed, EndOfInput}
use Rattle.blocking_io.specs.declared.serving.ServeFault.{ServeFault}
use Rattle.blocking_io.specs.declared.serving.ServeFault.TheVariants as fault
use Rattle.connection_io.specs.Turns.{CallTurn}
use Rattle.blocking_io.specs.Serving.{IsStreamServed, ServesStream}
use Rattle.blocking_io.specs.ServingTurns.{TakesPiece, LeavesSession, EndsTurns, NeverServes, ServesSession, ServesOver}
use Rattle.blocking_io.proofs.Sessions.{IsOpenStill, opened, not_begun, left_so, step_well, step_faulty, found_open, found_shut, same_stores}

-- what is so after turns that left the session open
abbrev IsOpen : ℕ → Core → List ℕ → List ℕ → Core → Type 0
IsOpen id old read out new = (h : History) → StandsFor old.store h → IsOpenStill (setting_of old.store) h read out new.store (session_of new.sessions id)

-- what was served in all, and how the store stands then
abbrev IsServed : ℕ → Core → Result Ending ServeFault → Core → List ℕ → List ℕ → Option (List ℕ) → Type 0
IsServed turns old result new read out left = (h : History) → StandsFor old.store h → ServesStream (setting_of old.store) h turns result read out left new.store

-- a turn that served nothing
unserved : (x : Setting) (h : History) (read out : List ℕ) (mid new : Core) (found : Option Session) → new ≡ mid → IsOpenStill x h read out mid.store found →
    IsStreamServed x h read out new.store false
unserved x h read out mid new found e o = subst (λ (k : Core). IsStreamServed x h read out k.store false) (sym e) (left_so x h read out mid.store found o)

module _ {R W : Type 0} (remaining : R → Option (List ℕ)) (contents : W → Option (List ℕ)) (id turns : ℕ) (old : Core) (a : Pair R W) where
  -- what was read and written in all
  abbrev Served : Result Ending ServeFault → Core → Pair R W → Type 0
  Served result new b = Whole remaining contents turns a (IsServed turns old result new) b

  keeps : (read out : List ℕ) (p q : Core × Pair R W) (turn : CallTurn) → IsOpen id old read out p.0
      → LeavesSession (PairDoes remaining contents) id true p.0 p.1 turn q.0 q.1 → IsOpen id old (read ++ turn.piece) (out ++ turn.output) q.0
  keeps read out p q turn i t = λ h s. found_open _ h (read ++ turn.piece) (out ++ turn.output) _ _
      (step_well _ h read out turn.piece turn.output p.0.store _ _ _ (i h s) t.takes.served) t.is_so

  module _ (count : ℕ) (mid : Core) (b : Pair R W) (i : SoFar remaining contents (IsOpen id old) a count mid b) where
    last_piece : (result : Result Ending ServeFault) (answer : Result (Unit {0}) ServeFault) (turn : CallTurn) (new : Core) (c : Pair R W)
        → count < turns → (t : TakesPiece (PairDoes remaining contents) id mid b answer turn new c) → WentOut remaining contents t.middle turn.output c
        → IsServed turns old result new (i.read ++ turn.piece) (i.out ++ turn.output) (remaining c.reader.now) → Served result new c
    last_piece result answer turn new c lt t s h =
        by_piece remaining contents (IsOpen id old) (IsServed turns old result new) turns a count mid b i c turn lt
        (record { middle = t.middle; reads = t.reads; writes = s }) h

    left : (new : Core) → new ≡ mid → (h : History) → StandsFor old.store h → IsStreamServed (setting_of old.store) h i.read i.out new.store false
    left new e h s = unserved (setting_of old.store) h i.read i.out mid new (session_of mid.sessions id) e (i.holds h s)

    ended : (result : Result Ending ServeFault) (new : Core) (c : Pair R W) → EndsTurns (PairDoes remaining contents) id turns count mid b result new c
        → Served result new c
    ended (Ok Closed) new c e =
        let turn : CallTurn = e.1.0 in
        last_piece (Ok Closed) (Ok tt) turn new c e.0 e.1.1.takes (inl e.1.1.takes.writes)
        (λ h s. found_shut _ h (i.read ++ turn.piece) (i.out ++ turn.output) _ _
        (step_well _ h i.read i.out turn.piece turn.output mid.store _ _ _ (i.holds h s) e.1.1.takes.served) e.1.1.is_so)
    ended (Ok EndOfInput) new c e =
        by_end remaining contents (IsOpen id old) (IsServed turns old (Ok EndOfInput) new) turns a count mid b i c e.0 e.1.0
        (λ z h s. (left new e.1.1 h s, z))
    ended (Err fault.IdInUse) new c e = absurd e.1
    ended (Err fault.Read) new c e =
        by_failed_read remaining contents (IsOpen id old) (IsServed turns old (Err fault.Read) new) turns a count mid b i c e.0 e.1.0 (left new e.1.1)
    ended (Err fault.Write) new c e =
        let turn : CallTurn = e.1.0 in
        last_piece (Err fault.Write) (Err fault.Write) turn new c e.0 e.1.1 (inr e.1.1.writes)
        (λ h s. step_faulty fault.Write _ h turns i.read i.out turn.piece turn.output (remaining c.reader.now) mid.store new.store
        (session_of mid.sessions id) (session_of new.sessions id) (i.holds h s) e.1.1.served (λ x. cc))
    ended (Err fault.Memory) new c e =
        let turn : CallTurn = e.1.0 in
        last_piece (Err fault.Memory) (Err fault.Memory) turn new c e.0 e.1.1 (inl e.1.1.writes)
        (λ h s. step_faulty fault.Memory _ h turns i.read i.out turn.piece turn.output (remaining c.reader.now) mid.store new.store
        (session_of mid.sessions id) (session_of new.sessions id) (i.holds h s) e.1.1.served (λ x. cc))
    ended (Err fault.TurnsUsedUp) new c e =
        by_count remaining contents (IsOpen id old) (IsServed turns old (Err fault.TurnsUsedUp) new) turns a count mid b i c e.0 e.2
        (λ z h s. (left new e.1 h s, z))

-- a whole session, with its opening and its end
whole_session : {R W : Type 0} (remaining : R → Option (List ℕ)) (contents : W → Option (List ℕ)) (id turns : ℕ) (old : Core) (a : Pair R W)
    (result : Result Ending ServeFault) (new : Core) (b : Pair R W)
    → NeverServes old a result new b ⊎ ServesSession (PairDoes remaining contents) id turns old a result new b →
    Whole remaining contents turns a (IsServed turns old result new) b
whole_session remaining contents id turns old a result new b (inl n) =
    let at : Result Ending ServeFault → StoreState → Type 0 = λ r store. (h : History) → StandsFor old.store h →
    ServesStream (setting_of old.store) h turns r [] [] (remaining b.reader.now) store in
    no_call remaining contents (IsServed turns old result new) turns a b n.2
    (subst (λ r. at r new.store) (sym n.0)
    (subst (λ store. at (Err fault.Memory) store) (sym n.1) (λ h s. not_begun h old.store turns (remaining b.reader.now) s)))
whole_session remaining contents id turns old a result new b (inr v) =
    let t = v.turns_are in
    let first : SoFar remaining contents (IsOpen id v.opened) a 0 v.opened a =
    no_turns remaining contents (IsOpen id v.opened) a [] v.opened a (moved_none remaining contents a) (λ h s. opened h v.opened.store _ s v.session_is) in
    let all = many_turned remaining contents (IsOpen id v.opened) (λ p turn q. LeavesSession (PairDoes remaining contents) id true p.0 p.1 turn q.0 q.1)
    (λ p q turn k. record { middle = k.takes.middle; reads = k.takes.reads; writes = inl k.takes.writes })
    (keeps remaining contents id turns v.opened a) a (v.opened, a) (t.core, t.middle) t.before first t.begun in
    let w = ended remaining contents id turns v.opened a (length t.before) t.core t.middle all result v.last b t.ends in
    record {
      read = w.read;
      out = w.out;
      moved = w.moved;
      most = w.most;
      serves = λ h s. same_stores h turns result w.read w.out (remaining b.reader.now) old.store v.opened.store v.last.store new.store v.store_is v.store_then
          (w.serves h) s;
    }

whole_over : {R W : Type 0} (remaining : R → Option (List ℕ)) (contents : W → Option (List ℕ)) (id turns : ℕ) (old : Core) (a : Pair R W)
    (result : Result Ending ServeFault) (new : Core) (b : Pair R W)
    → ServesOver (PairDoes remaining contents) id turns old a result new b → Whole remaining contents turns a (IsServed turns old result new) b
whole_over remaining contents id turns old a (Ok ending) new b o = whole_session remaining contents id turns old a (Ok ending) new b o
whole_over remaining contents id turns old a (Err fault.IdInUse) new b o =
    no_call remaining contents (IsServed turns old (Err fault.IdInUse) new) turns a b o.1 (λ h s. (refl, refl))
whole_over remaining contents id turns old a (Err fault.Read) new b o = whole_session remaining contents id turns old a (Err fault.Read) new b o
whole_over remaining contents id turns old a (Err fault.Write) new b o = whole_session remaining contents id turns old a (Err fault.Write) new b o
whole_over remaining contents id turns old a (Err fault.Memory) new b o = whole_session remaining contents id turns old a (Err fault.Memory) new b o
whole_over remaining contents id turns old a (Err fault.TurnsUsedUp) new b o = whole_session remaining contents id turns old a (Err fault.TurnsUsedUp) new b o

-- what a caller knows that joined a reader and a writer
pub finally_served : {R W : Type 0} (remaining : R → Option (List ℕ)) (contents : W → Option (List ℕ)) (id turns : ℕ) (old : Core) (a : Pair R W)
    (result : Result Ending ServeFault) (new : Core) (b : Pair R W) (r x : R) (w y : W)
    → ServesOver (PairDoes remaining contents) id turns old a result new b → a.reader.now ≡ r → a.writer.now ≡ w
    → (a.reader.ghost_name ≡ b.reader.ghost_name → x ≡ b.reader.now) → (a.writer.ghost_name ≡ b.writer.ghost_name → y ≡ b.writer.now)
    → (read : List ℕ) × (out : List ℕ) × Consumes (remaining r) (remaining x) read × Appends (contents w) (contents y) out × (length read ≤ 65536 * turns)
    × ((h : History) → StandsFor old.store h → ServesStream (setting_of old.store) h turns result read out (remaining x) new.store)
finally_served remaining contents id turns old a result new b r x w y o =
    finally_whole remaining contents (IsServed turns old result new) turns a b r x w y (whole_over remaining contents id turns old a result new b o)
