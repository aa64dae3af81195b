-- That no byte is written while what is served is not what is there after a crash.
use Rattle.std.proofs.Common.{◌≡◌, ◌+◌, ◌-◌, ℕ, List, [], ◌∷◌, ◌++◌, Result, Ok, Err, inl, inr, refl, sym, ap, subst, arith}
use Rattle.server_core.specs.Cores.{Core}
use Rattle.connection_turns.specs.Calls.{DeviceCall, Read, ReadLater, ReadFails, Write, WriteLater, WriteFails, Append, AppendUndone, AppendLost, TakeBack, TakeBackFails}
use Rattle.connection_turns.specs.Connections.{ConnectionSeen}
use Rattle.connection_turns.specs.Turns.{ReadsOnce, ServesOnce, Publishes, WritesOnce, TakesTurn, StopsAtFrame}
use Rattle.connection_turns.specs.Saving.{Notes, saved_after, WritesOnlySaved, SavesBeforeWriting, TurnsSaveBeforeWriting}
use Rattle.connection_turns.specs.declared.turns.Served.{Served}
use Rattle.connection_turns.specs.declared.turns.Served.TheVariants.{Done, PutOff}
use Rattle.connection_turns.specs.declared.turns.Fault.{Fault}
use Rattle.connection_turns.specs.declared.turns.Fault.TheVariants as fault

-- calls that write only while a version is there after a crash, and leave another there
record Leaves (version saved left : ℕ) (calls : List DeviceCall) : Type 0 where
  writes : WritesOnlySaved version saved calls
  left_is : saved_after saved calls ≡ left

-- one call more
abbrev Adds : ℕ → ℕ → DeviceCall → ℕ → Type 0
Adds version left call next = WritesOnlySaved version left (call ∷ []) × (saved_after left (call ∷ []) ≡ next)

added : (version saved left next : ℕ) (calls : List DeviceCall) (call : DeviceCall) → Leaves version saved left calls → Adds version left call next →
    Leaves version saved next (calls ++ call ∷ [])
added version saved left next [] call l a = subst (λ (s : ℕ). Leaves version s next (call ∷ [])) (sym l.left_is) (record { writes = a.0; left_is = a.1 })
added version saved left next (Read room bytes ∷ calls) call l a =
    let m = added version saved left next calls call (record { writes = l.writes; left_is = l.left_is }) a in record { writes = m.writes; left_is = m.left_is }
added version saved left next (ReadLater ∷ calls) call l a =
    let m = added version saved left next calls call (record { writes = l.writes; left_is = l.left_is }) a in record { writes = m.writes; left_is = m.left_is }
added version saved left next (ReadFails ∷ calls) call l a =
    let m = added version saved left next calls call (record { writes = l.writes; left_is = l.left_is }) a in record { writes = m.writes; left_is = m.left_is }
added version saved left next (Write bytes ∷ calls) call l a =
    let m = added version saved left next calls call (record { writes = l.writes.1; left_is = l.left_is }) a in record {
      writes = (l.writes.0, m.writes);
      left_is = m.left_is;
    }
added version saved left next (WriteLater ∷ calls) call l a =
    let m = added version saved left next calls call (record { writes = l.writes; left_is = l.left_is }) a in record { writes = m.writes; left_is = m.left_is }
added version saved left next (WriteFails ∷ calls) call l a =
    let m = added version saved left next calls call (record { writes = l.writes; left_is = l.left_is }) a in record { writes = m.writes; left_is = m.left_is }
added version saved left next (Append v ∷ calls) call l a =
    let m = added version v left next calls call (record { writes = l.writes; left_is = l.left_is }) a in record { writes = m.writes; left_is = m.left_is }
added version saved left next (AppendUndone v ∷ calls) call l a =
    let m = added version saved left next calls call (record { writes = l.writes; left_is = l.left_is }) a in record { writes = m.writes; left_is = m.left_is }
added version saved left next (AppendLost v ∷ calls) call l a =
    let m = added version saved left next calls call (record { writes = l.writes; left_is = l.left_is }) a in record { writes = m.writes; left_is = m.left_is }
added version saved left next (TakeBack v ∷ calls) call l a =
    let m = added version (v - 1) left next calls call (record { writes = l.writes; left_is = l.left_is }) a in record { writes = m.writes; left_is = m.left_is }
added version saved left next (TakeBackFails v ∷ calls) call l a =
    let m = added version saved left next calls call (record { writes = l.writes; left_is = l.left_is }) a in record { writes = m.writes; left_is = m.left_is }

-- the same of the list that a call leads to
then_ : (version saved left next : ℕ) (before after : List DeviceCall) (call : DeviceCall) → Leaves version saved left before → Notes before call after →
    Adds version left call next → Leaves version saved next after
then_ version saved left next before after call l n a =
    subst (λ (calls : List DeviceCall). Leaves version saved next calls) (sym n) (added version saved left next before call l a)

none : (version saved : ℕ) → Leaves version saved saved []
none version saved = record { writes = tt; left_is = refl }

same : (version saved left : ℕ) (before after : List DeviceCall) → Leaves version saved left before → after ≡ before → Leaves version saved left after
same version saved left before after l e = subst (λ (calls : List DeviceCall). Leaves version saved left calls) (sym e) l

-- another number of the same version
left_of : (version saved left next : ℕ) (calls : List DeviceCall) → Leaves version saved left calls → left ≡ next → Leaves version saved next calls
left_of version saved left next calls l e = subst (λ (n : ℕ). Leaves version saved n calls) e l

-- what is read changes nothing
reads_leave : (version saved : ℕ) (old new : ConnectionSeen) (calls : List DeviceCall) → ReadsOnce Notes old [] (Ok tt) new calls → Leaves version saved saved calls
reads_leave version saved old new calls (inl nothing) = same version saved saved [] calls (none version saved) nothing.2
reads_leave version saved old new calls (inr some) = elim some.1 [
  | inl later ↦ then_ version saved saved saved [] calls ReadLater (none version saved) later.0 (tt, refl)
  | inr others ↦ elim others [
    | inl end ↦ then_ version saved saved saved [] calls (Read 65536 []) (none version saved) end.0 (tt, refl)
    | inr came ↦ then_ version saved saved saved [] calls (Read 65536 came.0) (none version saved) came.2 (tt, refl)
  ]
]

-- a publication that was appended
appends_leave : (version saved : ℕ) (answer : Result (Unit {0}) Fault) (id now : ℕ) (old new : ConnectionSeen) (before after : Core) (a b : List DeviceCall) →
    Leaves version saved before.store.version a → (p : Publishes Notes id now old before a answer new after b)
    → Leaves version saved (before.store.version + 1) p.appended_by
appends_leave version saved answer id now old new before after a b l p =
    then_ version saved before.store.version (before.store.version + 1) a p.appended_by (Append (before.store.version + 1)) l p.appends (tt, refl)

-- and was taken back
back_leaves : (version saved was now : ℕ) (a b : List DeviceCall) → Leaves version saved (was + 1) a → Notes a (TakeBack (was + 1)) b → now ≡ was →
    Leaves version saved now b
back_leaves version saved was now a b l n e = then_ version saved (was + 1) now a b (TakeBack (was + 1)) l n (tt, omega (arith, e))

-- a frame that is served, or put off
serves_leave : (version saved id now : ℕ) (old new : ConnectionSeen) (before after : Core) (served : Served) (a b : List DeviceCall) →
    Leaves version saved before.store.version a → ServesOnce Notes id now old before a (Ok served) new after b
    → Leaves version saved after.store.version b
serves_leave version saved id now old new before after Done a b l (inl nothing) =
    left_of version saved before.store.version after.store.version b (same version saved before.store.version a b l nothing.3)
    (ap (λ (c : Core). c.store.version) (sym nothing.2))
serves_leave version saved id now old new before after Done a b l (inr some) = elim some.1 [
  | inl plain ↦ left_of version saved before.store.version after.store.version b (same version saved before.store.version a b l plain.no_call) (sym plain.version_is)
  | inr p ↦
      let m = appends_leave version saved (Ok tt) id now old new before after a b l p in
      elim p.ends.ends [
        | inl made ↦ left_of version saved (before.store.version + 1) after.store.version b
            (same version saved (before.store.version + 1) p.appended_by b m made.1) (sym made.0)
        | inr back ↦ back_leaves version saved before.store.version after.store.version p.appended_by b m back.1 back.0
      ]
]
serves_leave version saved id now old new before after PutOff a b l nothing =
    left_of version saved before.store.version after.store.version b (same version saved before.store.version a b l nothing.4)
    (ap (λ (c : Core). c.store.version) (sym nothing.3))

-- what is written is of the version that is there
writes_leave : (version saved now : ℕ) (old new : ConnectionSeen) (answer : Result (Unit {0}) Fault) (a b : List DeviceCall) → Leaves version saved version a →
    WritesOnce Notes now old a answer new b → Leaves version saved version b
writes_leave version saved now old new (Ok done) a b l (inl nothing) = same version saved version a b l nothing.2
writes_leave version saved now old new (Ok done) a b l (inr (inl later)) = then_ version saved version version a b WriteLater l later.0 (tt, refl)
writes_leave version saved now old new (Ok done) a b l (inr (inr took)) = then_ version saved version version a b (Write _) l took.3 ((refl, tt), refl)
writes_leave version saved now old new (Err fault.Write) a b l w = then_ version saved version version a b WriteFails l w.1 (tt, refl)
writes_leave version saved now old new (Err fault.Read) a b l w = absurd w
writes_leave version saved now old new (Err fault.Memory) a b l w = absurd w
writes_leave version saved now old new (Err fault.Save) a b l w = absurd w

given : (before after : ℕ) (answer : Result Served Fault) (calls : List DeviceCall) → Leaves after before after calls → SavesBeforeWriting before after answer calls
given before after answer calls l = record { writes = l.writes; saved = λ n. l.left_is }

takes : (id now : ℕ) (old new : ConnectionSeen) (before after : Core) (served : Served) (answer : Result (Unit {0}) Fault) (said : Result Served Fault)
    (calls : List DeviceCall) → TakesTurn Notes id now old before [] served answer new after calls
    → SavesBeforeWriting before.store.version after.store.version said calls
takes id now old new before after served answer said calls t =
    let r = reads_leave after.store.version before.store.version old t.filled t.read_by t.reads in
    let s = serves_leave after.store.version before.store.version id now t.filled t.answered before after served t.read_by t.served_by r t.serves in
    given before.store.version after.store.version said calls
    (writes_leave after.store.version before.store.version now t.answered new answer t.served_by calls s t.writes)

-- memory was refused to the frame at hand
stops_for_memory : (id now : ℕ) (old new : ConnectionSeen) (before after : Core) (calls : List DeviceCall) →
    StopsAtFrame Notes id now old before [] fault.Memory new after calls → SavesBeforeWriting before.store.version after.store.version (Err fault.Memory) calls
stops_for_memory id now old new before after calls t =
    let v : ℕ = after.store.version in
    let w : ℕ = before.store.version in
    let r = reads_leave v w old t.filled t.read_by t.reads in
    given w v (Err fault.Memory) calls (elim t.serves.1 [
      | inl plain ↦ left_of v w w v calls (same v w w t.read_by calls r plain.no_call) (sym plain.version_is)
      | inr p ↦
          let m = appends_leave v w (Err fault.Memory) id now t.filled new before after t.read_by calls r p in
          back_leaves v w w v p.appended_by calls m p.ends.ends.1 p.ends.ends.0
    ])

-- nothing is left of a publication that could not be appended
stops_for_append : (id now : ℕ) (old new : ConnectionSeen) (before after : Core) (calls : List DeviceCall) →
    StopsAtFrame Notes id now old before [] fault.Write new after calls → SavesBeforeWriting before.store.version after.store.version (Err fault.Write) calls
stops_for_append id now old new before after calls t =
    let v : ℕ = after.store.version in
    let w : ℕ = before.store.version in
    let r = reads_leave v w old t.filled t.read_by t.reads in
    let m = then_ v w w w t.read_by calls (AppendUndone (w + 1)) r t.serves.1.fails (tt, refl) in
    given w v (Err fault.Write) calls (left_of v w w v calls m (ap (λ (c : Core). c.store.version) (sym t.serves.1.core_is)))

-- nothing may be written any more
stops_all : (id now : ℕ) (old new : ConnectionSeen) (before after : Core) (calls : List DeviceCall) →
    StopsAtFrame Notes id now old before [] fault.Save new after calls → SavesBeforeWriting before.store.version after.store.version (Err fault.Save) calls
stops_all id now old new before after calls t =
    let v : ℕ = after.store.version in
    let w : ℕ = before.store.version in
    let r = reads_leave v w old t.filled t.read_by t.reads in
    elim t.serves.1 [
      | inl lost ↦
          let m = then_ v w w w t.read_by calls (AppendLost (w + 1)) r lost.fails (tt, refl) in
          record { writes = m.writes; saved = λ n. absurd (n refl) }
      | inr p ↦
          let m = appends_leave v w (Err fault.Save) id now t.filled new before after t.read_by calls r p in
          let k = then_ v w (w + 1) (w + 1) p.appended_by calls (TakeBackFails (w + 1)) m p.ends.fails (tt, refl) in
          record { writes = k.writes; saved = λ n. absurd (n refl) }
    ]

-- a read after which no frame is served
only_read : (before after : Core) (answer : Result Served Fault) (calls : List DeviceCall) (call : DeviceCall) →
    Adds after.store.version before.store.version call before.store.version → Notes [] call calls → after ≡ before
    → SavesBeforeWriting before.store.version after.store.version answer calls
only_read before after answer calls call a n e =
    let v : ℕ = after.store.version in
    let w : ℕ = before.store.version in
    given w v answer calls (left_of v w w v calls (then_ v w w w [] calls call (none v w) n a) (ap (λ (c : Core). c.store.version) (sym e)))

pub turns_save_before_writing : TurnsSaveBeforeWriting
turns_save_before_writing id now old new before after (Ok served) calls t = takes id now old new before after served (Ok tt) (Ok served) calls t
turns_save_before_writing id now old new before after (Err fault.Read) calls t =
    only_read before after (Err fault.Read) calls ReadFails (tt, refl) t.0.1 t.1
turns_save_before_writing id now old new before after (Err fault.Write) calls (inl t) =
    takes id now old new before after t.0 (Err fault.Write) (Err fault.Write) calls t.1
turns_save_before_writing id now old new before after (Err fault.Write) calls (inr t) = stops_for_append id now old new before after calls t
turns_save_before_writing id now old new before after (Err fault.Memory) calls (inl t) =
    only_read before after (Err fault.Memory) calls (Read 65536 t.0.1.0) (tt, refl) t.0.1.1 t.1
turns_save_before_writing id now old new before after (Err fault.Memory) calls (inr t) = stops_for_memory id now old new before after calls t
turns_save_before_writing id now old new before after (Err fault.Save) calls t = stops_all id now old new before after calls t
