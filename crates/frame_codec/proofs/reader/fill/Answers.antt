use Rattle.std.proofs.Common.{◌≡◌, ◌++◌, ◌-◌, Bool, List, ℕ, length, drop, refl, Result, Ok, Err, IfOk, IfErr}
use Rattle.std.specs.Prelude.{OnOk}
use Rattle.std.proofs.lemmas.Result.{err_from_is_err_and}
use Rattle.frame_codec.specs.declared.reader.ReadFault.{ReadFault}
use Rattle.frame_codec.specs.declared.reader.ReadFault.TheVariants.{Memory}
use Rattle.frame_codec.specs.Streams.{HasBadLength, HasFault, StopsAt, IsReadable}
use Rattle.frame_codec.proofs.Pieces.{filled_whole, filled_alone, filled_until, sound_stops}
use Rattle.frame_codec.proofs.Prefixes.{fault_stops}
use Rattle.frame_codec.proofs.reader.fill.Goals as goal

-- what holds of a result of which two facts hold
both : {T E : Type 0} (r : Result T E) (A : Type 0) (B C : T → Type 0) → OnOk r A → IfOk r B → ((x : T) → A → B x → C x) → IfOk r C
both (Ok x) A B C a b f = f x a b
both (Err e) A B C a b f = tt

alone : {T E : Type 0} (r : Result T E) (A C : Type 0) → OnOk r A → (A → C) → OnOk r C
alone (Ok x) A C a f = f a
alone (Err e) A C a f = tt

memory_stops : (wide : Bool) {T : Type 0} (r : Result T ReadFault) (bytes : List ℕ) → IfErr r (λ fault. fault ≡ Memory) → StopsAt wide Memory bytes →
    IfErr r (λ fault. StopsAt wide fault bytes)
memory_stops wide (Ok x) bytes e h = tt
memory_stops wide (Err fault) bytes e h = rw e h

pub returns-in_err-size-clause-err : goal.returns-in_err-size-clause-err
returns-in_err-size-clause-err c =
    let p = err_from_is_err_and c.from_residual.result c.from_residual.ensures.1 in
    let h : HasFault c.args.wide c.in_err-size.field-0.0 (c.args.pending.now.items ++ c.args.piece.now) = rw c.deref.ensures.value at c.in_err-size.ensures.err in
    rw (p.1, p.2) (fault_stops c.args.wide c.in_err-size.field-0.0 (c.args.pending.now.items ++ c.args.piece.now) h)

pub returns-clause-whole : goal.returns-clause-whole
returns-clause-whole c =
    let old : List ℕ = c.args.pending.now.items in
    let piece : List ℕ = c.args.piece.now in
    let size : ℕ = c.in_ok-size.size in
    let sound : IsReadable c.args.wide (old ++ piece) size = rw c.deref.ensures.value at c.in_ok-size.ensures.ok in
    both c.top_up.result _ _ _ c.top_up.ensures.moved c.top_up.ensures.rest (λ rest m r.
    filled_whole c.args.wide old piece c.top_up.new.pending.items rest.now size (record { partial = c.requires; readable = sound; new_is = m; rest_is = r }))

pub returns-clause-alone : goal.returns-clause-alone
returns-clause-alone c =
    let old : List ℕ = c.args.pending.now.items in
    let piece : List ℕ = c.args.piece.now in
    let size : ℕ = c.in_ok-size.size in
    let sound : IsReadable c.args.wide (old ++ piece) size = rw c.deref.ensures.value at c.in_ok-size.ensures.ok in
    alone c.top_up.result _ _ c.top_up.ensures.moved (λ m.
    filled_alone c.args.wide old piece c.top_up.new.pending.items (drop (size - length old) piece) size
    (record { partial = c.requires; readable = sound; new_is = m; rest_is = refl }))

pub returns-clause-until : goal.returns-clause-until
returns-clause-until c =
    let old : List ℕ = c.args.pending.now.items in
    let piece : List ℕ = c.args.piece.now in
    let size : ℕ = c.in_ok-size.size in
    let sound : IsReadable c.args.wide (old ++ piece) size = rw c.deref.ensures.value at c.in_ok-size.ensures.ok in
    both c.top_up.result _ _ _ c.top_up.ensures.moved c.top_up.ensures.rest (λ rest m r.
    filled_until c.args.wide old piece c.top_up.new.pending.items rest.now size (record { partial = c.requires; readable = sound; new_is = m; rest_is = r }))

pub returns-clause-err : goal.returns-clause-err
returns-clause-err c =
    let sound : IsReadable c.args.wide (c.args.pending.now.items ++ c.args.piece.now) c.in_ok-size.size = rw c.deref.ensures.value at c.in_ok-size.ensures.ok in
    let good : HasBadLength c.args.wide (c.args.pending.now.items ++ c.args.piece.now) → ⊥ = rw c.deref.ensures.value at c.in_ok-size.ensures.judged in
    memory_stops c.args.wide c.top_up.result (c.args.pending.now.items ++ c.args.piece.now) c.top_up.ensures.err
    (sound_stops c.args.wide (c.args.pending.now.items ++ c.args.piece.now) c.in_ok-size.size sound good)
