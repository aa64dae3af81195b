-- Turns over a connection.
use Rattle.std.proofs.Common.{◌≡◌, ◌<◌, ℕ, List, [], ◌∷◌, ◌++◌, true, false, Option, Result, Ok, Err, OnOk, IfErr, sym, subst, inl, inr}
use Rattle.std.proofs.lemmas.Fn.{FoldsTo-push}
use Rattle.connection_io.specs.Calls.{IoCall, Read}
use Rattle.connection_io.specs.Turns.{CallTurn}
use Rattle.once_session.specs.declared.stage.Stage.{Stage}
use Rattle.once_session.specs.declared.engine.OnceFault.{OnceFault}
use Rattle.once_session.specs.declared.engine.OnceFault.TheVariants as fault
use Rattle.once_session.specs.Outputs.{takes_frames, is_finished, IsServeFault, Finishes}
use Rattle.once_session.specs.OnceTurns.{WritesWorkReplies, Work, fresh_work, TakesWorkPiece, LeavesOpen, WorkGoesOn, EndsWorkTurns}

pub one_more : {C : Type 0} (does : C → IoCall → C → Type 0) (a : C) (turns : List CallTurn) (mid : Work) (b : C) (turn : CallTurn) (new : Work) (c : C)
    → WorkGoesOn does fresh_work a turns mid b → LeavesOpen does mid b turn new c → WorkGoesOn does fresh_work a (turns ++ turn ∷ []) new c
one_more {C = C} does a turns mid b turn new c go t =
    FoldsTo-push {P = Work × C} (λ p turn q. LeavesOpen does p.0 p.1 turn q.0 q.1) (fresh_work, a) turns (mid, b) turn (new, c) go t

-- the stream has ended
pub end_found : {C : Type 0} (does : C → IoCall → C → Type 0) (turns count : ℕ) (old : Work) (a : C) (answer : Result (Unit {0}) OnceFault) (b : C) →
    count < turns
    → (m : C) → does a (Read 65536 []) m → (out : List ℕ) → WritesWorkReplies does answer m out b → Finishes answer old.unfinished out →
    EndsWorkTurns does turns count old a answer b
end_found does turns count old a (Ok d) b lt m r out w f = (lt, inr (record { middle = m; reads = r; out = out; writes = w; finishes = f }))
end_found does turns count old a (Err fault.BadInput) b lt m r out w f = (lt, inr (record { middle = m; reads = r; out = out; writes = w; finishes = f }))
end_found does turns count old a (Err fault.Read) b lt m r out w f = absurd f
end_found does turns count old a (Err fault.Write) b lt m r out w f = (lt, inr (record { middle = m; reads = r; out = out; writes = w; finishes = f }))
end_found does turns count old a (Err fault.Memory) b lt m r out w f = absurd f
end_found does turns count old a (Err fault.TurnsUsedUp) b lt m r out w f = absurd f

-- a piece at which a reply failed
pub piece_failed : {C : Type 0} (does : C → IoCall → C → Type 0) (turns count : ℕ) (old : Work) (a : C) (e : OnceFault) (b : C) → count < turns
    → (turn : CallTurn) (stage : Stage) (codec : Option (List ℕ)) → IsServeFault e → TakesWorkPiece does old a (Err e) turn stage codec b →
    EndsWorkTurns does turns count old a (Err e) b
piece_failed does turns count old a e b lt turn stage codec (inl is) t =
    subst (λ k. EndsWorkTurns does turns count old a (Err k) b) (sym is)
    (lt, inl (turn, stage, codec, subst (λ k. TakesWorkPiece does old a (Err k) turn stage codec b) is t))
piece_failed does turns count old a e b lt turn stage codec (inr is) t =
    subst (λ k. EndsWorkTurns does turns count old a (Err k) b) (sym is)
    (lt, inl (turn, stage, codec, subst (λ k. TakesWorkPiece does old a (Err k) turn stage codec b) is t))

-- one that ended the work
pub piece_ended : {C : Type 0} (does : C → IoCall → C → Type 0) (turns count : ℕ) (old : Work) (a : C) (answer : Result (Unit {0}) OnceFault) (b : C) →
    count < turns
    → (turn : CallTurn) (stage : Stage) (codec : Option (List ℕ)) → OnOk answer (is_finished stage ≡ true) →
    IfErr answer (λ e. (e ≡ fault.BadInput) × (is_finished stage ≡ false)) → takes_frames stage ≡ false
    → TakesWorkPiece does old a (Ok tt) turn stage codec b → EndsWorkTurns does turns count old a answer b
piece_ended does turns count old a (Ok d) b lt turn stage codec well ill over t =
    (lt, inl (record { turn = turn; stage = stage; codec = codec; takes = t; over = over; well_is = well }))
piece_ended does turns count old a (Err e) b lt turn stage codec well ill over t =
    subst (λ k. EndsWorkTurns does turns count old a (Err k) b) (sym ill.0)
    (lt, inl (record { turn = turn; stage = stage; codec = codec; takes = t; over = over; well_is = ill.1 }))
