-- What a turn leaves of its connection.
use Rattle.std.proofs.Common.{◌≡◌, ℕ, refl, sym, subst, ◌∙◌}
use Rattle.server_core.specs.Cores.{Core, session_of}
use Rattle.connection_table.specs.Holding.{held_by}
use Rattle.connection_table.specs.Judging.{GoesOn, IsIdle}
use Rattle.connection_table.specs.declared.connection.ServedConnection.{ServedConnection}
use Rattle.connection_table.specs.declared.connection.TurnResult.{TurnResult}
use Rattle.connection_table.specs.declared.connection.TurnResult.TheVariants.{Busy, PutOff, Waits, Over, Closed}
use Rattle.connection_table.specs.declared.report.Closing.TheVariants.{Idle}

-- how much is held is noted right after it was noted right and neither it nor what it counts has
-- changed
pub stays_noted : (core : Core) (before noted after : ServedConnection) → noted ≡ record before { held = held_by (session_of core.sessions before.id) before.state }
    → after.held ≡ noted.held → after.id ≡ noted.id → after.state ≡ noted.state → after.held ≡ held_by (session_of core.sessions after.id) after.state
stays_noted core before noted after is held id state =
    subst (λ n. after.held ≡ held_by (session_of core.sessions n) after.state) (sym id)
    (subst (λ l. after.held ≡ held_by (session_of core.sessions noted.id) l) (sym state)
    (held ∙ subst (λ (k : ServedConnection). k.held ≡ held_by (session_of core.sessions k.id) k.state) (sym is) refl))

-- what a turn came to stays if the connection is over
pub stays_over : (o r j : TurnResult) → ((GoesOn o → ⊥) → r ≡ o) → ((GoesOn r → ⊥) → j ≡ r) → (GoesOn o → ⊥) → j ≡ o
stays_over o r j retired judged over = judged (subst (λ k. GoesOn k → ⊥) (sym (retired over)) over) ∙ retired over

-- a turn's end as it goes on, or as it is over
pub either_end : (P : Type 0) (o : TurnResult) → (GoesOn o → P) → ((GoesOn o → ⊥) → P) → P
either_end P Busy first second = first tt
either_end P PutOff first second = first tt
either_end P Waits first second = first tt
either_end P Over first second = second (λ h. h)
either_end P (Closed why) first second = second (λ h. h)

-- a connection that goes on as it was judged is not idle
pub judged_active : (o r : TurnResult) (c : ServedConnection) (now idle : ℕ) → (GoesOn o → IsIdle c now idle → r ≡ Closed Idle) → ((GoesOn o → ⊥) → r ≡ o)
    → GoesOn r → IsIdle c now idle → ⊥
judged_active o r c now idle closes over g i = either_end ⊥ o
    (λ on. subst GoesOn (closes on i) g)
    (λ n. n (subst GoesOn (over n) g))
