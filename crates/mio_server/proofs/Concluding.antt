-- What the end of a turn makes of places and sessions.
use Rattle.std.proofs.Common.{◌≡◌, ◌<◌, ℕ, List, length, Option, None, Some, set, inl, refl, sym, subst, ◌∙◌}
use Rattle.server_core.specs.Cores.{Core, session_of}
use Rattle.connection_table.specs.Holding.{held_by}
use Rattle.connection_turns.specs.Runs.{OthersStay, DoesToCore, Closes}
use Rattle.connection_table.specs.declared.connection.ServedConnection.{ServedConnection}
use Rattle.connection_table.specs.declared.connection.TurnResult.{TurnResult}
use Rattle.connection_table.specs.Judging.{GoesOn}
use Rattle.connection_table.specs.Places.{connection_at}
use Rattle.mio_server.specs.Turns.{OthersStayOrGo}
use Rattle.mio_server.specs.Sessions.{PutsOrEvicts, SessionsStayOrGo, AreNoted}
use Rattle.mio_server.proofs.Leaving.{others_stay, goes_on, settles_others, settles_sessions}
use Rattle.connection_table.proofs.Turned.{either_end}
use Rattle.mio_server.proofs.Noted.{left_noted, back_noted, settled_noted}

module _ (o : TurnResult) (place : ℕ) (c d : ServedConnection) (places freed : List (Option ServedConnection)) (old mid : Core) (after : List (Option ServedConnection)) (new : Core)
    (is_freed : freed ≡ set places place None)
    (puts_back : GoesOn o → PutsOrEvicts place d freed mid after new)
    (closes_it : (GoesOn o → ⊥) → (after ≡ freed) × DoesToCore mid (Closes d.id) new)
    (id : d.id ≡ c.id) (stay : OthersStay c.id old mid) where
  puts : GoesOn o → PutsOrEvicts place d (set places place None) mid after new
  puts g = subst (λ (k : List (Option ServedConnection)). PutsOrEvicts place d k mid after new) is_freed (puts_back g)

  closes : (GoesOn o → ⊥) → (after ≡ set places place None) × DoesToCore mid (Closes d.id) new
  closes n = let h = closes_it n in (h.0 ∙ is_freed, h.1)

  -- all other connections stay or go
  pub concluded_others : OthersStayOrGo place places after
  concluded_others = goes_on place places (set places place None) after (others_stay places place None)
      (either_end (OthersStayOrGo place (set places place None) after) o
      (λ g. settles_others place d (set places place None) mid after new (puts g))
      (λ n. subst (OthersStayOrGo place (set places place None)) (sym (closes n).0) (λ i ne. inl refl)))

  -- what closes a connection leaves the sessions of others
  closed_stay : DoesToCore mid (Closes d.id) new → OthersStay c.id old new
  closed_stay done = λ other ne. done.2 other (λ e. ne (e ∙ id)) ∙ stay other ne

  -- all other sessions stay or go
  pub concluded_sessions : SessionsStayOrGo c.id old new
  concluded_sessions = either_end (SessionsStayOrGo c.id old new) o
      (λ g. settles_sessions c.id place d (set places place None) old mid after new stay (puts g))
      (λ n. λ other ne. inl (closed_stay (closes n).1 other ne))

  -- what is noted stays right
  pub concluded_noted : (next : ℕ) → place < length places → connection_at places place ≡ Some c → AreNoted places old next
      → d.held ≡ held_by (session_of mid.sessions d.id) d.state → AreNoted after new next
  concluded_noted next within there n is = either_end (AreNoted after new next) o
      (λ g. settled_noted place d (set places place None) mid after new next (puts g)
      (back_noted places place c d old mid next within there n stay id is))
      (λ over. subst (λ (k : List (Option ServedConnection)). AreNoted k new next) (sym (closes over).0)
      (left_noted places place c old new next there n (closed_stay (closes over).1)))
