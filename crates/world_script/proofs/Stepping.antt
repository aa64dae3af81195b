-- The steps of a world, and what is printed of them.
use Rattle.std.proofs.Common.{◌≡◌, ◌<◌, inl, inr, ℕ, List, [], ◌∷◌, length, drop, map, Bool, true, false, Option, Ok, Err, refl, sym, ap, subst, ◌∙◌}
use Rattle.std.proofs.KnownBytes.{Appends-nil}
use Rattle.std.specs.Io.KnownBytes.{Appends}
use Rattle.std.specs.List.{flat_map}
use Rattle.snapshot_file.specs.declared.snapshot.Header.{Header}
use Rattle.pir_world.specs.declared.steps.Step.{Step}
use Rattle.pir_world.specs.declared.steps.Outcome.{Outcome}
use Rattle.pir_world.specs.Runs.{State, StepsTo, setting_in, outcomes_of}
use Rattle.pir_world.specs.Worlds.{WorldSeen, IsRunOf}
use Rattle.pir_world.specs.Headlines.{IsOpening}
use Rattle.pir_world.specs.Sides.{has_client}
use Rattle.pir_world.proofs.Opening.{run_opens}
use Rattle.world_script.specs.declared.line.Line.{Line}
use Rattle.world_script.specs.declared.line.Line.TheVariants as line
use Rattle.world_script.specs.declared.progress.Progress.TheVariants as progress
use Rattle.world_script.specs.declared.stop.Stop.{Stop}
use Rattle.world_script.specs.declared.stop.Stop.TheVariants as stop
use Rattle.world_script.specs.Texts.{outcome_text, no_client_text}
use Rattle.world_script.specs.Scripts.{Filling, RunningWorld, ScriptPlace, Running, Goes, Bad, MakesStep, LeadsFilled, LeadsRunning, named_client, added_outcomes, opened_world, header_of_filling}
use Rattle.world_script.specs.Progress.{IsAt, IsOpened, MakesMove, StopsAtMove, SaysAll, SaysText, OpensWorld, running_world}
use Rattle.world_script.proofs.Moves.{joined-map, joined_one, StopsAt-from_all, StopsAt-from_text}

pub is_true : (b : Bool) → (b ≡ false → ⊥) → b ≡ true
is_true true h = refl
is_true false h = absurd (h refl)

-- the place after a step that was made
pub after_step : WorldSeen → State → ScriptPlace
after_step w t = Running (record { header = w.header; clients = length w.ends; state = t })

-- the place is that of the world as it is now
pub after_step_is : (w v : WorldSeen) (t : State) → v.header ≡ w.header → length v.ends ≡ length w.ends → after_step w t ≡ Running (running_world v t)
unfolding after_step
after_step_is w v t e n =
    ap (λ (h : Header). Running (record { header = h; clients = length w.ends; state = t })) (sym e)
    ∙ ap (λ (k : ℕ). Running (record { header = v.header; clients = k; state = t })) (sym n)

-- what a world has reported since an earlier state
pub told_is : (w v : WorldSeen) (s t : State) (before : List Outcome) → before ≡ w.outcomes → IsRunOf w s → IsRunOf v t →
    drop (length before) v.outcomes ≡ added_outcomes s t
told_is w v s t before e p q =
    ap (λ (x : List Outcome). drop (length x) v.outcomes) (e ∙ p.outcomes_are)
    ∙ ap (λ (x : List Outcome). drop (length (outcomes_of s.log)) x) q.outcomes_are

-- the move of a step that was made
pub made : (w : WorldSeen) (s t : State) (step : Step) → has_client step (length w.ends) ≡ true → StepsTo (setting_in w.header) s step t →
    MakesStep (running_world w s) step (Goes (after_step w t) (map outcome_text (added_outcomes s t)))
unfolding after_step
made w s t step has steps = inl (has, (t, steps, refl))

-- a step was made, and all that came of it was printed
pub MovesTo-from_step : (w v : WorldSeen) (s t : State) (step : Step) (n : ℕ) (before : List Outcome) (o new : Option (List ℕ)) →
    v.header ≡ w.header → length v.ends ≡ length w.ends → v.broken ≡ false → before ≡ w.outcomes → IsRunOf w s → IsRunOf v t →
    has_client step (length w.ends) ≡ true → StepsTo (setting_in w.header) s step t →
    Appends o new (flat_map outcome_text (drop (length before) v.outcomes)) →
    MakesMove (MakesStep (running_world w s) step) n o (Ok (progress.Running v)) new
MovesTo-from_step w v s t step n before o new e ends alive b p q has steps said = (
  after_step w t,
  map outcome_text (added_outcomes s t),
  (t, q, alive, after_step_is w v t e ends),
  made w s t step has steps,
  subst (Appends o new) (ap (flat_map outcome_text) (told_is w v s t before b p q) ∙ sym (joined-map (added_outcomes s t))) said,
)

-- a step was made, and not all that came of it was printed
pub StopsAt-from_step : (w v : WorldSeen) (s t : State) (step : Step) (n : ℕ) (before : List Outcome) (o new : Option (List ℕ)) (e : Stop) →
    before ≡ w.outcomes → IsRunOf w s → IsRunOf v t →
    has_client step (length w.ends) ≡ true → StepsTo (setting_in w.header) s step t →
    SaysAll (drop (length before) v.outcomes) o (Err e) new → StopsAtMove (MakesStep (running_world w s) step) n o e new
StopsAt-from_step w v s t step n before o new e b p q has steps said =
    StopsAt-from_all (MakesStep (running_world w s) step) n (after_step w t) (added_outcomes s t) o new e (made w s t step has steps)
    (subst (λ (x : List Outcome). SaysAll x o (Err e) new) (told_is w v s t before b p q) said)

-- the move of a step of no client
pub unmade : (w : WorldSeen) (s : State) (step : Step) → has_client step (length w.ends) ≡ false →
    MakesStep (running_world w s) step (Goes (Running (running_world w s)) (no_client_text (named_client step) ∷ []))
unmade w s step has = inr (has, refl)

pub MovesTo-from_none : (w v : WorldSeen) (s : State) (step : Step) (n k : ℕ) (o new : Option (List ℕ)) → v ≡ w → w.broken ≡ false → IsRunOf w s →
    has_client step (length w.ends) ≡ false → k ≡ named_client step → Appends o new (no_client_text k) →
    MakesMove (MakesStep (running_world w s) step) n o (Ok (progress.Running v)) new
MovesTo-from_none w v s step n k o new same alive run has named said = (
  Running (running_world w s),
  no_client_text (named_client step) ∷ [],
  subst (λ (u : WorldSeen). IsAt (progress.Running u) (Running (running_world w s))) (sym same) (s, run, alive, refl),
  unmade w s step has,
  subst (Appends o new) (ap no_client_text named ∙ sym (joined_one (no_client_text (named_client step)))) said,
)

pub StopsAt-from_none : (w : WorldSeen) (s : State) (step : Step) (n k : ℕ) (o new : Option (List ℕ)) (e : Stop) →
    has_client step (length w.ends) ≡ false → k ≡ named_client step → SaysText (no_client_text k) o (Err e) new →
    StopsAtMove (MakesStep (running_world w s) step) n o e new
StopsAt-from_none w s step n k o new e has named said =
    StopsAt-from_text (MakesStep (running_world w s) step) n (Running (running_world w s)) (no_client_text (named_client step)) o new e (unmade w s step has)
    (subst (λ (x : ℕ). SaysText (no_client_text x) o (Err e) new) named said)

-- while the world runs no line but a step has a place
pub no_step : (c : RunningWorld) (l : Line) → ((s : Step) → l ≡ line.Step s → ⊥) → LeadsRunning c l Bad
no_step c (line.Step s) h = absurd (h s refl)
no_step c (line.World x) h = refl
no_step c (line.Seed x) h = refl
no_step c (line.Record x) h = refl
no_step c (line.Client x) h = refl

-- a world that was opened has its opening
pub opening_of : (f : Filling) (w : WorldSeen) → IsOpened f w → IsOpening (header_of_filling f) f.records
opening_of f w h =
    subst (λ (x : List ℕ). IsOpening (header_of_filling f) x) h.records
    (subst (λ (x : Header). IsOpening x w.records) h.header (run_opens _ _ _ _ _ h.run.run))

-- it is at its first place
pub opened_is : (f : Filling) (w : WorldSeen) → IsOpened f w → opened_world f ≡ running_world w (opened_world f).state
opened_is f w h =
    let at : Header → ℕ → RunningWorld = λ x k. record { header = x; clients = k; state = (opened_world f).state } in
    ap (λ (x : Header). at x (length f.clients)) (sym h.header) ∙ ap (λ (k : ℕ). at w.header k) (sym h.clients)

-- the first step of a world that is not opened
pub StopsAt-from_opening : (f : Filling) (s : Step) (n : ℕ) (o : Option (List ℕ)) (e : Stop) → 0 < length f.clients → OpensWorld f (Err e) →
    StopsAtMove (LeadsFilled f (line.Step s)) n o e o
StopsAt-from_opening f s n o (stop.World fault) some h = (inr (some, inr (fault, h.0, h.1, refl)), Appends-nil o)
StopsAt-from_opening f s n o stop.Memory some h = inl (Appends-nil o)
StopsAt-from_opening f s n o stop.TooLong some h = absurd h
StopsAt-from_opening f s n o (stop.BadLine m) some h = absurd h
StopsAt-from_opening f s n o stop.Read some h = absurd h
StopsAt-from_opening f s n o stop.Write some h = absurd h
