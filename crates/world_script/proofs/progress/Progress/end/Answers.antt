use Rattle.std.proofs.Common.{◌≡◌, ◌<◌, ◌≢◌, length, arith, inl, inr, [], refl, subst, sym}
use Rattle.std.specs.Vec.{vec_len}
use Rattle.std.proofs.lemmas.Bool.{eqb-false}
use Rattle.world_script.specs.declared.progress.Progress.{Progress}
use Rattle.world_script.specs.declared.progress.Progress.TheVariants as progress
use Rattle.world_script.specs.Scripts.{ScriptPlace, Running, Filled, Goes, LeadsAtEnd, opened_world}
use Rattle.world_script.specs.Progress.{IsAt, IsOpened, filling_of}
use Rattle.world_script.proofs.Stepping.{opening_of}
use Rattle.world_script.proofs.progress.Progress.end.Goals as goal

pub returns-in-Ok : goal.returns-in-Ok
returns-in-Ok c = λ place at.
    let a : place ≡ Filled (filling_of c.in-Filling.opening) = subst (λ (s : Progress). IsAt s place) c.in-Filling.is at in
    let positive : 0 < length c.in-Filling.opening.clients.items =
    (let some : vec_len c.in-Filling.opening.clients ≢ 0 =
    eqb-false (vec_len c.in-Filling.opening.clients) 0 (sym c.if-is_empty.ensures) in omega (arith, some)) in
    let w : IsOpened (filling_of c.in-Filling.opening) c.in-Ok.world = c.in-Ok.ensures in (
      Running (opened_world (filling_of c.in-Filling.opening)),
      subst (λ (p : ScriptPlace). LeadsAtEnd p (Goes (Running (opened_world (filling_of c.in-Filling.opening))) [])) (sym a)
          (inr (positive, inl (opening_of (filling_of c.in-Filling.opening) c.in-Ok.world w, refl))),
    )

pub returns-in-Running : goal.returns-in-Running
returns-in-Running c = λ place at.
    let a : IsAt (progress.Running c.in-Running.world) place = subst (λ (s : Progress). IsAt s place) c.in-Running.is at in
    (place, subst (λ (p : ScriptPlace). LeadsAtEnd p (Goes p [])) (sym a.3) refl)
