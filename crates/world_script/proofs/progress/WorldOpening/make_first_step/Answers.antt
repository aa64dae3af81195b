use Rattle.std.proofs.Common.{◌<◌, ◌≢◌, length, arith, inl, inr, subst, sym}
use Rattle.std.specs.Vec.{vec_len}
use Rattle.std.proofs.lemmas.Bool.{eqb-false}
use Rattle.world_script.specs.declared.line.Line.TheVariants as line
use Rattle.world_script.specs.Scripts.{RunningWorld, LeadsFilled, MakesStep, opened_world}
use Rattle.world_script.specs.Progress.{IsOpened, running_world, filling_of}
use Rattle.world_script.proofs.Moves.{MovesTo-map}
use Rattle.world_script.proofs.Stepping.{StopsAt-from_opening, opening_of, opened_is}
use Rattle.world_script.proofs.progress.WorldOpening.make_first_step.Goals as goal

pub returns-in-Ok : goal.returns-in-Ok
returns-in-Ok g c =
    let positive : 0 < length c.args.self.clients.items =
    (let some : vec_len c.args.self.clients ≢ 0 = eqb-false (vec_len c.args.self.clients) 0 (sym c.if-is_empty.ensures) in omega (arith, some)) in
    let w : IsOpened (filling_of c.args.self) c.in-Ok.world = c.in-Ok.ensures in
    MovesTo-map (MakesStep (running_world c.in-Ok.world (opened_world (filling_of c.args.self)).state) c.args.step)
    (LeadsFilled (filling_of c.args.self) (line.Step c.args.step)) c.args.number
    (g.W.Write.contents c.args.writer.now) (g.W.Write.contents c.make_step.new.writer) c.make_step.result
    (λ m h. inr (
      positive,
      inl (
        opening_of (filling_of c.args.self) c.in-Ok.world w,
        subst (λ (x : RunningWorld). MakesStep x c.args.step m) (sym (opened_is (filling_of c.args.self) c.in-Ok.world w)) h,
      ),
    ))
    (c.make_step.ensures (opened_world (filling_of c.args.self)).state c.args.number w.run w.alive)

pub returns-in-Err : goal.returns-in-Err
returns-in-Err g c =
    let some : 0 < length c.args.self.clients.items =
    (let any : vec_len c.args.self.clients ≢ 0 = eqb-false (vec_len c.args.self.clients) 0 (sym c.if-is_empty.ensures) in omega (arith, any)) in
    StopsAt-from_opening (filling_of c.args.self) c.args.step c.args.number (g.W.Write.contents c.args.writer.now) c.in-Err.stop some c.in-Err.ensures
