use Rattle.std.proofs.Common.{inl, length}
use Rattle.std.proofs.KnownBytes.{Appends-nil}
use Rattle.std.specs.Result.{IsErrOf}
use Rattle.pir_world.specs.Sides.{has_client}
use Rattle.pir_world.specs.declared.steps.StepFault.TheVariants as step_fault
use Rattle.world_script.proofs.Stepping.{is_true, MovesTo-from_step, StopsAt-from_step, MovesTo-from_none, StopsAt-from_none}
use Rattle.world_script.proofs.progress.make_step.Goals as goal

pub returns-in-Ok-say_added : goal.returns-in-Ok-say_added
returns-in-Ok-say_added g c = λ s n run alive.
    let t = c.in-Ok.ensures.extends s run in
    MovesTo-from_step c.args.world c.step.new.self s t.0 c.args.step n c.outcomes-before.result.now
    (g.W.Write.contents c.args.writer.now) (g.W.Write.contents c.say_added.new.writer)
    c.step.ensures.opening.0 c.step.ensures.opening.3 c.in-Ok.ensures.alive.1 c.outcomes-before.ensures.kept run t.2
    (is_true (has_client c.args.step (length c.args.world.ends)) (λ none.
    let bad : IsErrOf c.step.result step_fault.NoClient = c.step.ensures.no_client.1 (alive, none) in cc (bad, c.in-Ok.is)))
    t.1 c.in-Ok-say_added.ensures

pub returns-in-Err-say_added : goal.returns-in-Err-say_added
returns-in-Err-say_added g c = λ s n run alive.
    let t = c.in-Ok.ensures.extends s run in
    StopsAt-from_step c.args.world c.step.new.self s t.0 c.args.step n c.outcomes-before.result.now
    (g.W.Write.contents c.args.writer.now) (g.W.Write.contents c.say_added.new.writer) c.in-Err-say_added.stop
    c.outcomes-before.ensures.kept run t.2
    (is_true (has_client c.args.step (length c.args.world.ends)) (λ none.
    let bad : IsErrOf c.step.result step_fault.NoClient = c.step.ensures.no_client.1 (alive, none) in cc (bad, c.in-Ok.is)))
    t.1 c.in-Err-say_added.ensures

pub returns-in-Ok-say_no_client : goal.returns-in-Ok-say_no_client
returns-in-Ok-say_no_client g c = λ s n run alive.
    let is : IsErrOf c.step.result step_fault.NoClient = cc (c.in-Err-NoClient.is, c.in-Err-NoClient.field-0-is) in
    MovesTo-from_none c.args.world c.step.new.self s c.args.step n c.client_of-client.result
    (g.W.Write.contents c.args.writer.now) (g.W.Write.contents c.say_no_client.new.writer)
    (c.step.ensures.unchanged (inl is)) alive run (c.step.ensures.no_client.0 is).1 c.client_of-client.ensures c.in-Ok-say_no_client.ensures

pub returns-in-Err-say_no_client : goal.returns-in-Err-say_no_client
returns-in-Err-say_no_client g c = λ s n run alive.
    let is : IsErrOf c.step.result step_fault.NoClient = cc (c.in-Err-NoClient.is, c.in-Err-NoClient.field-0-is) in
    StopsAt-from_none c.args.world s c.args.step n c.client_of-client.result
    (g.W.Write.contents c.args.writer.now) (g.W.Write.contents c.say_no_client.new.writer) c.in-Err-say_no_client.stop
    (c.step.ensures.no_client.0 is).1 c.client_of-client.ensures c.in-Err-say_no_client.ensures

pub returns-in-Err : goal.returns-in-Err
returns-in-Err g c = λ s n run alive. inl (Appends-nil (g.W.Write.contents c.args.writer.now))
