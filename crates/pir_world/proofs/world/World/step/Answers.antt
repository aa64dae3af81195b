use Rattle.std.proofs.Common.{sym}
use Rattle.pir_world.specs.Runs.{opening, setting_in}
use Rattle.pir_world.proofs.Keeping.{run_more, run_inv}
use Rattle.pir_world.proofs.Opening.{opening_inv, run_opens}
use Rattle.pir_world.proofs.Sending.{when_ok}
use Rattle.pir_world.proofs.world.World.step.Goals as goal

pub invariant_of-self-2 : goal.invariant_of-self-2
invariant_of-self-2 g c =
    let k = c.self.invariant in
    let w = c.self.inside in
    let made = when_ok c.apply_step.result _ (sym c.if-is_err-2.ensures.value) c.apply_step.ensures.made in
    let i = run_inv c.retrieval_gives_the_record.ensures (setting_in w.header) w.seeds.items
    (opening w.header w.records.items w.seeds.items) w.steps.items k.0 k.1.run.run (opening_inv w.header w.records.items w.seeds.items (run_opens _ _ _ _ _ k.1.run)) in
    let m = made (setting_in w.header) w.seeds.items k.0 i (k.1.parts c.if-self.false) in (
      m.0,
      record {
        run = record {
          accepted = k.1.run.accepted;
          bytes = k.1.run.bytes;
          run = rw (c.push_reserved.ensures.items, c.reserve.ensures.items) (run_more (setting_in w.header) _ _ k.0 c.args.step m.0 k.1.run.run m.1);
        };
        outcomes_are = m.2.outcomes_are;
        parts = λ alive. m.2;
      },
    )

pub returns-clause-extends : goal.returns-clause-extends
returns-clause-extends g c = rw (← c.self.view_is) (λ s r.
    let w = c.self.inside in
    let made = when_ok c.apply_step.result _ (sym c.if-is_err-2.ensures.value) c.apply_step.ensures.made in
    let i = run_inv c.retrieval_gives_the_record.ensures (setting_in w.header) w.seeds.items
    (opening w.header w.records.items w.seeds.items) w.steps.items s r.run.run (opening_inv w.header w.records.items w.seeds.items (run_opens _ _ _ _ _ r.run)) in
    let m = made (setting_in w.header) w.seeds.items s i (r.parts c.if-self.false) in (
      m.0,
      m.1,
      record {
        run = record {
          accepted = r.run.accepted;
          bytes = r.run.bytes;
          run = rw (c.push_reserved.ensures.items, c.reserve.ensures.items) (run_more (setting_in w.header) _ _ s c.args.step m.0 r.run.run m.1);
        };
        outcomes_are = m.2.outcomes_are;
        parts = λ alive. m.2;
      },
    ))
