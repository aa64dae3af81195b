use Rattle.std.proofs.Common.{◌∙◌}
use Rattle.pir_world.proofs.Opening.{run_opens}
use Rattle.pir_world.proofs.world.World.outcomes.Goals as goal

pub returns-clause-run : goal.returns-clause-run
returns-clause-run g c = rw (← c.self.view_is) (
    let w = c.self.inside in
    let s = c.self.invariant.0 in
    let r = c.self.invariant.1 in
    let opens = run_opens w.header w.records.items w.seeds.items w.steps.items s r.run in (
      s,
      r,
      c.as_slice.ensures.value ∙ r.outcomes_are,
      c.every_run_is_right.ensures w.header w.records.items w.seeds.items w.steps.items s opens r.run.run,
      c.answers_are_fresh.ensures.logged w.header w.records.items w.seeds.items w.steps.items s opens r.run.run,
      λ others last like one two. c.indices_change_no_shape.ensures w.header w.records.items w.seeds.items w.steps.items others s last opens like one two,
    ))

pub returns-clause-right : goal.returns-clause-right
returns-clause-right g c = rw (← c.self.view_is) (
    let w = c.self.inside in
    let s = c.self.invariant.0 in
    let r = c.self.invariant.1 in
    let opens = run_opens w.header w.records.items w.seeds.items w.steps.items s r.run in (
      s,
      r.run,
      c.as_slice.ensures.value ∙ r.outcomes_are,
      c.every_run_is_right.ensures w.header w.records.items w.seeds.items w.steps.items s opens r.run.run,
      c.answers_are_fresh.ensures.logged w.header w.records.items w.seeds.items w.steps.items s opens r.run.run,
      λ others last like one two. c.indices_change_no_shape.ensures w.header w.records.items w.seeds.items w.steps.items others s last opens like one two,
    ))
