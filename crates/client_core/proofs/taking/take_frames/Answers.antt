use Rattle.std.proofs.Common.{◌∙◌, sym, inl}
use Rattle.client_core.proofs.Courses.{next, bad}
use Rattle.client_core.proofs.taking.take_frames.Goals as goal

pub returns-in-Ok-Some-clause-takes : goal.returns-in-Ok-Some-clause-takes
returns-in-Ok-Some-clause-takes g c =
    let e = c.in-Ok-Some.ensures in
    inl (bad c.args.state.now c.args.frames.now c.loop-frame.frame-index c.frame-item.result c.loop-frame.state c.take_one.new.state c.loop-frame.out.items
    c.take_one.new.out.items c.loop-frame.events.items c.take_one.new.events.items c.in-Ok-Some.fault
    c.loop-frame-test.true c.frame-item.is c.loop-frame.invariant
    (record { fault_is = sym c.in-Ok-Some.field-0-is ∙ e.fault; state_is = e.state; written = e.written; each = e.each; reported = e.reported }))

pub loop-frame-preserved : goal.loop-frame-preserved
loop-frame-preserved g c =
    let e = c.in-Ok-None.ensures in
    next c.args.state.now c.args.frames.now c.loop-frame.frame-index c.frame-item.result c.loop-frame.state c.take_one.new.state c.loop-frame.out.items
    c.take_one.new.out.items c.loop-frame.events.items c.take_one.new.events.items
    c.loop-frame-test.true c.frame-item.is c.loop-frame.invariant
    (record { fault_is = sym c.in-Ok-None.field-0-is ∙ e.fault; state_is = e.state; written = e.written; each = e.each; reported = e.reported })
    e.keeps
