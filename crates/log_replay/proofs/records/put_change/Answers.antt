use Rattle.std.proofs.Common.{◌∙◌, ◌+◌, ◌<◌, ◌≤◌, ℕ, sym, subst, arith}
use Rattle.digit_pack.specs.Layout.{IsLayout}
use Rattle.pir_schemes.specs.declared.plan.Plan.{Plan}
use Rattle.pir_schemes.specs.Plans.{shape_at}
use Rattle.pir_schemes.proofs.Layouts.{layout_means}
use Rattle.log_replay.proofs.RecordLemmas.{replaced_one, appended_one}
use Rattle.log_replay.proofs.records.put_change.Goals as goal

pub returns-then-place-count-clause-put : goal.returns-then-place-count-clause-put
returns-then-place-count-clause-put g c =
    let lt : c.args.place < (g.H.RecordHolder.header c.args.held.now).count = omega (arith, c.if-place-count.true, c.count-count.ensures) in
    replaced_one (g.H.RecordHolder.header c.args.held.now) (g.H.RecordHolder.header c.replace.new.self) (g.H.RecordHolder.bytes c.args.held.now)
    (g.H.RecordHolder.bytes c.replace.new.self) c.args.place c.args.bytes.now lt c.replace.ensures.header c.replace.ensures.records

pub append-requires-clause-layout : goal.append-requires-clause-layout
append-requires-clause-layout g c =
    subst (λ (p : Plan). IsLayout (shape_at p ((g.H.RecordHolder.header c.args.held.now).count + 1))) c.requires.plan
    (subst (λ (n : ℕ). IsLayout (shape_at c.args.plan.now (n + 1))) c.count-count.ensures
    (layout_means (shape_at c.args.plan.now (c.count-count.result + 1)) (sym c.has_layout.ensures ∙ c.if-not-has_layout.false)))

pub returns-in-Ok-clause-put : goal.returns-in-Ok-clause-put
returns-in-Ok-clause-put g c =
    let le : (g.H.RecordHolder.header c.args.held.now).count ≤ c.args.place = omega (arith, c.if-place-count.false, c.count-count.ensures) in
    appended_one (g.H.RecordHolder.header c.args.held.now) (g.H.RecordHolder.header c.append.new.self) (g.H.RecordHolder.bytes c.args.held.now)
    (g.H.RecordHolder.bytes c.append.new.self) c.args.place c.args.bytes.now le c.in-Ok.ensures.header c.in-Ok.ensures.records
