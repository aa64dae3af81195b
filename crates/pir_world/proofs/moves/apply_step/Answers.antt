use Rattle.std.proofs.Common.{ℕ, List, false, subst}
use Rattle.pir_world.specs.declared.steps.Step.TheVariants.{Edit, Append, Publish, Hello, Sync, Ask, ToServer, ToClient}
use Rattle.pir_world.specs.Runs.{append_after, edit_after}
use Rattle.pir_world.specs.Sides.{Implements}
use Rattle.pir_world.proofs.Sending.{on_map, made_step}
use Rattle.pir_world.proofs.moves.apply_step.Goals as goal

pub returns-in-Edit-clause-made : goal.returns-in-Edit-clause-made
returns-in-Edit-clause-made g c = on_map c.edit.result _ _ (λ made x seeds s inv p.
    made_step x false s c.args.step.now (Edit c.in-Edit.index c.in-Edit.bytes) c.edit.new.server c.args.ends.now.items c.edit.new.outcomes.items c.in-Edit.is
    c.as_slice.ensures.fields
    (subst (λ (b : List ℕ). Implements x c.edit.new.server c.args.ends.now.items c.edit.new.outcomes.items (edit_after x s c.in-Edit.index b))
    c.as_slice.ensures.items (made c.args.ends.now.items x s p))) c.edit.ensures.made

pub returns-in-Append-clause-made : goal.returns-in-Append-clause-made
returns-in-Append-clause-made g c = on_map c.append.result _ _ (λ made x seeds s inv p.
    made_step x false s c.args.step.now (Append c.in-Append.bytes) c.append.new.server c.args.ends.now.items c.append.new.outcomes.items c.in-Append.is
    c.as_slice-in-Append.ensures.fields
    (subst (λ (b : List ℕ). Implements x c.append.new.server c.args.ends.now.items c.append.new.outcomes.items (append_after x s b))
    c.as_slice-in-Append.ensures.items (made c.args.ends.now.items x s p))) c.append.ensures.made

pub returns-in-Publish-clause-made : goal.returns-in-Publish-clause-made
returns-in-Publish-clause-made g c = on_map c.publish.result _ _ (λ made x seeds s inv p.
    made_step x false s c.args.step.now Publish c.publish.new.server c.args.ends.now.items c.publish.new.outcomes.items c.in-Publish.is tt
    (made c.args.ends.now.items x s p)) c.publish.ensures.made

pub returns-in-Hello-clause-made : goal.returns-in-Hello-clause-made
returns-in-Hello-clause-made g c = on_map c.call.result _ _ (λ made x seeds s inv p.
    made_step x false s c.args.step.now (Hello c.in-Hello.client) c.args.server.now c.call.new.ends.items c.call.new.outcomes.items c.in-Hello.is tt
    (made c.args.server.now x seeds s inv p)) c.call.ensures.made

pub returns-in-Sync-clause-made : goal.returns-in-Sync-clause-made
returns-in-Sync-clause-made g c = on_map c.call-in-Sync.result _ _ (λ made x seeds s inv p.
    made_step x false s c.args.step.now (Sync c.in-Sync.client c.in-Sync.scheme) c.args.server.now c.call-in-Sync.new.ends.items
    c.call-in-Sync.new.outcomes.items c.in-Sync.is tt (made c.args.server.now x seeds s inv p)) c.call-in-Sync.ensures.made

pub returns-in-Ask-clause-made : goal.returns-in-Ask-clause-made
returns-in-Ask-clause-made g c = on_map c.call-in-Ask.result _ _ (λ made x seeds s inv p.
    made_step x false s c.args.step.now (Ask c.in-Ask.client c.in-Ask.index) c.args.server.now c.call-in-Ask.new.ends.items c.call-in-Ask.new.outcomes.items
    c.in-Ask.is tt (made c.args.server.now x seeds s inv p)) c.call-in-Ask.ensures.made

pub returns-in-ToServer-clause-made : goal.returns-in-ToServer-clause-made
returns-in-ToServer-clause-made g c = on_map c.serve.result _ _ (λ made x seeds s inv p.
    let m = made x seeds s c.args.outcomes.now.items inv p in
    made_step x m.0 s c.args.step.now (ToServer c.in-ToServer.client c.in-ToServer.most) c.serve.new.server c.serve.new.ends.items c.args.outcomes.now.items
    c.in-ToServer.is tt m.1) c.serve.ensures.made

pub returns-in-ToClient-clause-made : goal.returns-in-ToClient-clause-made
returns-in-ToClient-clause-made g c = on_map c.report.result _ _ (λ made x seeds s inv p.
    made_step x false s c.args.step.now (ToClient c.in-ToClient.client c.in-ToClient.most) c.args.server.now c.report.new.ends.items
    c.report.new.outcomes.items c.in-ToClient.is tt (made c.args.server.now x seeds s inv p)) c.report.ensures.made
