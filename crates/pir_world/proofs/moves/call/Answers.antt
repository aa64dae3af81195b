use Rattle.std.proofs.Common.{◌≡◌, List, length, Some, None, refl, sym, subst, ◌∙◌}
use Rattle.std.specs.Prelude.{slice_get, slice_set}
use Rattle.std.proofs.lemmas.List.{append-nil}
use Rattle.std.proofs.lemmas.Option.{slice_get_read}
use Rattle.pir_world.specs.declared.steps.Outcome.{Outcome}
use Rattle.pir_world.specs.Runs.{called_at}
use Rattle.pir_world.specs.Sides.{Implements, MakesCall, call_of}
use Rattle.pir_world.proofs.Parts.{parts_called}
use Rattle.pir_world.proofs.moves.call.Goals as goal

pub returns-in-Ok-None-clause-made : goal.returns-in-Ok-None-clause-made
returns-in-Ok-None-clause-made g c core x seeds s inv p =
    let e = c.args.ends.now.items in
    let at : slice_get e c.args.k ≡ Some c.index_mut.result.now =
    slice_get_read e (length e) c.args.k c.index_mut.result.now refl c.requires c.index_mut.ensures.value in
    let m : MakesCall (call_of c.args.request) c.index_mut.result.now None c.call.new.self =
    subst (λ (o : _). MakesCall (call_of c.args.request) c.index_mut.result.now o c.call.new.self) c.in-Ok-None.field-0-is (c.in-Ok-None.ensures) in
    let q = parts_called x core e c.args.outcomes.now.items s c.args.k c.index_mut.result.now c.call.new.self p at seeds inv (call_of c.args.request) None m in
    subst (λ (os : List Outcome). Implements x core (slice_set e c.args.k c.call.new.self) os
    (called_at s (call_of c.args.request) c.args.k (slice_get s.links c.args.k)))
    (append-nil c.args.outcomes.now.items ∙ sym c.reserve.ensures.items) q

pub returns-in-Ok-Some-clause-made : goal.returns-in-Ok-Some-clause-made
returns-in-Ok-Some-clause-made g c core x seeds s inv p =
    let e = c.args.ends.now.items in
    let at : slice_get e c.args.k ≡ Some c.index_mut.result.now =
    slice_get_read e (length e) c.args.k c.index_mut.result.now refl c.requires c.index_mut.ensures.value in
    let m : MakesCall (call_of c.args.request) c.index_mut.result.now (Some c.in-Ok-Some.fault) c.call.new.self =
    subst (λ (o : _). MakesCall (call_of c.args.request) c.index_mut.result.now o c.call.new.self) c.in-Ok-Some.field-0-is (c.in-Ok-Some.ensures) in
    let q = parts_called x core e c.args.outcomes.now.items s c.args.k c.index_mut.result.now c.call.new.self p at seeds inv (call_of c.args.request)
    (Some c.in-Ok-Some.fault) m in
    rw (c.push_reserved.ensures.items, c.reserve.ensures.items) q
