use Rattle.std.proofs.Common.{◌≡◌, List, ◌++◌, length, map, Some, refl, sym, subst, ◌∙◌, inl, inr, true, false}
use Rattle.std.specs.Prelude.{slice_get, slice_set}
use Rattle.std.proofs.lemmas.Option.{slice_get_read}
use Rattle.pir_world.specs.declared.steps.Outcome.{Outcome}
use Rattle.pir_world.specs.declared.steps.Outcome.TheVariants.{Reported}
use Rattle.pir_world.specs.Runs.{State, received_at}
use Rattle.pir_world.specs.Sides.{Implements}
use Rattle.pir_world.proofs.Parts.{parts_reported}
use Rattle.pir_world.proofs.Receipts.{receipt_at}
use Rattle.std.proofs.lemmas.List.{length-set}
use Rattle.client_core.specs.declared.state.ClientFault.TheVariants as client_fault
use Rattle.pir_world.proofs.Sending.{on_map, none_some, some_one}
use Rattle.pir_world.proofs.moves.report.Goals as goal

pub returns-in-None-clause-made : goal.returns-in-None-clause-made
returns-in-None-clause-made g c = on_map c.put_events.result _ _ (λ items core x seeds s inv p.
    let e = c.args.ends.now.items in
    let at : slice_get e c.args.k ≡ Some c.index_mut.result.now =
    slice_get_read e (length e) c.args.k c.index_mut.result.now refl c.requires c.index_mut.ensures.value in
    elim (parts_reported x core e c.args.outcomes.now.items s c.args.k c.index_mut.result.now c.deliver_down.new.self p at c.retrieval_gives_the_record.ensures seeds
    c.args.most c.in-Ok.taken.out.items c.in-Ok.taken.events.items c.in-Ok.taken.fault inv c.in-Ok.ensures) [
      | inl m ↦ absurd (none_some (sym c.in-None.is ∙ m))
      | inr t ↦ subst (λ (os : List Outcome). Implements x core (slice_set e c.args.k c.deliver_down.new.self) os
          (received_at s c.args.k c.args.most (slice_get s.links c.args.k))) (sym items)
          (subst (λ (u : State). Implements x core (slice_set e c.args.k c.deliver_down.new.self) (c.args.outcomes.now.items ++ map (Reported c.args.k) c.in-Ok.taken.events.items) u)
          (sym (receipt_at s c.args.k c.args.most (slice_get s.links c.args.k))) t.1)
    ]) c.put_events.ensures.items

pub returns : goal.returns
returns g c = record {
  made = λ core x seeds s inv p.
      let e = c.args.ends.now.items in
      let at : slice_get e c.args.k ≡ Some c.index_mut.result.now =
      slice_get_read e (length e) c.args.k c.index_mut.result.now refl c.requires c.index_mut.ensures.value in
      absurd (elim (parts_reported x core e c.args.outcomes.now.items s c.args.k c.index_mut.result.now c.deliver_down.new.self p at
      c.retrieval_gives_the_record.ensures seeds c.args.most c.in-Ok.taken.out.items c.in-Ok.taken.events.items c.in-Ok.taken.fault inv c.in-Ok.ensures) [
        | inl m ↦ (let f : c.in-Some.fault ≡ client_fault.Memory = some_one (sym c.in-Some.is ∙ m) in let y : false ≡ true = rw f at c.if-eq.ensures in cc)
        | inr t ↦ none_some (sym t.0 ∙ c.in-Some.is)
      ]);
  clients = length-set c.args.ends.now.items c.args.k c.deliver_down.new.self;
  none = tt;
}
