use Rattle.std.proofs.Common.{◌≡◌, ◌<◌, sym, subst, arith, refl, true, inl, inr}
use Rattle.std.proofs.lemmas.Bool.{cases_lt}
use Rattle.publication_log.specs.Publications.{Placed}
use Rattle.publication_log.specs.Builders.{with_change}
use Rattle.log_replay.proofs.DraftedChanges.{IsMadeUpTo, none_made, one_made, all_made, place_fits}
use Rattle.log_replay.proofs.drafting.push_changes.Goals as goal

pub changes-init : goal.changes-init
changes-init g c = λ p made none. (p, made, refl, subst (IsMadeUpTo c.args.store.now 0) (sym none) (none_made c.args.store.now))

pub overflow_cast-place : goal.overflow_cast-place
overflow_cast-place g c = record { fits = place_fits c.args.store.now.edition.plan c.in-Some.place c.in-Some.ensures.some.layout }

pub overflow_add-from : goal.overflow_add-from
overflow_add-from g c = record { fits = omega (arith, place_fits c.args.store.now.edition.plan c.in-Some.place c.in-Some.ensures.some.layout) }

pub changes-preserved : goal.changes-preserved
changes-preserved g c = λ p made none.
    let it = c.changes.invariant p made none in
    let first : Placed = record { place = c.in-Some.place; bytes = c.in-Some.bytes.now } in (
      with_change it.0 first,
      c.in_ok-push.ensures.added it.0 it.1,
      it.2,
      one_made c.args.store.now c.changes.from c.in-Some.place c.in-Some.bytes.now it.0.changes it.3 c.in-Some.ensures.some,
    )

pub returns : goal.returns
returns g c = λ p made none.
    let it = c.changes.invariant p made none in
    let marked : c.args.store.now.marked ≡ true → 0 < c.changes.from = λ m. elim (cases_lt 0 c.changes.from) [
      | inl some ↦ some
      | inr few ↦ absurd (let bad = (c.in_default.ensures.first (omega (arith, few))).1 m in cc)
    ] in
    (it.0, it.1, it.2, all_made c.args.store.now c.changes.from it.0.changes it.3 c.in_default.ensures.none marked)
