use Rattle.std.proofs.Common.{◌≡◌, ◌∙◌, List, ℕ, false, true, refl, sym, ap, subst}
use Rattle.digit_pack.specs.Layout.{Shape}
use Rattle.hint_changes.specs.Entries.{AreEntries}
use Rattle.pir_schemes.specs.Plans.{shape_at}
use Rattle.client_core.specs.declared.state.ServerInfo.{ServerInfo}
use Rattle.client_core.specs.States.{IsKnown, shape_known}
use Rattle.client_core.proofs.Keeping.{current_known}
use Rattle.client_core.proofs.Entries.{AreAsked, they_are_asked, they_are_not}
use Rattle.client_core.proofs.changes.known_after.Goals.{then-not-are_entries-via-then-not-are_entries, then-not-are_entries-via-else-not-are_entries+then-not-have_slots}
use Rattle.client_core.proofs.changes.known_after.Goals as goal

pub layout-requires : goal.layout-requires
layout-requires c =
    subst IsKnown (sym c.in-Some.ensures.1) (current_known c.args.known.now c.args.now c.args.count c.requires c.in-Some.ensures.0)

pub returns-then-not-are_entries-clause-asked : goal.returns-then-not-are_entries-clause-asked
returns-then-not-are_entries-clause-asked c =
    let k : ServerInfo = c.args.known.now in
    let bytes : List ℕ = c.args.entries.now in
    let shape : c.layout.result ≡ shape_at k.plan c.args.count = c.layout.ensures.shape ∙ ap shape_known c.in-Some.ensures.1 in
    they_are_not k c.args.asked c.args.since c.args.now c.args.count bytes (λ (a : AreAsked k c.args.asked c.args.since c.args.now c.args.count bytes).
    elim c.then-not-are_entries.branch [
      | then-not-are_entries-via-then-not-are_entries w ↦
          absurd (let e : false ≡ true = w.if-not-are_entries.ensures.1 (subst (λ (l : Shape). AreEntries l bytes) (sym shape) a.entries_are) in cc)
      | then-not-are_entries-via-else-not-are_entries+then-not-have_slots w ↦ absurd (let e : false ≡ true = w.if-not-have_slots.ensures ∙ a.slots in cc)
    ])

pub returns-clause-asked : goal.returns-clause-asked
returns-clause-asked c =
    let k : ServerInfo = c.args.known.now in
    let bytes : List ℕ = c.args.entries.now in
    let shape : c.layout.result ≡ shape_at k.plan c.args.count = c.layout.ensures.shape ∙ ap shape_known c.in-Some.ensures.1 in (
      they_are_asked k c.args.asked c.args.since c.args.now c.args.count bytes (record {
        since_is = c.if-since-asked.false;
        current = c.in-Some.ensures.0;
        entries_are = subst (λ (l : Shape). AreEntries l bytes) shape (c.if-not-are_entries.ensures.0 refl);
        slots = sym c.if-not-have_slots.ensures;
      }),
      c.in-Some.ensures.1,
    )
