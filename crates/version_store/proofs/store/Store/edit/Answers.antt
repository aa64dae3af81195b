use Rattle.std.proofs.Common.{ap, ◌∙◌, sym, arith, ◌≡◌, ◌<◌, ℕ, List, length, Bool, true}
use Rattle.std.specs.Prelude.{slice_set, Some}
use Rattle.pir_schemes.specs.Plans.{fits}
use Rattle.version_store.specs.Drafts.{draft_of, is_some_change, grown_to}
use Rattle.version_store.specs.Editions.{Records}
use Rattle.version_store.specs.Histories.{StoreState}
use Rattle.version_store.proofs.DraftLemmas.{draft-inserted, some_after_insert, fit-updated}
use Rattle.version_store.proofs.DraftPlaces.{appended-updated}
use Rattle.version_store.proofs.Grown.{length-draft, length-grown}
use Rattle.version_store.proofs.HistoryLemmas.{edit_stands}
use Rattle.version_store.proofs.store.Store.edit.Goals as goal

pub returns-in-Ok-clause-accepted : goal.returns-in-Ok-clause-accepted
returns-in-Ok-clause-accepted g c =
    let held : Records = c.self.inside.edition in
    let n : ℕ = c.self.inside.count in
    let e : Records = grown_to n held in
    let many : length c.args.self.now.draft ≡ n =
    sym (ap (λ s. length s.draft) c.self.view_is) ∙ length-draft held n c.self.inside.changes.entries c.self.invariant.0.more in
    let inside : c.args.i < length e.records =
    omega (arith, many, c.has_record.ensures.0 c.if-not-has_record.false, length-grown held.plan n held.records c.self.invariant.0.more) in
    let draft : draft_of e.records c.insert.new.self.entries ≡ slice_set (draft_of e.records c.self.inside.changes.entries) c.args.i c.args.bytes.now =
    draft-inserted e.records c.self.inside.changes c.insert.new.self c.args.i _ c.in-Ok.ensures.updates inside
    ∙ ap (λ (b : List ℕ). slice_set (draft_of e.records c.self.inside.changes.entries) c.args.i b) c.in_ok-copy.ensures in
    let made : List (List ℕ) → Bool →
    StoreState = λ d m. record { version = c.self.inside.log.version; edition = held; draft = d; marked = m; publisher = c.self.inside.publisher; log = c.self.inside.log.lists; olds = c.self.inside.olds.lists } in
    let after : StoreState → StoreState = λ s. record s { draft = slice_set s.draft c.args.i c.args.bytes.now; marked = true } in
    ap (λ d. made d (is_some_change c.insert.new.self.entries)) draft
    ∙ ap (made (slice_set (draft_of e.records c.self.inside.changes.entries) c.args.i c.args.bytes.now))
    (some_after_insert c.self.inside.changes c.insert.new.self c.args.i _ c.in-Ok.ensures.updates)
    ∙ ap after c.self.view_is

pub returns-in-Ok-clause-history : goal.returns-in-Ok-clause-history
returns-in-Ok-clause-history g c =
    edit_stands c.args.self.now _ c.args.i c.args.bytes.now (returns-in-Ok-clause-accepted g c)

pub invariant_of-self : goal.invariant_of-self
invariant_of-self g c =
    let held : Records = c.self.inside.edition in
    let n : ℕ = c.self.inside.count in
    let e : Records = grown_to n held in
    let many : length c.args.self.now.draft ≡ n =
    sym (ap (λ s. length s.draft) c.self.view_is) ∙ length-draft held n c.self.inside.changes.entries c.self.invariant.0.more in
    let inside : c.args.i < length e.records =
    omega (arith, many, c.has_record.ensures.0 c.if-not-has_record.false, length-grown held.plan n held.records c.self.invariant.0.more) in
    let fit : fits e.plan c.in_ok-copy.copy.items ≡ true =
    ap (fits e.plan) c.in_ok-copy.ensures ∙ ap (λ s. fits s.edition.plan c.args.bytes.now) c.self.view_is ∙ sym c.fits.ensures ∙ c.if-not-fits.false in (
      record {
        more = c.self.invariant.0.more;
        layout = c.self.invariant.0.layout;
        fit = fit-updated e c.self.inside.changes c.insert.new.self c.args.i (Some c.in_ok-copy.copy) c.in-Ok.ensures.updates (inside, fit)
            c.self.invariant.0.fit;
        appended = appended-updated held n n c.self.inside.changes c.insert.new.self c.args.i c.in_ok-copy.copy c.in-Ok.ensures.updates (λ i lt apart. lt)
            c.self.invariant.0.appended;
        rows = c.self.invariant.0.rows;
      },
      c.self.invariant.1,
    )
