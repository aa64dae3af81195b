use Rattle.std.proofs.Common.{ap, ◌∙◌, sym, arith, ◌≡◌, ◌+◌, ◌++◌, ◌∷◌, [], ℕ, List, length, Bool, true}
use Rattle.std.specs.Prelude.{Some}
use Rattle.digit_pack.specs.Layout.{is_layout}
use Rattle.digit_pack.proofs.Layouts.{layout_means}
use Rattle.pir_schemes.specs.Plans.{fits, shape_at}
use Rattle.version_store.specs.Drafts.{draft_of, is_some_change, grown_to}
use Rattle.version_store.specs.Editions.{Records}
use Rattle.version_store.specs.Histories.{StoreState}
use Rattle.version_store.proofs.DraftLemmas.{some_after_insert, fit-updated}
use Rattle.version_store.proofs.DraftPlaces.{appended-updated}
use Rattle.version_store.proofs.Grown.{length-draft, length-grown, draft-appended, fit-appended}
use Rattle.version_store.proofs.HistoryLemmas.{append_stands}
use Rattle.version_store.proofs.store.Store.append.Goals as goal

pub returns-in-Ok-clause-accepted : goal.returns-in-Ok-clause-accepted
returns-in-Ok-clause-accepted g c =
    let e : Records = c.self.inside.edition in
    let n : ℕ = c.self.inside.count in
    let old : List (List ℕ) = draft_of (grown_to n e).records c.self.inside.changes.entries in
    let draft : draft_of (grown_to (n + 1) e).records c.insert.new.self.entries ≡ old ++ c.args.bytes.now ∷ [] =
    draft-appended e n c.self.inside.changes c.insert.new.self c.in_ok-copy.copy c.self.invariant.0.more c.in-Ok.ensures.updates
    ∙ ap (λ (b : List ℕ). old ++ b ∷ []) c.in_ok-copy.ensures in
    let made : List (List ℕ) → Bool →
    StoreState = λ d m. record { version = c.self.inside.log.version; edition = e; draft = d; marked = m; publisher = c.self.inside.publisher; log = c.self.inside.log.lists; olds = c.self.inside.olds.lists } in
    let after : StoreState → StoreState = λ s. record s { draft = s.draft ++ c.args.bytes.now ∷ []; marked = true } in
    ap (λ d. made d (is_some_change c.insert.new.self.entries)) draft
    ∙ ap (made (old ++ c.args.bytes.now ∷ []))
    (some_after_insert c.self.inside.changes c.insert.new.self n _ c.in-Ok.ensures.updates)
    ∙ ap after c.self.view_is

pub returns-in-Ok-clause-history : goal.returns-in-Ok-clause-history
returns-in-Ok-clause-history g c = append_stands c.args.self.now _ c.args.bytes.now (returns-in-Ok-clause-accepted g c)

pub invariant_of-self : goal.invariant_of-self
invariant_of-self g c =
    let e : Records = c.self.inside.edition in
    let n : ℕ = c.self.inside.count in
    let long : length (grown_to (n + 1) e).records ≡ n + 1 = length-grown e.plan (n + 1) e.records (omega (arith, c.self.invariant.0.more)) in
    let fit : fits e.plan c.in_ok-copy.copy.items ≡ true =
    ap (fits e.plan) c.in_ok-copy.ensures ∙ ap (λ s. fits s.edition.plan c.args.bytes.now) c.self.view_is ∙ sym c.fits.ensures ∙ c.if-not-fits.false in
    let room : is_layout (shape_at e.plan (n + 1)) ≡ true =
    ap (λ k. is_layout (shape_at e.plan (k + 1))) (sym (length-draft e n c.self.inside.changes.entries c.self.invariant.0.more))
    ∙ ap (λ s. is_layout (shape_at s.edition.plan (length s.draft + 1))) c.self.view_is ∙ sym c.has_room.ensures ∙ c.if-not-has_room.false in (
      record {
        more = omega (arith, c.self.invariant.0.more);
        layout = layout_means (shape_at e.plan (n + 1)) room;
        fit = fit-updated (grown_to (n + 1) e) c.self.inside.changes c.insert.new.self n (Some c.in_ok-copy.copy) c.in-Ok.ensures.updates
            (omega (arith, long), fit) (fit-appended e n c.self.inside.changes.entries c.self.invariant.0.more c.self.invariant.0.fit);
        appended = appended-updated e n (n + 1) c.self.inside.changes c.insert.new.self n c.in_ok-copy.copy c.in-Ok.ensures.updates
            (λ i lt apart. omega (arith, lt, apart)) c.self.invariant.0.appended;
        rows = c.self.invariant.0.rows;
      },
      c.self.invariant.1,
    )
