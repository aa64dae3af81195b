use Rattle.std.proofs.Common.{ap, ◌∙◌, ◌≡◌, ℕ, List, [], length, Bool, false}
use Rattle.digit_pack.specs.Layout.{Shape}
use Rattle.version_store.specs.Drafts.{Changes, draft_of, is_some_change, grown_to}
use Rattle.version_store.specs.Editions.{Records}
use Rattle.version_store.specs.Histories.{StoreState, without_draft}
use Rattle.version_store.proofs.DraftLemmas.{draft-none}
use Rattle.version_store.proofs.Grown.{grown-same}
use Rattle.version_store.proofs.HistoryLemmas.{undraft_stands}
use Rattle.version_store.proofs.store.Store.drop_draft.Goals as goal

pub returns-clause-dropped : goal.returns-clause-dropped
returns-clause-dropped g c =
    let e : Records = c.self.inside.edition in
    let made : List (List ℕ) → Bool →
    StoreState = λ d m. record { version = c.self.inside.log.version; edition = e; draft = d; marked = m; publisher = c.self.inside.publisher; log = c.self.inside.log.lists; olds = c.self.inside.olds.lists } in
    let many : c.count-self-inside.result ≡ length e.records = c.count-self-inside.ensures.value ∙ ap (λ (l : Shape). l.count) c.layout.ensures.value in
    ap (λ (cs : Changes). made (draft_of (grown_to c.count-self-inside.result e).records cs) (is_some_change cs)) c.new.ensures.empty
    ∙ ap (λ n. made (draft_of (grown_to n e).records []) false) many
    ∙ ap (λ (xs : List (List ℕ)). made (draft_of xs []) false) (grown-same e.plan e.records)
    ∙ ap (λ d. made d false) (draft-none e.records)
    ∙ ap without_draft c.self.view_is

pub returns-clause-history : goal.returns-clause-history
returns-clause-history g c = undraft_stands c.args.self.now _ (returns-clause-dropped g c)
