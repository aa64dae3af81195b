use Rattle.std.proofs.Common.{ap, ◌∙◌, sym, arith, ◌≡◌, ◌+◌, ℕ, List, [], ◌∷◌, length, take, subst, false}
use Rattle.pir_schemes.specs.Plans.{digits_at}
use Rattle.hint_update.specs.Logs.{Log, with_publication}
use Rattle.version_store.specs.Deltas.{changed_rows}
use Rattle.version_store.specs.Drafts.{Changes, FitRecords, draft_of, is_some_change, grown_to, IsHeld}
use Rattle.version_store.specs.Editions.{Records}
use Rattle.version_store.specs.Histories.{StoreState, held_published}
use Rattle.record_log.specs.OldRecords.{OldRecord}
use Rattle.record_log.specs.Logs.{KeptLog}
use Rattle.version_store.specs.OldRecords.{IsOldsLog, draft_olds, olds_replaced, with_newest, with_olds}
use Rattle.version_store.proofs.DraftLemmas.{draft-none}
use Rattle.version_store.proofs.Grown.{length-draft, grown-same}
use Rattle.version_store.proofs.OldsKept.{log_after, newest_fits, newest_kept}
use Rattle.version_store.proofs.Publications.{pushed_rows, held_after_publication}
use Rattle.version_store.proofs.store.Store.publish_draft.Goals as goal

pub invariant_of-self : goal.invariant_of-self
invariant_of-self g c = (
  subst (λ (e : Records). IsHeld e c.self.inside.count c.self.inside.changes.entries c.self.inside.log.lists) (sym c.in_err-grow.ensures.refused)
      c.self.invariant.0,
  subst (λ (e : Records). IsOldsLog e c.self.inside.olds) (sym c.in_err-grow.ensures.refused) c.self.invariant.1,
)

pub invariant_of-self-2 : goal.invariant_of-self-2
invariant_of-self-2 g c =
    let e : Records = c.self.inside.edition in
    let n : ℕ = c.self.inside.count in
    let changes : Changes = c.self.inside.changes.entries in
    let mid : Records = c.grow.new.self in
    let wide : mid ≡ grown_to n e = c.in_ok-grow.ensures.grown in
    let draft : List (List ℕ) = draft_of mid.records changes in
    let many : length draft ≡ n = ap (λ (x : Records). length (draft_of x.records changes)) wide ∙ length-draft e n changes c.self.invariant.0.more in
    let rows : c.push_marked.new.rows.items ≡ changed_rows (digits_at e.plan e.records) (digits_at e.plan draft) =
    pushed_rows e mid c.apply.new.self draft n c.layout-layout.result.now c.in_ok-room.room.marks c.deref_mut-2.result.now c.apply.new.marks
    c.deref.result.now c.in_ok-room.room.rows.items c.push_marked.new.rows.items c.layout-layout.ensures.plan c.self.invariant.0.more wide c.apply.ensures.records many
    c.layout-layout.ensures.value c.in_ok-room.ensures.count c.in_ok-room.ensures.none c.deref_mut-2.ensures.value c.apply.ensures.marks
    c.deref.ensures.value c.in_ok-room.ensures.rows c.push_marked.ensures in
    let new : c.apply.new.self ≡ record e { records = draft } =
    c.apply.ensures.records ∙ ap (λ (x : Records). let r : Records = record x { records = draft } in r) wide in
    let olds : c.in_ok-olds.olds ≡ draft_olds e draft =
    c.in_ok-olds.ensures ∙ sym (ap (λ (s : StoreState). draft_olds s.edition s.draft) c.self.view_is)
    ∙ ap (λ (x : Records). draft_olds e (draft_of x.records changes)) (sym wide) in (
      held_after_publication e c.apply.new.self draft n c.self.inside.log c.add.new.self c.push_marked.new.rows.items c.apply.new.changes.entries new many
          c.self.invariant.0.layout rows c.add.ensures (λ i. rw c.apply.ensures.none tt) c.self.invariant.0.rows,
      log_after e c.apply.new.self draft c.self.inside.olds c.keep_olds.new.log new (omega (arith, many, c.self.invariant.0.more)) c.self.invariant.1
          (c.keep_olds.ensures ∙ ap (with_newest c.self.inside.olds) olds),
    )

pub returns-clause-done : goal.returns-clause-done
returns-clause-done g c =
    let e : Records = c.self.inside.edition in
    let n : ℕ = c.self.inside.count in
    let changes : Changes = c.self.inside.changes.entries in
    let mid : Records = c.grow.new.self in
    let wide : mid ≡ grown_to n e = c.in_ok-grow.ensures.grown in
    let draft : List (List ℕ) = draft_of mid.records changes in
    let same : draft ≡ draft_of (grown_to n e).records changes = ap (λ (x : Records). draft_of x.records changes) wide in
    let many : length draft ≡ n = ap length same ∙ length-draft e n changes c.self.invariant.0.more in
    let rows : List ℕ = changed_rows (digits_at e.plan e.records) (digits_at e.plan draft) in
    let are : c.push_marked.new.rows.items ≡ rows =
    pushed_rows e mid c.apply.new.self draft n c.layout-layout.result.now c.in_ok-room.room.marks c.deref_mut-2.result.now c.apply.new.marks
    c.deref.result.now c.in_ok-room.room.rows.items c.push_marked.new.rows.items c.layout-layout.ensures.plan c.self.invariant.0.more wide c.apply.ensures.records many
    c.layout-layout.ensures.value c.in_ok-room.ensures.count c.in_ok-room.ensures.none c.deref_mut-2.ensures.value c.apply.ensures.marks
    c.deref.ensures.value c.in_ok-room.ensures.rows c.push_marked.ensures in
    let made : Records → Changes → Log → List (List OldRecord) → StoreState = λ e cs log olds. record {
      version = log.version;
      edition = e;
      draft = draft_of (grown_to n e).records cs;
      marked = is_some_change cs;
      publisher = c.self.inside.publisher;
      log = log.lists;
      olds = olds;
    } in
    let kept : List (List OldRecord) = with_olds e.plan c.self.inside.olds.lists (olds_replaced e.plan e.records draft) in
    let olds : c.keep_olds.new.log.lists ≡ kept =
    ap (λ (l : KeptLog). l.lists) (c.keep_olds.ensures
    ∙ ap (with_newest c.self.inside.olds) (c.in_ok-olds.ensures ∙ sym (ap (λ (s : StoreState). draft_olds s.edition s.draft) c.self.view_is)
    ∙ ap (draft_olds e) (sym same))
    ∙ newest_kept e draft c.self.inside.olds c.self.invariant.1) in
    let with : List (List ℕ) → Records = λ rs. record e { records = rs } in
    let logged : Log = with_publication rows c.self.inside.log in
    let ends : List (List ℕ) → StoreState = λ d. record {
      version = c.self.inside.log.version + 1;
      edition = with draft;
      draft = d;
      marked = false;
      publisher = c.self.inside.publisher;
      log = take 16 (rows ∷ c.self.inside.log.lists);
      olds = kept;
    } in
    let begins : List (List ℕ) → StoreState = λ d. record {
      version = c.self.inside.log.version;
      edition = e;
      draft = d;
      marked = is_some_change changes;
      publisher = c.self.inside.publisher;
      log = c.self.inside.log.lists;
      olds = c.self.inside.olds.lists;
    } in
    let full : (grown_to n (with draft)).records ≡ draft = ap (λ k. (grown_to k (with draft)).records) (sym many) ∙ grown-same e.plan draft in
    ap (made c.apply.new.self c.apply.new.changes.entries c.add.new.self) olds
    ∙ ap (λ log. made c.apply.new.self c.apply.new.changes.entries log kept) (c.add.ensures ∙ ap (λ (xs : List ℕ). with_publication xs c.self.inside.log) are)
    ∙ ap (λ e. made e c.apply.new.changes.entries logged kept)
    (c.apply.ensures.records ∙ ap (λ (x : Records). let r : Records = record x { records = draft } in r) wide)
    ∙ ap (λ cs. made (with draft) cs logged kept) c.apply.ensures.none
    ∙ ap (λ (rs : List (List ℕ)). ends (draft_of rs [])) full
    ∙ ap ends (draft-none draft)
    ∙ ap (λ d. held_published (begins d)) same
    ∙ ap held_published c.self.view_is

pub keep_olds-requires : goal.keep_olds-requires
keep_olds-requires g c =
    newest_fits c.self.inside.edition c.args.self.now.draft c.self.inside.olds c.in_ok-olds.olds c.self.invariant.1
    (c.in_ok-olds.ensures ∙ sym (ap (λ (s : StoreState). draft_olds s.edition c.args.self.now.draft) c.self.view_is))

pub apply-requires-clause-fit : goal.apply-requires-clause-fit
apply-requires-clause-fit g c =
    subst (λ (e : Records). FitRecords e c.self.inside.changes.entries) (sym c.in_ok-grow.ensures.grown) c.self.invariant.0.fit
