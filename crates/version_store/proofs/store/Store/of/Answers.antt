use Rattle.std.proofs.Common.{ap, arith, ◌≡◌, ◌∙◌, ◌<◌, ◌*◌, ◌/◌, sym, subst, refl, ℕ, List, [], length, false}
use Rattle.std.proofs.lemmas.List.Elements.{All-nil}
use Rattle.std.specs.Prelude.{All}
use Rattle.digit_pack.specs.Layout.{Shape, IsLayout, digit_rows}
use Rattle.hint_update.specs.Logs.{Log}
use Rattle.pir_schemes.specs.declared.plan.Plan.{Plan}
use Rattle.pir_schemes.specs.Plans.{shape_at}
use Rattle.record_log.specs.OldRecords.{OldRecord}
use Rattle.record_log.specs.Logs.{KeptLog}
use Rattle.version_store.specs.Drafts.{Changes, draft_of, is_some_change, grown_to}
use Rattle.version_store.specs.Editions.{Records, version_shape}
use Rattle.version_store.specs.Histories.{StoreState}
use Rattle.version_store.specs.OldRecords.{IsOldsLog}
use Rattle.version_store.proofs.DraftLemmas.{draft-none}
use Rattle.version_store.proofs.DraftPlaces.{appended-none}
use Rattle.version_store.proofs.Grown.{grown-same}
use Rattle.version_store.proofs.store.Store.of.Goals as goal

pub invariant_of-result : goal.invariant_of-result
invariant_of-result g c =
    let e : Records = c.args.edition in
    let n : ℕ = digit_rows (version_shape e) in
    let below : Log → Type 0 = λ log. All (λ (rows : List ℕ). All (λ r. r < n) rows) log.lists in
    let count : c.count-count.result ≡ length e.records = c.count-count.ensures.value ∙ ap (λ (l : Shape). l.count) c.layout-layout.ensures.value in
    let of : Shape → ℕ → KeptLog = λ l d. record { record_len = l.record_len; most = digit_rows l * d / 2; lists = [] } in
    let log : c.in_ok-log.olds ≡ of (version_shape e) e.plan.dimension =
    c.in_ok-log.ensures.olds
    ∙ ap (λ l. of l c.plan.result.now.dimension) c.layout-layout.ensures.value
    ∙ ap (λ (p : Plan). of (version_shape e) p.dimension) c.plan.ensures in (
      record {
        more = omega (arith, count);
        layout = subst IsLayout (ap (shape_at e.plan) (sym count)) c.layout-layout.ensures.plan.layout;
        fit = λ i. rw c.new.ensures.empty tt;
        appended = appended-none e c.count-count.result c.new.result.entries (omega (arith, count));
        rows = subst below (sym c.in_ok-log.ensures.rows) (All-nil (λ (rows : List ℕ). All (λ r. r < n) rows));
      },
      subst (IsOldsLog e) (sym log) (record { record_len = refl; most = refl; inside = All-nil (λ (olds : List OldRecord). All (λ (old : OldRecord). old.index < length e.records) olds) }),
    )

pub returns : goal.returns
returns g c =
    let e : Records = c.args.edition in
    let k : ℕ = c.count-count.result in
    let count : k ≡ length e.records = c.count-count.ensures.value ∙ ap (λ (l : Shape). l.count) c.layout-layout.ensures.value in
    let made : Changes → Log → List (List OldRecord) → StoreState = λ cs log olds. record {
      version = log.version;
      edition = e;
      draft = draft_of (grown_to k e).records cs;
      marked = is_some_change cs;
      publisher = c.args.publisher;
      log = log.lists;
      olds = olds;
    } in
    let none : Log = record { version = c.args.version; lists = [] } in
    let with : List (List ℕ) → StoreState = λ d. record {
      version = c.args.version;
      edition = e;
      draft = d;
      marked = false;
      publisher = c.args.publisher;
      log = [];
      olds = [];
    } in
    ap (λ (l : KeptLog). made c.new.result.entries c.in_ok-log.log l.lists) c.in_ok-log.ensures.olds
    ∙ ap (λ log. made c.new.result.entries log []) c.in_ok-log.ensures.rows
    ∙ ap (λ cs. made cs none []) c.new.ensures.empty
    ∙ ap (λ n. with (draft_of (grown_to n e).records [])) count
    ∙ ap (λ (xs : List (List ℕ)). with (draft_of xs [])) (grown-same e.plan e.records)
    ∙ ap with (draft-none e.records)
