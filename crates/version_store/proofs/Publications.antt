-- The rows that a publication logs.
use Rattle.std.proofs.Common.{◌≡◌, ℕ, ◌<◌, ◌≤◌, arith, ap, ◌∙◌, sym, refl, subst, List, [], ◌∷◌, ◌++◌, length, Bool, false}
use Rattle.std.proofs.lemmas.List.{with_items_is}
use Rattle.std.proofs.lemmas.List.Elements.{All-cons, All-take}
use Rattle.std.specs.Prelude.{All}
use Rattle.std.specs.Vec.{with_items}
use Rattle.std.specs.declared.vec.Vec.{Vec}
use Rattle.std.specs.declared.alloc.Global.{Global}
use Rattle.matrix_u32.specs.Matrix.{WordMatrix, widened}
use Rattle.digit_pack.specs.Layout.{Shape, IsLayout, digit_rows, digit_cols}
use Rattle.pir_schemes.specs.declared.plan.Plan.{Plan}
use Rattle.pir_schemes.specs.Plans.{IsPlan, shape_at, digits_at}
use Rattle.hint_update.specs.Logs.{Log, with_publication}
use Rattle.version_store.specs.Deltas.{changed_rows}
use Rattle.version_store.specs.Drafts.{Changes, FitRecords, grown_to, IsHeld}
use Rattle.version_store.specs.Editions.{Records, version_shape, MarksChanges, is_marked, marked_rows}
use Rattle.version_store.proofs.ChangedRows.{marked_is_changed, changed_below}
use Rattle.version_store.proofs.DraftPlaces.{appended-none}
use Rattle.version_store.proofs.Grown.{digits-grown, more_columns, changed-wide}

-- the rows that were marked, and then pushed, are those that the new records change
pub pushed_rows : (old grown new : Records) (draft : List (List ℕ)) (n : ℕ) (l : Shape) (marks : Vec Bool Global) (before after read : List Bool) (none rows : List ℕ) →
    IsPlan old.plan (length old.records) → length old.records ≤ n → grown ≡ grown_to n old → new ≡ record grown { records = draft } → length draft ≡ n →
    l ≡ version_shape old → length marks.items ≡ digit_rows l → ((r : ℕ) → is_marked marks.items r ≡ false) → before ≡ marks.items →
    MarksChanges (digits_at grown.plan grown.records) (digits_at new.plan new.records) before after → read ≡ (with_items marks after).items → none ≡ [] →
    rows ≡ none ++ marked_rows read → rows ≡ changed_rows (digits_at old.plan old.records) (digits_at old.plan draft)
pushed_rows old grown new draft n l marks before after read none rows ok le wide is many sizes count unmarked begin change lent empty pushed =
    let p : Plan = old.plan in
    let groups : 0 < p.groups = ok.layout.groups.0 in
    let d : WordMatrix = digits_at p old.records in
    let last : WordMatrix = digits_at p draft in
    let m : ℕ = digit_cols (shape_at p n) in
    let mid : digits_at grown.plan grown.records ≡ widened d m =
    ap (λ (x : Records). digits_at x.plan x.records) wide ∙ digits-grown p n old.records ok.form groups le in
    let end : digits_at new.plan new.records ≡ last =
    ap (λ (x : Records). digits_at x.plan x.records) is ∙ ap (λ (x : Records). digits_at x.plan draft) wide in
    let cols : m ≡ last.cols = ap (λ k. digit_cols (shape_at p k)) (sym many) in
    let changes : MarksChanges (widened d m) last before after =
    subst (λ x. MarksChanges (widened d m) x before after) end (subst (λ x. MarksChanges x (digits_at new.plan new.records) before after) mid change) in
    let high : length before ≡ digit_rows (version_shape old) = ap length begin ∙ count ∙ ap digit_rows sizes in
    let clear : (r : ℕ) → is_marked before r ≡ false = λ r. ap (λ (ms : List Bool). is_marked ms r) begin ∙ unmarked r in
    let long : length after ≡ marks.len = changes.count ∙ ap length begin ∙ sym marks.ok.0 in
    let wider : d.cols ≤ last.cols = omega (arith, more_columns p (length old.records) n groups le, cols) in
    let marked : marked_rows read ≡ changed_rows d last =
    ap marked_rows (lent ∙ with_items_is marks after long) ∙ marked_is_changed (widened d m) last before after changes refl (sym cols) high clear
    ∙ ap (λ k. changed_rows (widened d k) last) cols ∙ changed-wide d last wider refl in
    pushed ∙ ap (λ (xs : List ℕ). xs ++ marked_rows read) empty ∙ marked

-- only rows that there are were logged, also after them
pub held_after_publication : (old new : Records) (draft : List (List ℕ)) (n : ℕ) (log log2 : Log) (rows : List ℕ) (changes : Changes) →
    new ≡ record old { records = draft } → length draft ≡ n → IsLayout (shape_at old.plan n) → rows ≡ changed_rows (digits_at old.plan old.records) (digits_at old.plan draft) →
    log2 ≡ with_publication rows log → FitRecords (grown_to n new) changes →
    All (λ (rows : List ℕ). All (λ r. r < digit_rows (version_shape old)) rows) log.lists → IsHeld new n changes log2.lists
held_after_publication old new draft n log log2 rows changes is many layout are added fit before =
    let high : digit_rows (version_shape new) ≡ digit_rows (version_shape old) = ap (λ (x : Records). digit_rows (version_shape x)) is in
    let Below : List ℕ → Type 0 = λ rows. All (λ r. r < digit_rows (version_shape old)) rows in
    let here : Below rows = subst Below (sym are) (changed_below (digits_at old.plan old.records) (digits_at old.plan draft)) in
    let all : All Below log2.lists =
    subst (λ (x : Log). All Below x.lists) (sym added) (All-take Below 16 (rows ∷ log.lists) (All-cons Below rows log.lists here before)) in
    let long : length new.records ≡ n = ap (λ (x : Records). length x.records) is ∙ many in
    record {
      more = omega (arith, long);
      layout = subst (λ (q : Plan). IsLayout (shape_at q n)) (sym (ap (λ (x : Records). x.plan) is)) layout;
      fit = fit;
      appended = appended-none new n changes (omega (arith, long));
      rows = subst (λ n. All (λ (rows : List ℕ). All (λ r. r < n) rows) log2.lists) (sym high) all;
    }
