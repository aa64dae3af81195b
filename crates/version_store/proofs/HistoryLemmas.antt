-- What a store represents after an edit, an append and a publication.
use Rattle.std.proofs.Common.{◌≡◌, ℕ, ◌+◌, arith, ap, ◌∙◌, sym, refl, List, [], ◌∷◌, ◌++◌, length, take, lit≤, Option}
use Rattle.std.proofs.lemmas.List.{length-set, length_push, take-take}
use Rattle.std.specs.Prelude.{slice_set}
use Rattle.snapshot_file.specs.declared.snapshot.Header.{Header}
use Rattle.digit_pack.specs.Layout.{digit_rows}
use Rattle.pir_schemes.specs.declared.plan.Plan.{Plan}
use Rattle.pir_schemes.specs.Plans.{shape_at, digits_at, records_held}
use Rattle.version_store.specs.Deltas.{changed_rows, changes_of}
use Rattle.version_store.specs.Openings.{held_of, plan_held}
use Rattle.version_store.specs.Histories.{StoreState, History, StandsFor, current_version, delta_rows, opened, after_edit, after_append, published, held_edited, held_appended, held_published, StoreChange, Edited, Appended, Published, history_after, held_after, undrafted, without_draft}
use Rattle.record_log.specs.OldRecords.{OldRecord}
use Rattle.version_store.specs.OldRecords.{kept_olds, olds_replaced, with_olds}
use Rattle.version_store.proofs.OldsKept.{one_more}
use Rattle.version_store.proofs.LoggedRows.{rows_logged, history_rows, held_rows, rows_as_logged}

pub edit_stands : (old new : StoreState) (i : ℕ) (bytes : List ℕ) → new ≡ held_edited i bytes old →
    (h : History) → StandsFor old h → StandsFor new (after_edit i bytes h)
edit_stands old new i bytes e h s = record {
  version = s.version ∙ sym (ap (λ t. t.version) e);
  current = s.current ∙ sym (ap (λ t. t.edition.records) e);
  draft = ap (λ (d : List (List ℕ)). slice_set d i bytes) s.draft ∙ sym (ap (λ t. t.draft) e);
  marked = sym (ap (λ t. t.marked) e);
  log = ap (λ t. take 16 (changes_of t.edition.plan h.current h.past)) e ∙ s.log ∙ sym (ap (λ t. t.log) e);
  olds = ap (λ t. kept_olds t.edition.plan h.current h.past) e ∙ s.olds ∙ sym (ap (λ t. t.olds) e);
  growing = (omega (arith, s.growing.0, length-set h.draft i bytes), s.growing.1);
}

pub append_stands : (old new : StoreState) (bytes : List ℕ) → new ≡ held_appended bytes old →
    (h : History) → StandsFor old h → StandsFor new (after_append bytes h)
append_stands old new bytes e h s = record {
  version = s.version ∙ sym (ap (λ t. t.version) e);
  current = s.current ∙ sym (ap (λ t. t.edition.records) e);
  draft = ap (λ (d : List (List ℕ)). d ++ bytes ∷ []) s.draft ∙ sym (ap (λ t. t.draft) e);
  marked = sym (ap (λ t. t.marked) e);
  log = ap (λ t. take 16 (changes_of t.edition.plan h.current h.past)) e ∙ s.log ∙ sym (ap (λ t. t.log) e);
  olds = ap (λ t. kept_olds t.edition.plan h.current h.past) e ∙ s.olds ∙ sym (ap (λ t. t.olds) e);
  growing = (omega (arith, s.growing.0, length_push h.draft bytes), s.growing.1);
}

pub undraft_stands : (old new : StoreState) → new ≡ without_draft old → (h : History) → StandsFor old h → StandsFor new (undrafted h)
undraft_stands old new e h s = record {
  version = s.version ∙ sym (ap (λ t. t.version) e);
  current = s.current ∙ sym (ap (λ t. t.edition.records) e);
  draft = s.current ∙ sym (ap (λ t. t.draft) e);
  marked = sym (ap (λ t. t.marked) e);
  log = ap (λ t. take 16 (changes_of t.edition.plan h.current h.past)) e ∙ s.log ∙ sym (ap (λ t. t.log) e);
  olds = ap (λ t. kept_olds t.edition.plan h.current h.past) e ∙ s.olds ∙ sym (ap (λ t. t.olds) e);
  growing = (omega arith, s.growing.1);
}

-- a list before others, of which so many are kept
first_of : (x : List ℕ) (xs ys : List (List ℕ)) → take 16 xs ≡ ys → take 16 (x ∷ xs) ≡ take 16 (x ∷ ys)
first_of x xs ys e =
    let fewer : take 15 xs ≡ take 15 (take 16 xs) = sym (take-take 15 16 xs (lit≤ tt)) in
    ap (λ (zs : List (List ℕ)). x ∷ zs) (fewer ∙ ap (take 15) e)

-- the log of a history with one more version
one_more_logged : (p : Plan) (current draft : List (List ℕ)) (past : List (List (List ℕ))) (log : List (List ℕ)) → take 16 (changes_of p current past) ≡ log →
    take 16 (changes_of p draft (current ∷ past)) ≡ take 16 (changed_rows (digits_at p current) (digits_at p draft) ∷ log)
unfolding changes_of
one_more_logged p current draft past log e = first_of (changed_rows (digits_at p current) (digits_at p draft)) (changes_of p current past) log e

pub publish_stands : (old new : StoreState) → new ≡ held_published old → (h : History) → StandsFor old h → StandsFor new (published h)
publish_stands old new e h s =
    let version : new.version ≡ old.version + 1 = ap (λ t. t.version) e in
    record {
      version = omega (arith, s.version, version);
      current = s.draft ∙ sym (ap (λ t. t.edition.records) e);
      draft = s.draft ∙ sym (ap (λ t. t.draft) e);
      marked = sym (ap (λ t. t.marked) e);
      log = ap (λ t. take 16 (changes_of t.edition.plan h.draft (h.current ∷ h.past))) e
          ∙ one_more_logged old.edition.plan h.current h.draft h.past old.log s.log
          ∙ ap (λ (rs : List (List ℕ)). take 16 (changed_rows (digits_at old.edition.plan rs) (digits_at old.edition.plan h.draft) ∷ old.log)) s.current
          ∙ ap (λ (rs : List (List ℕ)). take 16 (changed_rows (digits_at old.edition.plan old.edition.records) (digits_at old.edition.plan rs) ∷ old.log))
          s.draft
          ∙ sym (ap (λ t. t.log) e);
      olds = ap (λ t. kept_olds t.edition.plan h.draft (h.current ∷ h.past)) e
          ∙ one_more old.edition.plan h.current h.draft h.past
          ∙ ap (λ (ls : List (List OldRecord)). with_olds old.edition.plan ls (olds_replaced old.edition.plan h.current h.draft)) s.olds
          ∙ ap (λ (rs : List (List ℕ)). with_olds old.edition.plan old.olds (olds_replaced old.edition.plan rs h.draft)) s.current
          ∙ ap (λ (rs : List (List ℕ)). with_olds old.edition.plan old.olds (olds_replaced old.edition.plan old.edition.records rs)) s.draft
          ∙ sym (ap (λ t. t.olds) e);
      growing = (omega arith, s.growing);
    }

pub open_stands : (s : StoreState) (h : Header) (bytes : List ℕ) → s ≡ held_of h bytes → StandsFor s (opened h.version (records_held (plan_held h) h.count bytes))
unfolding changes_of kept_olds
open_stands s h bytes e = record {
  version = omega (arith, ap (λ t. t.version) e);
  current = sym (ap (λ t. t.edition.records) e);
  draft = sym (ap (λ t. t.draft) e);
  marked = sym (ap (λ t. t.marked) e);
  log = sym (ap (λ t. t.log) e);
  olds = sym (ap (λ t. t.olds) e);
  growing = (omega arith, tt);
}

-- the rows that a store and its history give
pub held_as_history : (s : StoreState) (h : History) (since : ℕ) → StandsFor s h → held_rows s since ≡ delta_rows s.edition.plan h since
unfolding history_rows
held_as_history s h since stands =
    let p : Plan = s.edition.plan in
    let n : ℕ = digit_rows (shape_at p (length h.current)) in
    let at : ℕ → List (List ℕ) → Option (List ℕ) = λ v lists. rows_logged n (record { version = v; lists = lists }) since in
    let rows : digit_rows (shape_at p (length s.edition.records)) ≡ n = ap (λ (rs : List (List ℕ)). digit_rows (shape_at p (length rs))) (sym stands.current) in
    ap (λ m. rows_logged m (record { version = s.version; lists = s.log }) since) rows
    ∙ ap (λ v. at v s.log) (sym stands.version)
    ∙ ap (at (current_version h)) (sym stands.log)
    ∙ sym (rows_as_logged p h since)

-- a store represents its history after any changes
pub run_stands : (changes : List StoreChange) (s : StoreState) (h : History) → StandsFor s h → StandsFor (held_after changes s) (history_after changes h)
run_stands [] s h stands = stands
run_stands (Edited i bytes ∷ more) s h stands =
    run_stands more (held_edited i bytes s) (after_edit i bytes h) (edit_stands s (held_edited i bytes s) i bytes refl h stands)
run_stands (Appended bytes ∷ more) s h stands =
    run_stands more (held_appended bytes s) (after_append bytes h) (append_stands s (held_appended bytes s) bytes refl h stands)
run_stands (Published ∷ more) s h stands = run_stands more (held_published s) (published h) (publish_stands s (held_published s) refl h stands)
