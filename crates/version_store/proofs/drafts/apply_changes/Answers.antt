use Rattle.std.proofs.Common.{ap, ◌∙◌, sym, arith, refl, ◌≡◌, ◌<◌, ℕ, List, [], length, inl, inr, false, true}
use Rattle.std.proofs.lemmas.List.{length-set, nil_from_length}
use Rattle.std.proofs.lemmas.Bool.{cases_lt}
use Rattle.std.specs.Prelude.{slice_set, None}
use Rattle.digit_pack.specs.Layout.{digit_rows, digits_per_record, record_at}
use Rattle.pir_schemes.specs.Plans.{fits, digits_at}
use Rattle.version_store.specs.Drafts.{draft_of}
use Rattle.version_store.specs.Editions.{Records, version_shape}
use Rattle.version_store.proofs.DraftLemmas.{draft-popped, draft-none, fit-updated, still-waiting}
use Rattle.version_store.proofs.ChangedRows.{settled}
use Rattle.version_store.proofs.Marks.{none_marked, more_marked}
use Rattle.version_store.proofs.drafts.apply_changes.Goals as goal

pub loop-i-init : goal.loop-i-init
loop-i-init g c = record {
  layer = refl;
  fit = c.requires.fit;
  count = refl;
  room = c.requires.room;
  draft = refl;
  waiting = λ k v e. refl;
  marks = none_marked (digits_at c.args.layer.now.plan c.args.layer.now.records) c.args.marks.now;
}

pub replace-requires-clause-index : goal.replace-requires-clause-index
replace-requires-clause-index g c =
    let fit : (c.in-Some.i < length c.args.layer.now.records) × (fits c.args.layer.now.plan c.in-Some.bytes.items ≡ true) =
    rw c.in-Some.ensures.value at (c.loop-i.invariant.fit c.in-Some.i) in
    omega (arith, fit.0, c.loop-i.invariant.count)

pub replace-requires-clause-fits : goal.replace-requires-clause-fits
replace-requires-clause-fits g c =
    let fit : (c.in-Some.i < length c.args.layer.now.records) × (fits c.args.layer.now.plan c.in-Some.bytes.items ≡ true) =
    rw c.in-Some.ensures.value at (c.loop-i.invariant.fit c.in-Some.i) in
    ap (fits c.loop-i.layer.plan) c.deref.ensures.value ∙ ap (λ (e : Records). fits e.plan c.in-Some.bytes.items) c.loop-i.invariant.layer ∙ fit.1

pub replace-requires-clause-room : goal.replace-requires-clause-room
replace-requires-clause-room g c =
    c.loop-i.invariant.room ∙ sym (ap (λ e. digits_per_record (version_shape e)) c.loop-i.invariant.layer)

pub replace-requires-clause-marks : goal.replace-requires-clause-marks
replace-requires-clause-marks g c =
    c.loop-i.invariant.marks.count ∙ c.requires.marks ∙ sym (ap (λ e. digit_rows (version_shape e)) c.loop-i.invariant.layer)

pub loop-i-preserved : goal.loop-i-preserved
loop-i-preserved g c =
    let first : Records = c.args.layer.now in
    let old : List (List ℕ) = c.loop-i.layer.records in
    let i : ℕ = c.in-Some.i in
    let with : List (List ℕ) → Records = λ rs. record c.args.layer.now { records = rs } in
    let records : c.replace.new.self.records ≡ slice_set old i c.in-Some.bytes.items =
    ap (λ e. e.records) c.replace.ensures.records ∙ ap (λ (b : List ℕ). slice_set old i b) c.deref.ensures.value in
    let fit : (i < length first.records) × (fits first.plan c.in-Some.bytes.items ≡ true) =
    rw c.in-Some.ensures.value at (c.loop-i.invariant.fit i) in
    let inside : i < length old = omega (arith, fit.0, c.loop-i.invariant.count) in
    let high : (digits_at c.loop-i.layer.plan c.loop-i.layer.records).rows ≡ (digits_at first.plan first.records).rows =
    ap (λ e. digit_rows (version_shape e)) c.loop-i.invariant.layer in
    record {
      layer = c.replace.ensures.records ∙ ap (λ e. let r : Records = record e { records = slice_set old i c.deref.result.now } in r) c.loop-i.invariant.layer
          ∙ ap with (sym (ap (λ e. e.records) c.replace.ensures.records));
      fit = fit-updated first c.loop-i.changes c.pop_first.new.self i None c.in-Some.ensures.updates tt c.loop-i.invariant.fit;
      count = ap length records ∙ length-set old i c.in-Some.bytes.items ∙ c.loop-i.invariant.count;
      room = c.replace.auto.scratch ∙ c.loop-i.invariant.room;
      draft = ap (λ (rs : List (List ℕ)). draft_of rs c.pop_first.new.self.entries) records
          ∙ draft-popped old c.loop-i.changes c.pop_first.new.self i c.in-Some.bytes c.in-Some.ensures.value c.in-Some.ensures.updates inside
          ∙ c.loop-i.invariant.draft;
      waiting = λ k v e. ap (λ (rs : List (List ℕ)). record_at rs k) records ∙ still-waiting first.records old c.loop-i.changes c.pop_first.new.self i
          c.in-Some.bytes.items c.in-Some.ensures.updates c.loop-i.invariant.waiting k v e;
      marks = more_marked (digits_at first.plan first.records) (digits_at c.loop-i.layer.plan c.loop-i.layer.records)
          (digits_at c.replace.new.self.plan c.replace.new.self.records) c.args.marks.now c.loop-i.marks c.replace.new.marks high
          (settled first c.loop-i.layer c.replace.new.self i c.deref.result.now c.loop-i.invariant.layer c.replace.ensures.records c.loop-i.invariant.count inside
          (c.loop-i.invariant.waiting i c.in-Some.bytes c.in-Some.ensures.value)) c.loop-i.invariant.marks c.replace.ensures.marks;
    }

pub returns-clause-records : goal.returns-clause-records
returns-clause-records g c =
    let none : c.loop-i.changes.entries ≡ [] = nil_from_length c.loop-i.changes.entries (elim (cases_lt 0 (length c.loop-i.changes.entries)) [
      | inl some ↦ let impossible : false ≡ true = c.in_default.ensures.variant.1 some in cc
      | inr few ↦ omega arith
    ]) in
    let with : List (List ℕ) → Records = λ rs. record c.args.layer.now { records = rs } in
    c.loop-i.invariant.layer
    ∙ ap with (sym (draft-none c.loop-i.layer.records) ∙ ap (draft_of c.loop-i.layer.records) (sym none) ∙ c.loop-i.invariant.draft)
