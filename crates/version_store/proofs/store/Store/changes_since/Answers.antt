use Rattle.std.proofs.Common.{◌≡◌, ◌∙◌, ℕ, arith, ap, sym, subst, refl, List, Option, IfOk, length, true}
use Rattle.std.specs.Prelude.{option_map}
use Rattle.digit_pack.specs.Layout.{Shape}
use Rattle.digit_pack.specs.Slots.{is_form}
use Rattle.pir_schemes.specs.declared.plan.Plan.{Plan}
use Rattle.pir_schemes.specs.Plans.{slots}
use Rattle.record_log.specs.OldRecords.{OldRecord}
use Rattle.record_log.specs.Logs.{entries_since, newest, records_of_bytes}
use Rattle.version_store.specs.Editions.{Records}
use Rattle.version_store.specs.Histories.{StoreState}
use Rattle.version_store.specs.Openings.{bytes_of_records}
use Rattle.version_store.proofs.ChangesSince.{at_most, few_answered, few_records, none_so, result_is, stands_so}
use Rattle.version_store.proofs.store.Store.changes_since.Goals as goal

pub returns-in_default-clause-history : goal.returns-in_default-clause-history
returns-in_default-clause-history g c h stands = none_so c.args.self.now h c.args.version c.args.most stands (c.in_default.ensures.none.0 refl)

pub changes_since-requires-clause-few : goal.changes_since-requires-clause-few
changes_since-requires-clause-few g c =
    omega (arith, c.count-count.ensures.value, few_records c.layout.result.now c.count-count.ensures.layout)

pub returns-clause-history : goal.returns-clause-history
returns-clause-history g c h stands =
    let s : StoreState = c.args.self.now in
    let layer : Records = c.layer-layer.result.now in
    let bytes : List ℕ = bytes_of_records (slots layer.plan layer.records) in
    let lists : List (List OldRecord) = c.self.inside.olds.lists in
    let n : ℕ = c.in-Some.n in
    let count : ℕ = c.count-count.result in
    let len : c.self.inside.olds.record_len ≡ layer.plan.record_len =
    c.self.invariant.1.record_len ∙ ap (λ (e : Records). e.plan.record_len) (sym c.layer-layer.ensures) in
    let many : count ≡ length layer.records = c.count-count.ensures.value ∙ ap (λ (l : Shape). l.count) c.layout.ensures.value in
    let read : records_of_bytes c.self.inside.olds.record_len count bytes ≡ slots s.edition.plan s.edition.records =
    ap (λ k. records_of_bytes k count bytes) len
    ∙ ap (λ k. records_of_bytes layer.plan.record_len k bytes) many
    ∙ c.bytes_len.ensures.records
    ∙ ap (λ (e : Records). slots e.plan e.records) c.layer-layer.ensures
    ∙ ap (λ (x : StoreState). slots x.edition.plan x.edition.records) c.self.view_is in
    let found : List ℕ = entries_since (newest n lists) (records_of_bytes c.self.inside.olds.record_len count bytes) in
    let form : is_form s.edition.plan.form s.edition.plan.record_len ≡ true =
    subst (λ (p : Plan). is_form p.form p.record_len ≡ true)
    (ap (λ (e : Records). e.plan) c.layer-layer.ensures ∙ ap (λ (x : StoreState). x.edition.plan) c.self.view_is) c.layout.ensures.plan.form in
    let is : Option (List ℕ) → Type 0 = λ o. IfOk c.changes_since.result (λ made. option_map (λ v. v.items) made ≡ o) in
    subst is
    (ap (λ (rs : List (List ℕ)). at_most c.args.most (entries_since (newest n lists) rs)) read
    ∙ ap (λ (x : StoreState). at_most c.args.most (entries_since (newest n x.olds) (slots s.edition.plan s.edition.records))) c.self.view_is
    ∙ stands_so s h c.args.version n c.args.most form stands c.in-Some.ensures.some c.in-Some.ensures.few)
    (result_is c.changes_since.result found c.args.most c.changes_since.ensures.entries c.changes_since.ensures.too_many)

pub returns-clause-len : goal.returns-clause-len
returns-clause-len g c =
    let layer : Records = c.layer-layer.result.now in
    few_answered c.changes_since.result
    (entries_since (newest c.in-Some.n c.self.inside.olds.lists)
    (records_of_bytes c.self.inside.olds.record_len c.count-count.result (bytes_of_records (slots layer.plan layer.records))))
    c.args.most c.changes_since.ensures.entries c.changes_since.ensures.too_many
