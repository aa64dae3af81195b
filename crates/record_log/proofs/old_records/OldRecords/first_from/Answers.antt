use Rattle.std.proofs.Common.{◌≡◌, ℕ, ◌<◌, ◌≤◌, List, ap, ◌∙◌, sym, subst, arith, IfSome, Option, false}
use Rattle.std.specs.Prelude.{slice_get}
use Rattle.record_log.specs.OldRecords.{OldBytes, first_from, has_old}
use Rattle.record_log.proofs.Olds.{IsPlaceOf, at_place, copied_is, first_in, none_between}
use Rattle.record_log.proofs.old_records.OldRecords.first_from.Goals as goal

is_place : (c : goal.After-copied) → IsPlaceOf c.self.inside.numbers.items c.args.least c.place_of-k.result
is_place c = subst (λ (xs : List ℕ). IsPlaceOf xs c.args.least c.place_of-k.result) c.deref.ensures.value
    (record { less = c.place_of-k.ensures.less; others = c.place_of-k.ensures.others })

found : (c : goal.After-copied) → c.copied.result ≡ slice_get c.self.inside.numbers.items c.place_of-k.result
found c =
    c.copied.ensures
    ∙ copied_is c.deref-2.result.now c.place_of-k.result c.get.result c.get.ensures.lookup.3
    ∙ ap (λ (xs : List ℕ). slice_get xs c.place_of-k.result) c.deref-2.ensures.value

pub returns-clause-value : goal.returns-clause-value
returns-clause-value c =
    let o = c.self.inside in
    found c
    ∙ sym (first_in o.record_len o.numbers.items o.bytes.items c.args.least c.place_of-k.result (is_place c))
    ∙ ap (λ (v : OldBytes). first_from v.records c.args.least) c.self.view_is

pub returns-clause-low : goal.returns-clause-low
returns-clause-low c =
    let P : ℕ → Type 0 = λ number. c.args.least ≤ number in
    subst (λ (r : Option ℕ). IfSome r P) (sym (found c))
    (at_place c.self.inside.numbers.items c.place_of-k.result P (λ h. (is_place c).others c.place_of-k.result (omega arith) h))

pub returns-clause-before : goal.returns-clause-before
returns-clause-before c =
    let o = c.self.inside in
    let P : ℕ → Type 0 = λ number. (i : ℕ) → c.args.least ≤ i → i < number → has_old c.args.self.now.records i ≡ false in
    subst (λ (r : Option ℕ). IfSome r P) (sym (found c))
    (at_place o.numbers.items c.place_of-k.result P (λ h i from below.
    ap (λ (v : OldBytes). has_old v.records i) (sym c.self.view_is)
    ∙ none_between o.record_len o.numbers.items o.bytes.items c.args.least c.place_of-k.result c.self.invariant.1 (is_place c) i from below))
