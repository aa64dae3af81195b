use Rattle.std.proofs.Common.{◌≡◌, arith, ap, sym, ◌∙◌, ◌<◌, ℕ, List, length, false}
use Rattle.digit_pack.specs.Layout.{is_wide, record_at, records_in}
use Rattle.pir_schemes.specs.Plans.{content, is_slot_of}
use Rattle.version_store.specs.Editions.{Records, bytes_held}
use Rattle.version_store.proofs.KeptBytes.{held_ordinary}
use Rattle.version_store.proofs.Slotted.{slot_at, held_at}
use Rattle.version_store.proofs.Versions.{long_held}
use Rattle.version_store.proofs.first_layer.FirstLayer.record.Goals as goal

pub nth_record-requires-clause-count : goal.nth_record-requires-clause-count
nth_record-requires-clause-count c =
    let ordinary : is_wide c.self.inside.plan.form ≡ false = ap (λ (e : Records). is_wide e.plan.form) c.self.view_is ∙ c.requires.ordinary in
    ap length (c.deref.ensures.value ∙ sym (held_ordinary c.self.inside.plan c.self.inside.layout c.self.inside.kept.items c.self.inside.digits ordinary))
    ∙ c.self.invariant.made.count

pub nth_record-requires-clause-index : goal.nth_record-requires-clause-index
nth_record-requires-clause-index c =
    omega (arith, c.requires.index, ap (λ e. length e.records) c.self.view_is, long_held c.self.inside.plan c.self.inside.layout.count (bytes_held c.self.inside.plan c.self.inside.layout c.self.inside.kept.items c.self.inside.digits))

pub content-requires : goal.content-requires
content-requires c =
    let bytes : List ℕ = bytes_held c.self.inside.plan c.self.inside.layout c.self.inside.kept.items c.self.inside.digits in
    let ordinary : is_wide c.self.inside.plan.form ≡ false = ap (λ (e : Records). is_wide e.plan.form) c.self.view_is ∙ c.requires.ordinary in
    let held = held_ordinary c.self.inside.plan c.self.inside.layout c.self.inside.kept.items c.self.inside.digits ordinary in
    let inside : c.args.i < c.self.inside.layout.count =
    omega (arith, c.requires.index, ap (λ e. length e.records) c.self.view_is, long_held c.self.inside.plan c.self.inside.layout.count bytes) in
    let nth : List ℕ → List ℕ = λ b. record_at (records_in c.self.inside.layout b) c.args.i in
    ap (is_slot_of c.self.inside.plan) (c.nth_record.ensures.value ∙ ap nth (c.deref.ensures.value ∙ sym held))
    ∙ slot_at c.self.inside.plan c.self.inside.layout bytes c.args.i c.self.invariant.made.good inside

pub returns : goal.returns
returns c =
    let bytes : List ℕ = bytes_held c.self.inside.plan c.self.inside.layout c.self.inside.kept.items c.self.inside.digits in
    let ordinary : is_wide c.self.inside.plan.form ≡ false = ap (λ (e : Records). is_wide e.plan.form) c.self.view_is ∙ c.requires.ordinary in
    let held = held_ordinary c.self.inside.plan c.self.inside.layout c.self.inside.kept.items c.self.inside.digits ordinary in
    let inside : c.args.i < c.self.inside.layout.count =
    omega (arith, c.requires.index, ap (λ e. length e.records) c.self.view_is, long_held c.self.inside.plan c.self.inside.layout.count bytes) in
    let nth : List ℕ → List ℕ = λ b. record_at (records_in c.self.inside.layout b) c.args.i in
    c.content.ensures
    ∙ ap (content c.self.inside.plan) (c.nth_record.ensures.value ∙ ap nth (c.deref.ensures.value ∙ sym held))
    ∙ sym (held_at c.self.inside.plan c.self.inside.layout bytes c.args.i c.self.invariant.made.sizes inside)
    ∙ ap (λ (e : Records). record_at e.records c.args.i) c.self.view_is
