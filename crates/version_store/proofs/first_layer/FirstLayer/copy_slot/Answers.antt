use Rattle.std.proofs.Common.{◌≡◌, ap, sym, ◌∙◌, ℕ, List, length, false}
use Rattle.digit_pack.specs.Layout.{is_wide, digit_cols, record_at, records_in}
use Rattle.pir_schemes.specs.Plans.{content, is_slot_of}
use Rattle.version_store.specs.Editions.{bytes_held}
use Rattle.version_store.proofs.KeptBytes.{held_ordinary, record_there, inside, record_read, place_is, slot_is, content_is}
use Rattle.version_store.proofs.Versions.{shape_again}
use Rattle.version_store.proofs.first_layer.FirstLayer.copy_slot.Goals as goal

pub copy_record-requires-clause-cols : goal.copy_record-requires-clause-cols
copy_record-requires-clause-cols c =
    ap (λ m. m.cols) c.self.invariant.made.digits_are
    ∙ ap digit_cols (shape_again c.self.inside.plan c.self.inside.layout (bytes_held c.self.inside.plan c.self.inside.layout c.self.inside.kept.items c.self.inside.digits) c.self.invariant.made.sizes)

pub copy_record-requires-clause-index : goal.copy_record-requires-clause-index
copy_record-requires-clause-index c =
    inside c.self.inside.plan c.self.inside.layout (bytes_held c.self.inside.plan c.self.inside.layout c.self.inside.kept.items c.self.inside.digits)
    c.self.inside.a1 c.self.inside.digits c.self.inside.hint c.self.invariant.made c.self.invariant.small
    c.args.self.now c.args.i c.self.view_is c.requires.index

pub copy_record-requires-clause-record : goal.copy_record-requires-clause-record
copy_record-requires-clause-record c =
    record_there c.self.inside.plan c.self.inside.layout (bytes_held c.self.inside.plan c.self.inside.layout c.self.inside.kept.items c.self.inside.digits)
    c.self.inside.a1 c.self.inside.digits c.self.inside.hint c.self.invariant.made c.self.invariant.small c.args.i
    (inside c.self.inside.plan c.self.inside.layout (bytes_held c.self.inside.plan c.self.inside.layout c.self.inside.kept.items c.self.inside.digits)
    c.self.inside.a1 c.self.inside.digits c.self.inside.hint c.self.invariant.made c.self.invariant.small
    c.args.self.now c.args.i c.self.view_is c.requires.index)

pub nth_record-requires-clause-count : goal.nth_record-requires-clause-count
nth_record-requires-clause-count c =
    let ordinary : is_wide c.self.inside.plan.form ≡ false = sym c.is_wide.ensures ∙ c.if-is_wide.false in
    ap length (c.deref.ensures.value ∙ sym (held_ordinary c.self.inside.plan c.self.inside.layout c.self.inside.kept.items c.self.inside.digits ordinary))
    ∙ c.self.invariant.made.count

pub nth_record-requires-clause-index : goal.nth_record-requires-clause-index
nth_record-requires-clause-index c =
    inside c.self.inside.plan c.self.inside.layout (bytes_held c.self.inside.plan c.self.inside.layout c.self.inside.kept.items c.self.inside.digits)
    c.self.inside.a1 c.self.inside.digits c.self.inside.hint c.self.invariant.made c.self.invariant.small
    c.args.self.now c.args.i c.self.view_is c.requires.index

pub returns-then-is_wide-clause-place : goal.returns-then-is_wide-clause-place
returns-then-is_wide-clause-place c =
    (c.copy_record.ensures ∙ record_read c.self.inside.plan c.self.inside.layout (bytes_held c.self.inside.plan c.self.inside.layout c.self.inside.kept.items c.self.inside.digits)
    c.self.inside.a1 c.self.inside.digits c.self.inside.hint c.self.invariant.made c.self.invariant.small
    c.args.self.now c.args.i c.self.view_is c.requires.index)
    ∙ place_is c.self.inside.plan c.self.inside.layout (bytes_held c.self.inside.plan c.self.inside.layout c.self.inside.kept.items c.self.inside.digits)
    c.self.inside.a1 c.self.inside.digits c.self.inside.hint c.self.invariant.made c.self.invariant.small
    c.args.self.now c.args.i c.self.view_is c.requires.index

pub returns-then-is_wide-clause-slot : goal.returns-then-is_wide-clause-slot
returns-then-is_wide-clause-slot c =
    ap (is_slot_of c.args.self.now.plan) (c.copy_record.ensures ∙ record_read c.self.inside.plan c.self.inside.layout (bytes_held c.self.inside.plan c.self.inside.layout c.self.inside.kept.items c.self.inside.digits)
    c.self.inside.a1 c.self.inside.digits c.self.inside.hint c.self.invariant.made c.self.invariant.small
    c.args.self.now c.args.i c.self.view_is c.requires.index)
    ∙ slot_is c.self.inside.plan c.self.inside.layout (bytes_held c.self.inside.plan c.self.inside.layout c.self.inside.kept.items c.self.inside.digits)
    c.self.inside.a1 c.self.inside.digits c.self.inside.hint c.self.invariant.made c.self.invariant.small
    c.args.self.now c.args.i c.self.view_is c.requires.index

pub returns-then-is_wide-clause-content : goal.returns-then-is_wide-clause-content
returns-then-is_wide-clause-content c =
    ap (content c.args.self.now.plan) (c.copy_record.ensures ∙ record_read c.self.inside.plan c.self.inside.layout (bytes_held c.self.inside.plan c.self.inside.layout c.self.inside.kept.items c.self.inside.digits)
    c.self.inside.a1 c.self.inside.digits c.self.inside.hint c.self.invariant.made c.self.invariant.small
    c.args.self.now c.args.i c.self.view_is c.requires.index)
    ∙ content_is c.self.inside.plan c.self.inside.layout (bytes_held c.self.inside.plan c.self.inside.layout c.self.inside.kept.items c.self.inside.digits)
    c.self.inside.a1 c.self.inside.digits c.self.inside.hint c.self.invariant.made c.self.invariant.small
    c.args.self.now c.args.i c.self.view_is c.requires.index

pub returns-else-is_wide-clause-place : goal.returns-else-is_wide-clause-place
returns-else-is_wide-clause-place c =
    let ordinary : is_wide c.self.inside.plan.form ≡ false = sym c.is_wide.ensures ∙ c.if-is_wide.false in
    let nth : List ℕ → List ℕ = λ b. record_at (records_in c.self.inside.layout b) c.args.i in
    (c.copy_from_slice.ensures.after ∙ c.nth_record.ensures.value
    ∙ ap nth (c.deref.ensures.value ∙ sym (held_ordinary c.self.inside.plan c.self.inside.layout c.self.inside.kept.items c.self.inside.digits ordinary)))
    ∙ place_is c.self.inside.plan c.self.inside.layout (bytes_held c.self.inside.plan c.self.inside.layout c.self.inside.kept.items c.self.inside.digits)
    c.self.inside.a1 c.self.inside.digits c.self.inside.hint c.self.invariant.made c.self.invariant.small
    c.args.self.now c.args.i c.self.view_is c.requires.index

pub returns-else-is_wide-clause-slot : goal.returns-else-is_wide-clause-slot
returns-else-is_wide-clause-slot c =
    let ordinary : is_wide c.self.inside.plan.form ≡ false = sym c.is_wide.ensures ∙ c.if-is_wide.false in
    let nth : List ℕ → List ℕ = λ b. record_at (records_in c.self.inside.layout b) c.args.i in
    ap (is_slot_of c.args.self.now.plan) (c.copy_from_slice.ensures.after ∙ c.nth_record.ensures.value
    ∙ ap nth (c.deref.ensures.value ∙ sym (held_ordinary c.self.inside.plan c.self.inside.layout c.self.inside.kept.items c.self.inside.digits ordinary)))
    ∙ slot_is c.self.inside.plan c.self.inside.layout (bytes_held c.self.inside.plan c.self.inside.layout c.self.inside.kept.items c.self.inside.digits)
    c.self.inside.a1 c.self.inside.digits c.self.inside.hint c.self.invariant.made c.self.invariant.small
    c.args.self.now c.args.i c.self.view_is c.requires.index

pub returns-else-is_wide-clause-content : goal.returns-else-is_wide-clause-content
returns-else-is_wide-clause-content c =
    let ordinary : is_wide c.self.inside.plan.form ≡ false = sym c.is_wide.ensures ∙ c.if-is_wide.false in
    let nth : List ℕ → List ℕ = λ b. record_at (records_in c.self.inside.layout b) c.args.i in
    ap (content c.args.self.now.plan) (c.copy_from_slice.ensures.after ∙ c.nth_record.ensures.value
    ∙ ap nth (c.deref.ensures.value ∙ sym (held_ordinary c.self.inside.plan c.self.inside.layout c.self.inside.kept.items c.self.inside.digits ordinary)))
    ∙ content_is c.self.inside.plan c.self.inside.layout (bytes_held c.self.inside.plan c.self.inside.layout c.self.inside.kept.items c.self.inside.digits)
    c.self.inside.a1 c.self.inside.digits c.self.inside.hint c.self.invariant.made c.self.invariant.small
    c.args.self.now c.args.i c.self.view_is c.requires.index
