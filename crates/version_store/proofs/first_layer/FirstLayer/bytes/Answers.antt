use Rattle.std.proofs.Common.{◌≡◌, ap, ◌∙◌, sym, false}
use Rattle.digit_pack.specs.Layout.{is_wide}
use Rattle.pir_schemes.specs.Plans.{slots}
use Rattle.version_store.specs.Editions.{Records, bytes_held}
use Rattle.version_store.specs.Openings.{bytes_of_records}
use Rattle.version_store.proofs.KeptBytes.{held_ordinary}
use Rattle.version_store.proofs.RecordBytes.{joined_records}
use Rattle.version_store.proofs.first_layer.FirstLayer.bytes.Goals as goal

pub returns : goal.returns
returns c =
    let ordinary : is_wide c.self.inside.plan.form ≡ false = ap (λ (e : Records). is_wide e.plan.form) c.self.view_is ∙ c.requires in
    c.deref.ensures.value
    ∙ sym (held_ordinary c.self.inside.plan c.self.inside.layout c.self.inside.kept.items c.self.inside.digits ordinary)
    ∙ sym (joined_records c.self.inside.layout
    (bytes_held c.self.inside.plan c.self.inside.layout c.self.inside.kept.items c.self.inside.digits) c.self.invariant.made.count)
    ∙ ap bytes_of_records (sym c.self.invariant.made.slots_are)
    ∙ ap (λ e. bytes_of_records (slots e.plan e.records)) c.self.view_is
