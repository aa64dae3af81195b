use Rattle.std.proofs.Common.{ap, ◌∙◌, sym, subst, length}
use Rattle.digit_pack.specs.Layout.{IsLayout}
use Rattle.pir_schemes.specs.Plans.{IsPlan}
use Rattle.version_store.specs.Editions.{version_shape, bytes_held}
use Rattle.version_store.proofs.Versions.{shape_again}
use Rattle.version_store.proofs.first_layer.FirstLayer.layout.Goals as goal

pub returns-clause-value : goal.returns-clause-value
returns-clause-value c =
    sym (shape_again c.self.inside.plan c.self.inside.layout (bytes_held c.self.inside.plan c.self.inside.layout c.self.inside.kept.items c.self.inside.digits) c.self.invariant.made.sizes) ∙ ap version_shape c.self.view_is

pub returns-clause-plan : goal.returns-clause-plan
returns-clause-plan c =
    subst (λ e. IsPlan e.plan (length e.records)) c.self.view_is (record {
      form = c.self.invariant.made.form;
      layout = subst IsLayout (sym (shape_again c.self.inside.plan c.self.inside.layout (bytes_held c.self.inside.plan c.self.inside.layout c.self.inside.kept.items c.self.inside.digits) c.self.invariant.made.sizes))
          c.self.invariant.made.layout;
      low = c.self.invariant.made.low;
      high = c.self.invariant.made.high;
    })
