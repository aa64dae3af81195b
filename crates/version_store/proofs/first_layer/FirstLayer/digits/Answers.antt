use Rattle.std.proofs.Common.{ap, ◌∙◌}
use Rattle.digit_pack.specs.Layout.{digit_rows, digit_cols}
use Rattle.pir_schemes.specs.Plans.{digits_at}
use Rattle.version_store.specs.Editions.{Records, version_shape}
use Rattle.version_store.proofs.first_layer.FirstLayer.digits.Goals as goal

pub returns-clause-value : goal.returns-clause-value
returns-clause-value c = c.self.invariant.made.digits_are ∙ ap (λ (e : Records). digits_at e.plan e.records) c.self.view_is

pub returns-clause-rows : goal.returns-clause-rows
returns-clause-rows c = ap (λ m. m.rows) c.self.invariant.made.digits_are ∙ ap (λ e. digit_rows (version_shape e)) c.self.view_is

pub returns-clause-cols : goal.returns-clause-cols
returns-clause-cols c = ap (λ m. m.cols) c.self.invariant.made.digits_are ∙ ap (λ e. digit_cols (version_shape e)) c.self.view_is
