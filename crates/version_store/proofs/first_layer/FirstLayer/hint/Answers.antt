use Rattle.std.proofs.Common.{ap, ◌∙◌}
use Rattle.digit_pack.specs.Layout.{digit_rows}
use Rattle.simple_scheme.specs.Simple.{hint_of}
use Rattle.pir_schemes.specs.Retrievals.{hint_matrix}
use Rattle.version_store.specs.Editions.{version_shape}
use Rattle.version_store.proofs.first_layer.FirstLayer.hint.Goals as goal

pub returns-clause-rows : goal.returns-clause-rows
unfolding hint_matrix hint_of
returns-clause-rows c = ap (λ m. m.rows) c.self.invariant.made.hint_is ∙ ap (λ e. digit_rows (version_shape e)) c.self.view_is

pub returns-clause-cols : goal.returns-clause-cols
unfolding hint_matrix hint_of
returns-clause-cols c = ap (λ m. m.cols) c.self.invariant.made.hint_is ∙ ap (λ e. e.plan.dimension) c.self.view_is
