use Rattle.std.proofs.Common.{ap, ◌∙◌, arith, ◌≡◌}
use Rattle.digit_pack.specs.Layout.{digit_rows}
use Rattle.matrix_u32.specs.Matrix.{WordMatrix}
use Rattle.simple_scheme.specs.Simple.{hint_of}
use Rattle.pir_schemes.specs.Retrievals.{hint_matrix}
use Rattle.version_store.specs.Editions.{version_shape}
use Rattle.version_store.proofs.store.Store.hint_row.Goals as goal

pub row-requires : goal.row-requires
unfolding hint_matrix hint_of
row-requires g c =
    let rows : c.hint.result.now.rows ≡ digit_rows (version_shape c.args.self.now.edition) =
    ap (λ (m : WordMatrix). m.rows) c.hint.ensures ∙ ap (λ s. digit_rows (version_shape s.edition)) c.self.view_is in
    omega (arith, rows, c.requires)

pub returns-clause-count : goal.returns-clause-count
unfolding hint_matrix hint_of
returns-clause-count g c =
    c.row.ensures.count ∙ ap (λ (m : WordMatrix). m.cols) c.hint.ensures ∙ ap (λ s. s.edition.plan.dimension) c.self.view_is
