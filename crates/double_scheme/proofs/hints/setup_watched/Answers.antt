use Rattle.std.proofs.Common.{arith, ap, sym, ◌∙◌, ◌≡◌, ◌*◌}
use Rattle.matrix_u32.specs.Matrix.{WordMatrix}
use Rattle.matrix_u32.specs.Matrix.{transpose}
use Rattle.lane_kernels.specs.Digit.{split_count}
use Rattle.digit_pack.specs.Digits.{decomposed}
use Rattle.simple_scheme.specs.Simple.{hint_of}
use Rattle.double_scheme.proofs.Sizes.{few_kept}
use Rattle.double_scheme.proofs.hints.setup_watched.Goals as goal

pub returns-clause-server : goal.returns-clause-server
unfolding hint_of
returns-clause-server g c = λ digits a1 e h. c.in_ok-server.ensures ∙ ap (λ m. decomposed c.args.w (transpose m)) h
    ∙ ap (decomposed c.args.w) (c.product_transposes.ensures digits a1 e)

pub returns-clause-client : goal.returns-clause-client
unfolding hint_of
returns-clause-client g c = c.in_ok-client.ensures

pub setup_watched-requires-clause-size : goal.setup_watched-requires-clause-size
setup_watched-requires-clause-size g c =
    let rows : (g.S.DigitStore.digits c.in_ok-server.server).rows ≡ c.args.hint.now.cols * split_count c.args.w =
    ap (λ (m : WordMatrix). m.rows) c.in_ok-server.ensures in
    let few = few_kept c.args.w c.args.hint.now.cols c.args.a2.now.cols c.requires.width.0 c.requires.col_limit
    (omega (arith, c.requires.cols, c.requires.col_limit)) in
    rw rows (omega (arith, few))

pub returns-clause-server_sizes : goal.returns-clause-server_sizes
returns-clause-server_sizes g c = (
  ap (λ (m : WordMatrix). m.rows) c.in_ok-server.ensures ∙ ap (λ n. n * split_count c.args.w) (sym c.requires.cols),
  ap (λ (m : WordMatrix). m.cols) c.in_ok-server.ensures,
)

pub returns-clause-client_sizes : goal.returns-clause-client_sizes
unfolding hint_of
returns-clause-client_sizes g c = (
  ap (λ (m : WordMatrix). m.rows) c.in_ok-client.ensures ∙ ap (λ (m : WordMatrix). m.rows) c.in_ok-server.ensures
      ∙ ap (λ n. n * split_count c.args.w) (sym c.requires.cols),
  ap (λ (m : WordMatrix). m.cols) c.in_ok-client.ensures,
)
