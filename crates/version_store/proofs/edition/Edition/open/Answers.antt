use Rattle.std.proofs.Common.{ap, ◌∙◌, sym, refl, ◌≡◌, ◌≤◌, arith}
use Rattle.matrix_u32.specs.Matrix.{WordMatrix, product}
use Rattle.seed_expand.specs.Words.{public_rows}
use Rattle.digit_pack.specs.Layout.{digit_rows}
use Rattle.simple_scheme.specs.Simple.{hint_of}
use Rattle.double_scheme.specs.Double.{server_hint_of}
use Rattle.double_scheme.proofs.Sizes.{few_across}
use Rattle.digit_pack.proofs.Limits.{few_rows}
use Rattle.pir_schemes.specs.Plans.{digits_at, first_public, second_public}
use Rattle.version_store.specs.Editions.{Records, version_shape}
use Rattle.version_store.proofs.DoubleLemmas.{made_of, simple_hint}
use Rattle.version_store.proofs.edition.Edition.open.Goals as goal

pub invariant_of-result : goal.invariant_of-result
unfolding hint_of
invariant_of-result g c =
    let e : Records = c.in_ok-layer.layer in
    let a2 : WordMatrix = c.in_ok-a2.a2 in
    let rows : c.rows.result ≡ digit_rows (version_shape e) = c.rows.ensures.value ∙ ap digit_rows c.layout-layout.ensures.value in
    let public : a2 ≡ second_public (version_shape e) e.plan.dimension e.plan.seed =
    c.in_ok-a2.ensures ∙ ap (λ r. public_rows c.args.plan.seed 1 0 r c.from-dimension.result) rows
    ∙ ap (λ n. public_rows c.args.plan.seed 1 0 (digit_rows (version_shape e)) n) c.from-dimension.ensures
    ∙ ap (λ p. public_rows p.seed 1 0 (digit_rows (version_shape e)) p.dimension) (sym (ap (λ e. e.plan) c.in_ok-layer.ensures)) in
    let width : c.width.result ≡ e.plan.width = c.width.ensures.value ∙ ap (λ l. l.width) c.layout-layout.ensures.value in
    let digits : WordMatrix = digits_at e.plan e.records in
    let a1 : WordMatrix = first_public (version_shape e) e.plan.dimension e.plan.seed in
    let server : c.in_ok-server.server ≡ server_hint_of e.plan.width digits a1 =
    c.in_ok-server.ensures.server digits a1 refl (c.hint.ensures.value ∙ simple_hint e) ∙ ap (λ w. server_hint_of w digits a1) width in (
      made_of e a2 c.in_ok-server.server c.in_ok-server.client public (record {
        server = server;
        client = c.in_ok-server.ensures.client ∙ ap (λ m. product m a2) server;
      }),
      c.none.ensures _,
    )

pub setup_watched-requires-clause-room : goal.setup_watched-requires-clause-room
setup_watched-requires-clause-room g c =
    let e : Records = c.in_ok-layer.layer in
    let ok = c.layout-layout.ensures.plan in
    let low : c.hint.result.now.cols ≤ 1024 = omega (arith, c.hint.ensures.cols, ok.high) in
    let short : c.hint.result.now.rows ≤ 32768 = omega (arith, c.hint.ensures.rows, few_rows (version_shape e) ok.layout) in
    let six : 6 ≤ c.width.result = omega (arith, c.width.ensures.value, c.width.ensures.layout.width.0) in
    omega (arith, few_across c.width.result c.hint.result.now.cols c.hint.result.now.rows six low short)
