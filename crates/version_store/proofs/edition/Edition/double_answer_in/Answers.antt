use Rattle.std.proofs.Common.{ap, ◌∙◌, sym, ◌*◌, ℕ, List}
use Rattle.matrix_u32.specs.Matrix.{WordMatrix}
use Rattle.lane_kernels.specs.Digit.{split_count}
use Rattle.digit_pack.specs.Layout.{Shape, digit_rows}
use Rattle.double_scheme.specs.Double.{double_answer}
use Rattle.pir_schemes.specs.Plans.{digits_at, second_public}
use Rattle.pir_schemes.specs.Retrievals.{server_hint, answer_words}
use Rattle.version_store.specs.Editions.{Records, version_shape}
use Rattle.version_store.proofs.DoubleLemmas.{server_rows, server_cols}
use Rattle.version_store.proofs.edition.Edition.double_answer_in.Goals as goal

pub fill-requires-clause-server_rows : goal.fill-requires-clause-server_rows
fill-requires-clause-server_rows g c =
    ap (λ (m : WordMatrix). m.rows) c.self.invariant.0.server_is ∙ server_rows c.self.inside.layer
    ∙ ap (λ (v : Records). v.plan.dimension * split_count v.plan.width) c.self.view_is
    ∙ ap (λ n. n * split_count c.args.self.now.plan.width) (sym c.requires.dimension)
    ∙ ap (λ (l : Shape). c.args.room.dimension * split_count l.width) (sym c.requires.layout)

pub fill-requires-clause-server_cols : goal.fill-requires-clause-server_cols
fill-requires-clause-server_cols g c =
    ap (λ (m : WordMatrix). m.cols) c.self.invariant.0.server_is ∙ server_cols c.self.inside.layer
    ∙ ap (λ (v : Records). digit_rows (version_shape v)) c.self.view_is ∙ ap digit_rows (sym c.requires.layout)

pub returns : goal.returns
unfolding answer_words
returns g c =
    let e : Records = c.self.inside.layer in
    let words : List ℕ = c.args.words.now in
    c.fill.ensures.words
    ∙ ap (λ (l : Shape). double_answer l c.digits-digits.result.now c.self.inside.server c.self.inside.a2 words) c.requires.layout
    ∙ ap (λ (v : Records). double_answer (version_shape v) c.digits-digits.result.now c.self.inside.server c.self.inside.a2 words) (sym c.self.view_is)
    ∙ ap (λ (d : WordMatrix). double_answer (version_shape e) d c.self.inside.server c.self.inside.a2 words) c.digits-digits.ensures.value
    ∙ ap (λ (s : WordMatrix). double_answer (version_shape e) (digits_at e.plan e.records) s c.self.inside.a2 words) c.self.invariant.0.server_is
    ∙ ap (λ (a : WordMatrix). double_answer (version_shape e) (digits_at e.plan e.records) (server_hint e.plan e.records) a words) c.self.invariant.0.second_is
    ∙ ap (λ (v : Records). double_answer (version_shape v) (digits_at v.plan v.records) (server_hint v.plan v.records)
    (second_public (version_shape v) v.plan.dimension v.plan.seed) words) c.self.view_is
