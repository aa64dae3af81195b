use Rattle.std.proofs.Common.{◌≡◌, ◌∙◌, ◌*◌, ap, sym, subst, ℕ}
use Rattle.matrix_u32.specs.Matrix.{WordMatrix}
use Rattle.lane_kernels.specs.Digit.{split_count}
use Rattle.digit_pack.specs.Layout.{Shape, digit_rows}
use Rattle.version_store.specs.Editions.{Records, version_shape}
use Rattle.version_store.specs.Preparing.{IsMakingFor}
use Rattle.version_store.proofs.DoubleLemmas.{server_rows, server_cols}
use Rattle.version_store.proofs.preparing.Preparation.stepped.Goals as goal

pub step-whole-requires-clause-server_rows : goal.step-whole-requires-clause-server_rows
step-whole-requires-clause-server_rows g c =
    let e : Records = c.args.layer.now in
    let shape : c.in-Double.steps.layout ≡ version_shape e = (subst (IsMakingFor e c.args.self.query.items) c.in-Double.is c.requires.so_far).1 in
    ap (λ (m : WordMatrix). m.rows) c.requires.made.1.server_is ∙ server_rows e
    ∙ ap (λ n. n * split_count e.plan.width) (sym (ap (λ (m : WordMatrix). m.cols) c.requires.made.1.second_is))
    ∙ ap (λ (l : Shape). c.args.a2.now.cols * split_count l.width) (sym shape)

pub step-whole-requires-clause-server_cols : goal.step-whole-requires-clause-server_cols
step-whole-requires-clause-server_cols g c =
    let e : Records = c.args.layer.now in
    let shape : c.in-Double.steps.layout ≡ version_shape e = (subst (IsMakingFor e c.args.self.query.items) c.in-Double.is c.requires.so_far).1 in
    ap (λ (m : WordMatrix). m.cols) c.requires.made.1.server_is ∙ server_cols e ∙ ap digit_rows (sym shape)
