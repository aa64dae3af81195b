use Rattle.std.proofs.Common.{ap, sym, ◌∙◌, ◌≡◌, ℕ, ℤ, List, length}
use Rattle.seed_expand.specs.Words.{source_rows}
use Rattle.matrix_u32.specs.Matrix.{WordMatrix, times_vector}
use Rattle.regev_core.specs.Encryption.{cipher, with_noise}
use Rattle.regev_core.proofs.Masking.{noise_on_products}
use Rattle.simple_scheme.specs.Buffers.{Masking}
use Rattle.simple_scheme.proofs.mask.Mask.encrypt_under.Goals as goal

pub returns-clause-words : goal.returns-clause-words
returns-clause-words g c =
    let m : ℕ = length c.args.out.now in
    let a : List ℕ → WordMatrix = λ (s : List ℕ). source_rows c.args.source m (length s) in
    let s : c.deref.result.now ≡ c.args.self.now.secret = c.deref.ensures.value ∙ ap (λ (x : Masking). x.secret) c.self.view_is in
    let e : c.deref-2.result.now ≡ c.args.self.now.noise = c.deref-2.ensures.value ∙ ap (λ (x : Masking). x.noise) c.self.view_is in
    c.add_noise.ensures
    ∙ ap (λ words. with_noise c.args.w words c.deref-2.result.now c.args.place) (c.expand_times.ensures.words ∙ ap (λ (s : List ℕ). times_vector (a s) s) s)
    ∙ ap (λ (e : List ℤ). with_noise c.args.w (times_vector (a c.args.self.now.secret) c.args.self.now.secret) e c.args.place) e
    ∙ noise_on_products c.args.w (a c.args.self.now.secret) c.args.self.now.secret c.args.self.now.noise c.args.place
