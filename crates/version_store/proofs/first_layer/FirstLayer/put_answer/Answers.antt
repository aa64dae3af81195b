use Rattle.std.proofs.Common.{ap, ◌∙◌}
use Rattle.matrix_u32.specs.Matrix.{WordMatrix, times_vector}
use Rattle.simple_scheme.specs.Simple.{simple_answer}
use Rattle.pir_schemes.specs.Plans.{digits_at}
use Rattle.pir_schemes.specs.Retrievals.{answer_words}
use Rattle.version_store.specs.Editions.{Records}
use Rattle.version_store.proofs.first_layer.FirstLayer.put_answer.Goals as goal

pub returns : goal.returns
unfolding answer_words simple_answer
returns g c =
    c.mul_vec.ensures
    ∙ ap (λ (d : WordMatrix). times_vector d c.args.words.now) c.self.invariant.made.digits_are
    ∙ ap (λ (e : Records). times_vector (digits_at e.plan e.records) c.args.words.now) c.self.view_is
