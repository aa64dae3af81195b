use Rattle.std.proofs.Common.{ap, ◌∙◌}
use Rattle.digit_pack.specs.Packed.{packed}
use Rattle.pir_schemes.specs.Plans.{digits_at}
use Rattle.version_store.specs.Editions.{Records}
use Rattle.version_store.proofs.edition.Edition.digit_words.Goals as goal

pub returns : goal.returns
returns g c = c.words.ensures ∙ ap packed (c.digits.ensures.value ∙ ap (λ (e : Records). digits_at e.plan e.records) c.self.view_is)
