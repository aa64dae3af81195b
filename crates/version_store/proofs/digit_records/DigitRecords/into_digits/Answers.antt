use Rattle.std.proofs.Common.{◌≡◌, ◌∙◌, ◌*◌, ◌<◌, ◌^◌, All, ap, sym, subst, length}
use Rattle.digit_pack.specs.Layout.{digit_matrix, records_in}
use Rattle.version_store.specs.KeptRecords.{KeptRecords}
use Rattle.version_store.proofs.KeptDigits.{made_whole}
use Rattle.version_store.proofs.digit_records.DigitRecords.into_digits.Goals as goal

pub returns-clause-digits : goal.returns-clause-digits
returns-clause-digits c =
    made_whole c.self.inside.layout c.self.inside.taken c.self.inside.digits c.self.invariant
    (subst (λ (v : KeptRecords). length v.bytes ≡ v.shape.count * v.shape.record_len) (sym c.self.view_is) c.requires)
    ∙ ap (λ (v : KeptRecords). digit_matrix v.shape (records_in v.shape v.bytes)) c.self.view_is

pub returns-clause-small : goal.returns-clause-small
returns-clause-small c = subst (λ (v : KeptRecords). All (λ b. b < 2 ^ 8) v.bytes) c.self.view_is c.self.invariant.small
