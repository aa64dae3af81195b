use Rattle.std.proofs.Common.{◌≡◌, ◌∙◌, ◌<◌, ◌^◌, All, ap, sym, subst, ℕ, List}
use Rattle.digit_pack.specs.Layout.{Shape, digit_matrix, records_in}
use Rattle.version_store.specs.declared.held_records.HeldRecords.{HeldRecords}
use Rattle.version_store.specs.HeldRecords.{bytes_held_by, HasShape}
use Rattle.version_store.proofs.held_records.HeldRecords.into_digits.Goals as goal

pub returns-in_err-digits-in-Bytes-clause-small : goal.returns-in_err-digits-in-Bytes-clause-small
returns-in_err-digits-in-Bytes-clause-small c =
    subst (All (λ x. x < 2 ^ 8)) (c.deref.ensures.value ∙ sym (ap bytes_held_by c.in-Bytes.is)) c.digits_of.ensures.small

pub returns-in_ok-digits-in-Bytes-clause-small : goal.returns-in_ok-digits-in-Bytes-clause-small
returns-in_ok-digits-in-Bytes-clause-small c =
    subst (All (λ x. x < 2 ^ 8)) (c.deref.ensures.value ∙ sym (ap bytes_held_by c.in-Bytes.is)) c.digits_of.ensures.small

pub returns-in_ok-digits-in-Bytes-clause-digits : goal.returns-in_ok-digits-in-Bytes-clause-digits
returns-in_ok-digits-in-Bytes-clause-digits c =
    c.in_ok-digits-in-Bytes.ensures.digits
    ∙ ap (λ (b : List ℕ). digit_matrix c.args.layout.now (records_in c.args.layout.now b)) (c.deref.ensures.value ∙ sym (ap bytes_held_by c.in-Bytes.is))

pub returns-in-Digits-clause-digits : goal.returns-in-Digits-clause-digits
returns-in-Digits-clause-digits c =
    let l : Shape = c.args.layout.now in
    let same : c.in-Digits.records.shape ≡ l = subst (HasShape l) c.in-Digits.is c.requires.shape in
    c.into_digits.ensures.digits
    ∙ ap (λ (s : Shape). digit_matrix s (records_in s c.in-Digits.records.bytes)) same
    ∙ ap (λ (h : HeldRecords). digit_matrix l (records_in l (bytes_held_by h))) (sym c.in-Digits.is)
