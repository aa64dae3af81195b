use Rattle.std.proofs.Common.{◌≡◌, ◌∙◌, ◌<◌, ◌*◌, ◌^◌, ap, sym, arith, ℕ, List, All, length}
use Rattle.std.proofs.lemmas.List.Elements.{All-from_get_or}
use Rattle.digit_pack.specs.Layout.{digit_matrix, records_in}
use Rattle.version_store.specs.KeptRecords.{KeptRecords, counted}
use Rattle.version_store.proofs.KeptDigits.{is_kept, bytes_back}
use Rattle.version_store.proofs.digit_records.DigitRecords.from_bytes.Goals as goal

module _ (c : goal.After-count-taken) where
  small : All (λ x. x < 2 ^ 8) c.args.bytes.now
  small = All-from_get_or (λ x. x < 2 ^ 8) c.args.bytes.now 0 (λ i _. (c.type_inv.bytes i).fits)

  made : c.in_ok-digits.digits ≡ digit_matrix c.args.layout (records_in (counted c.args.layout c.count-taken.result) c.args.bytes.now)
  made =
      c.in_ok-digits.ensures
      ∙ ap (λ (n : ℕ). digit_matrix c.args.layout (records_in (counted c.args.layout n) c.args.bytes.now)) (sym c.count-taken.ensures.value)

  long : length c.args.bytes.now ≡ c.count-taken.result * c.args.layout.record_len
  long = c.requires ∙ ap (λ (n : ℕ). n * c.args.layout.record_len) (sym c.count-taken.ensures.value)

pub invariant_of-result : goal.invariant_of-result
invariant_of-result c =
    is_kept c.args.layout c.count-taken.result c.args.bytes.now c.count-taken.ensures.layout (omega (arith, c.count-taken.ensures.value)) (long c) (small c)
    c.in_ok-digits.digits (made c)

pub returns : goal.returns
returns c =
    let of : List ℕ → KeptRecords = λ b. record { shape = c.args.layout; bytes = b } in
    ap of (bytes_back c.args.layout c.count-taken.result c.args.bytes.now c.count-taken.ensures.layout (omega (arith, c.count-taken.ensures.value)) (long c)
    (small c) c.in_ok-digits.digits (made c))
