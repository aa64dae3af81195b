-- Records, read out of their digits.
use Rattle.std.proofs.Common.{◌≡◌, ℕ, ◌+◌, ◌<◌, ◌^◌, ap, ◌∙◌, sym, subst, List, []}
use Rattle.std.proofs.lemmas.List.FromFn.{fill_by_all}
use Rattle.std.specs.Prelude.{All}
use Rattle.matrix_u32.specs.Matrix.{entry}
use Rattle.matrix_u32.proofs.Products.{same-list_of}
use Rattle.lane_kernels.specs.Digit.{digit}
use Rattle.digit_pack.specs.Digits.{number_of}
use Rattle.digit_pack.specs.Layout.{Shape, IsShape, FitsRecord, digit_matrix, digits_per_record, first_row, column_of, record_at, record_bytes, record_digits}
use Rattle.digit_pack.specs.Laws.{PacksAndUnpacks}
use Rattle.digit_pack.specs.Held.{digits_in_place, record_in_digits, AreRecords, HoldsRecords}
use Rattle.digit_pack.proofs.Records.{entry-record, unpack-pack}

-- the digits in a record's place are its own
pub digits_back : (l : Shape) (records : List (List ℕ)) (i : ℕ) → IsShape l → i < l.count →
    digits_in_place l (digit_matrix l records) i ≡ record_digits l (record_at records i)
digits_back l records i s inside =
    same-list_of (digits_per_record l) (λ d. entry (digit_matrix l records) (first_row l i + d) (column_of l i))
    (λ t. digit l.width (number_of 8 (record_at records i)) t)
    (λ t lt. entry-record l records i t s inside lt)

pub digits_hold : (l : Shape) (records : List (List ℕ)) → IsShape l → AreRecords l records → HoldsRecords l records
digits_hold l records s are = record {
  each = λ i inside.
      let packed : PacksAndUnpacks l (record_at records i) = unpack-pack l (record_at records i) s.width (are.each i inside) in
      let back = sym (digits_back l records i s inside) in
      record {
        small = subst (All (λ d. d < 2 ^ l.width)) back packed.small;
        fits = subst (FitsRecord l) back packed.accepted;
      };
  same =
      same-list_of l.count (record_in_digits l (digit_matrix l records)) (λ i. record_at records i) (λ i inside.
      ap (record_bytes l) (digits_back l records i s inside) ∙ (unpack-pack l (record_at records i) s.width (are.each i inside)).same)
      ∙ sym (fill_by_all (λ i. record_at records i) records l.count [] are.count (λ i inside. λ _. record_at records i));
}
