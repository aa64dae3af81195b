-- What the top digit of a record decides, and where its bytes are.
use Rattle.std.proofs.Common.{◌≡◌, ℕ, zero, suc, ◌+◌, ◌-◌, ◌*◌, ◌/◌, ◌%◌, ◌^◌, ◌<◌, ◌≤◌, arith, ap, ◌∙◌, sym, subst, List, length}
use Rattle.std.proofs.lemmas.Nat.{one_shl}
use Rattle.std.specs.Prelude.{slice_index, All}
use Rattle.lane_kernels.specs.Digit.{digit}
use Rattle.digit_pack.specs.Digits.{number_of}
use Rattle.digit_pack.specs.Layout.{Shape, IsLayout, FitsRecord, digits_per_record}
use Rattle.digit_pack.specs.Windows.{window}
use Rattle.digit_pack.proofs.WindowLemmas.{top_decides, digit_from_window}

not_none : (w k b : ℕ) → b < w * k + w → w ≤ b → 0 < k
not_none w zero b h l = absurd (omega arith)
not_none w (suc k) b h l = omega arith

-- a record's digits cover its bits, and without the top one they do not
pub top_begins_inside : (w len k : ℕ) → 0 < w → 0 < len → k ≡ (8 * len + w - 1) / w → (0 < k) × (w * (k - 1) < 8 * len) × (8 * len ≤ w * (k - 1) + w)
top_begins_inside w len k h l e =
    let same : w * k ≡ w * ((8 * len + w - 1) / w) = ap (λ y. w * y) e in
    let a : w * k ≤ 8 * len + w - 1 = omega (arith, same) in
    let b : 8 * len + w - 1 < w * k + w = omega (arith, same) in
    let some : 0 < k = not_none w k (8 * len + w - 1) b (omega arith) in
    let split : k ≡ (k - 1) + 1 = omega arith in
    let more : w * k ≡ w * (k - 1) + w = ap (λ y. w * y) split ∙ omega arith in
    (some, omega arith, omega arith)

pub fits_decided : (l : Shape) (w len k : ℕ) (digits : List ℕ) → w ≡ l.width → len ≡ l.record_len → k ≡ digits_per_record l →
    IsLayout l → All (λ d. d < 2 ^ l.width) digits → length digits ≡ digits_per_record l →
    ((slice_index digits (k - 1) < 1 * 2 ^ (8 * len - w * (k - 1)) % 2 ^ 32 → FitsRecord l digits)
    × (1 * 2 ^ (8 * len - w * (k - 1)) % 2 ^ 32 ≤ slice_index digits (k - 1) → ¬ FitsRecord l digits))
fits_decided l w len k digits ew el ek ok small e =
    let n : ℕ = k - 1 in
    let over : ℕ = 8 * len - w * (k - 1) in
    let t : (0 < k) × (w * (k - 1) < 8 * len) × (8 * len ≤ w * (k - 1) + w) =
    top_begins_inside w len k (omega arith) (omega arith) (ek ∙ ap (λ y. (8 * l.record_len + y - 1) / y) (sym ew)
    ∙ ap (λ y. (8 * y + w - 1) / w) (sym el)) in
    let size : 1 * 2 ^ over % 2 ^ 32 ≡ 2 ^ over = one_shl over 32 (omega arith) in
    let at : w * n + over ≡ 8 * len = omega arith in
    let place : l.width * n + over ≡ 8 * l.record_len = ap (λ y. y * n + over) (sym ew) ∙ at ∙ ap (λ y. 8 * y) el in
    let both : ((slice_index digits n < 2 ^ over → number_of l.width digits < 2 ^ (l.width * n + over))
    × (2 ^ over ≤ slice_index digits n → 2 ^ (l.width * n + over) ≤ number_of l.width digits)) =
    top_decides l.width digits n over small (omega arith) in (
      (λ h. subst (λ b. number_of l.width digits < 2 ^ b) place (both.0 (omega (arith, size, h)))),
      (λ h f.
          let above : 2 ^ (8 * l.record_len) ≤ number_of l.width digits =
          subst (λ b. 2 ^ b ≤ number_of l.width digits) place (both.1 (omega (arith, size, h))) in
          absurd (omega (arith, above, f))),
    )

-- byte k of the number that digits write
pub byte_from_digits : (w : ℕ) (digits : List ℕ) (k : ℕ) → 6 ≤ w → All (λ d. d < 2 ^ w) digits →
    digit 8 (number_of w digits) k ≡ window w digits (8 * k / w) / 2 ^ (8 * k % w) % 2 ^ 8
byte_from_digits w digits k h small =
    let at : 8 * k ≡ w * (8 * k / w) + 8 * k % w = omega arith in
    digit_from_window 8 w digits k (8 * k / w) (8 * k % w) small at (omega arith)
