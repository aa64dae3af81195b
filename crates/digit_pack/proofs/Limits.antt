-- How much the limits of a layout leave.
use Rattle.std.proofs.Common.{◌≡◌, ◌≤◌, ◌<◌, ◌+◌, ◌-◌, ◌*◌, ◌/◌, ◌%◌, ℕ, arith, mul-le-mul_right, mul_comm}
use Rattle.std.proofs.Math.Nat.{mod-lt}
use Rattle.std.proofs.lemmas.Nat.{div_below, mul-le, div-add-mod'}
use Rattle.digit_pack.specs.Layout.{Shape, IsLayout, HasWidth, HasRecord, ordinary_side, query_parts_count, digit_rows, digit_cols, digits_per_record}
use Rattle.digit_pack.specs.Laws.{OrdinaryPartsAreFew, WideStoreHasRoom}
use Rattle.digit_pack.proofs.Changes.{some_digits}
use Rattle.digit_pack.proofs.RecordLemmas.{shape_of_layout}

-- records of 256 bytes have 342 digits of 6 bits
few_in_record : (l : Shape) → HasWidth l → HasRecord l → digits_per_record l ≤ 342
few_in_record l w r =
    let few : digits_per_record l < 343 =
    div_below (8 * l.record_len + l.width - 1) l.width 343 (omega (arith, w.0)) (omega (arith, w.0, r.1)) in
    omega (arith, few)

pub few_digits : (l : Shape) → IsLayout l → digits_per_record l ≤ 342
few_digits l ok = few_in_record l ok.width ok.record_len

pub few_parts : OrdinaryPartsAreFew
few_parts l w r low =
    let few : query_parts_count l ≤ 342 * 4096 = mul-le (digits_per_record l) (digit_rows l) 342 4096 (few_in_record l w r) low in
    omega (arith, few)

pub few_rows : (l : Shape) → IsLayout l → digit_rows l ≤ 32768
few_rows l ok = omega (arith, ok.groups.1, ok.side)

pub few_cols : (l : Shape) → IsLayout l → digit_cols l ≤ 32768
few_cols l ok = omega (arith, ok.count.1, ok.side)

pub few_groups : (l : Shape) → IsLayout l → l.groups ≤ 32768
few_groups l ok =
    let some : 1 ≤ digits_per_record l = some_digits l (shape_of_layout l ok) in
    omega (arith, mul-le-mul_right l.groups some, mul_comm (digits_per_record l) l.groups, few_rows l ok)

-- how many records there are, and bytes of them
few_records : (l : Shape) → IsLayout l → l.count ≤ 1073741824
few_records l ok =
    let n : ℕ = l.count + l.groups - 1 in
    let whole : n / l.groups * l.groups + n % l.groups ≡ n = div-add-mod' n l.groups in
    let part : n % l.groups < l.groups = mod-lt n (omega (arith, ok.groups.0)) in
    let few : digit_cols l * l.groups ≤ 32768 * 32768 = mul-le (digit_cols l) l.groups 32768 32768 (few_cols l ok) (few_groups l ok) in
    omega (arith, whole, part, few, ok.groups.0)

pub few_bytes : (l : Shape) → IsLayout l → l.count * l.record_len ≤ 274877906944
few_bytes l ok =
    let few : l.count * l.record_len ≤ 1073741824 * 256 = mul-le l.count l.record_len 1073741824 256 (few_records l ok) ok.record_len.1 in
    omega (arith, few)

pub wide_room : WideStoreHasRoom
wide_room l ok =
    let few : digit_rows l * digit_cols l ≤ 32768 * 32768 = mul-le (digit_rows l) (digit_cols l) 32768 32768 (few_rows l ok) (few_cols l ok) in
    omega (arith, few)

-- any store that holds a matrix of words has room for the digits of an ordinary layout
pub ordinary_room : (l : Shape) → IsLayout l → l.side ≡ ordinary_side → digit_rows l * digit_cols l ≤ 33554432
ordinary_room l ok e =
    let few : digit_rows l * digit_cols l ≤ 4096 * 4096 =
    mul-le (digit_rows l) (digit_cols l) 4096 4096 (omega (arith, ok.groups.1, e)) (omega (arith, ok.count.1, e)) in
    omega (arith, few)
