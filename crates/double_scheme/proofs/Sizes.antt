-- How many words an answer has at most.
use Rattle.std.proofs.Common.{◌≡◌, ℕ, ◌+◌, ◌*◌, ◌/◌, ◌<◌, ◌≤◌, arith, mul-le-mul_right}
use Rattle.std.proofs.lemmas.Nat.{mul-le, div_below}
use Rattle.lane_kernels.specs.Digit.{split_count}
use Rattle.digit_pack.specs.Layout.{Shape, IsLayout, digits_per_record}
use Rattle.digit_pack.proofs.Limits.{few_digits}

pub few_in_word : (w : ℕ) → 6 ≤ w → split_count w ≤ 6
unfolding split_count
few_in_word w h =
    let few : (31 + w) / w < 7 = div_below (31 + w) w 7 (omega arith) (omega arith) in
    omega (arith, few)

pub few_split : (w n rows : ℕ) → 6 ≤ w → n ≤ 1024 → rows ≡ n * split_count w → rows ≤ 6144
few_split w n rows h low e =
    let few : n * split_count w ≤ 1024 * 6 = mul-le n (split_count w) 1024 6 low (few_in_word w h) in
    omega (arith, few, e)

pub few_words : (l : Shape) (w n rows : ℕ) → IsLayout l → 6 ≤ w → n ≤ 1024 → rows ≡ n * split_count w →
    digits_per_record l * (rows + split_count w) ≤ 342 * 6150
few_words l w n rows ok h low e =
    mul-le (digits_per_record l) (rows + split_count w) 342 6150 (few_digits l ok) (omega (arith, few_split w n rows h low e, few_in_word w h))

-- how many digits a server's hint has
pub few_across : (w cols rows : ℕ) → 6 ≤ w → cols ≤ 1024 → rows ≤ 32768 → cols * split_count w * rows ≤ 201326592
few_across w cols rows h few low =
    let across : cols * split_count w ≤ 1024 * 6 = mul-le cols (split_count w) 1024 6 few (few_in_word w h) in
    let all : cols * split_count w * rows ≤ 6144 * 32768 = mul-le (cols * split_count w) rows 6144 32768 across low in
    omega (arith, all)

-- how many words a client's hint has
pub few_kept : (w cols n : ℕ) → 6 ≤ w → cols ≤ 1024 → n ≤ 1024 → cols * split_count w * n ≤ 6291456
few_kept w cols n h few low =
    let across : cols * split_count w ≤ 1024 * 6 = mul-le cols (split_count w) 1024 6 few (few_in_word w h) in
    let all : cols * split_count w * n ≤ 6144 * 1024 = mul-le (cols * split_count w) n 6144 1024 across low in
    omega (arith, all)
