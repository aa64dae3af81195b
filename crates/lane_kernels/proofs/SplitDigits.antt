-- Digits of words, in lanes.
use Rattle.std.proofs.Common.{◌≡◌, ℕ, ◌+◌, ◌-◌, ◌*◌, ◌/◌, ◌%◌, ◌^◌, ◌<◌, ◌≤◌, List, length, map, slice_index, replicate, bit_and, arith}
use Rattle.std.specs.List.{range_with_len}
use Rattle.std.specs.Simd.Lanes.{zip2, chunk}
use Rattle.std.proofs.lemmas.List.FromFn.{length-range_with_len}
use Rattle.std.proofs.lemmas.Nat.{row_fits, and_mask, one_shl}
use Rattle.std.proofs.Math.Nat.{div-mul-le_self}
use Rattle.std.proofs.lemmas.Simd.{zip2_of_maps, splat_is_map}
use Rattle.lane_kernels.specs.Digit.{split_count}
use Rattle.lane_kernels.proofs.LaneSums.{chunk_is_map}

-- a digit of a word begins inside the word
pub shift_inside : (w k : ℕ) → 6 ≤ w → w ≤ 10 → k < split_count w → w * k < 32
unfolding split_count
shift_inside w k wide narrow below =
    let count = (31 + w) / w in
    let room : k * w + w ≤ count * w = row_fits k w count w below (omega arith) in
    let most : count * w ≤ 31 + w = div-mul-le_self (31 + w) w in
    omega (arith, room, most)

-- the digits of one chunk
pub split_lanes : (n at shift mask : ℕ) (xs : List ℕ) → at + n ≤ length xs
    → zip2 bit_and (zip2 (λ x y. x / 2 ^ y) (chunk at n xs) (replicate n shift)) (replicate n mask)
    ≡ map (λ k. bit_and (slice_index xs (at + k) / 2 ^ shift) mask) (range_with_len 0 n)
split_lanes n at shift mask xs p =
    let vs = range_with_len 0 n in
    let lv = length-range_with_len 0 n in
    zip2_of_maps bit_and _ _ vs (zip2_of_maps (λ x y. x / 2 ^ y) _ _ vs (chunk_is_map at n xs p) (splat_is_map vs n shift lv)) (splat_is_map vs n mask lv)

-- a mask of w ones takes a remainder
pub digit_mask : (w x : ℕ) → w < 32 → bit_and x ((1 * 2 ^ w) % 2 ^ 32 - 1) ≡ x % 2 ^ w
digit_mask w x h = rw (one_shl w 32 h) (and_mask x w)
