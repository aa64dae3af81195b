-- Sums of products with packed digits, kept in lanes.
use Rattle.std.proofs.Common.{◌≡◌, ℕ, zero, suc, ◌+◌, ◌-◌, ◌*◌, ◌/◌, ◌%◌, ◌^◌, ◌<◌, ◌≤◌, take, drop, slice_range, List, [], ◌∷◌, length, map, slice_index, get_or, replicate, refl, sym, ap, ◌∙◌, arith, lit<, length-drop, All, inl, inr}
use Rattle.std.specs.List.{range_with_len}
use Rattle.std.specs.Simd.Lanes.{zip2, sum_l, fold_l, chunk}
use Rattle.std.specs.Simd.{first_chunks}
use Rattle.std.proofs.lemmas.Bool.{cases_lt}
use Rattle.std.proofs.lemmas.List.{get_or-take, get_or-drop, get_or_past}
use Rattle.std.proofs.lemmas.List.Elements.{All-get_or}
use Rattle.std.proofs.lemmas.List.FromFn.{fill_by_all, length-range_with_len, length-map-range_with_len, get_or-map-range_with_len}
use Rattle.std.proofs.lemmas.Nat.{row_fits}
use Rattle.std.proofs.lemmas.Simd.{length-chunk, zip2_of_maps, splat_is_map}
use Rattle.std.proofs.Math.Nat.{mul-add, add-mul, mul_assoc, mul_left_comm}
use Rattle.matrix_u32.specs.Sum.{sum_below, dot}
use Rattle.matrix_u32.specs.Matrix.{row}
use Rattle.matrix_u32.proofs.Sums.{sum_below_none, sum_below-prefix, sum_same, sum_zero, sum_below-add, sum_congruent}
use Rattle.matrix_u32.proofs.Remainders.{times_same}
use Rattle.matrix_u32.proofs.Products.{at-list_of, length-list_of, dot-list_of, row-matrix_of}
use Rattle.lane_kernels.specs.Digit.{digit}
use Rattle.lane_kernels.specs.Packed.{packed_cols, unpacked}
use Rattle.lane_kernels.specs.Carried.{lane_products, shifted_products, shifted_sum, digit_products, products_at, plus_part}
use Rattle.lane_kernels.proofs.LaneSums.{chunk_at, chunk_is_map, lanes_total}

-- the sum of the lanes, by index
pub sum_by_index : (xs : List ℕ) → sum_l xs ≡ sum_below (length xs) (λ k. slice_index xs k)
sum_by_index [] = rw sum_below_none refl
sum_by_index (x ∷ xs) = rw sum_below-prefix (ap (λ n. x + n) (sum_by_index xs))

-- terms that are added lane by lane, each modulo 2 ^ 32
pub sum_below-wrapped : (n : ℕ) (f g h : ℕ → ℕ) → ((k : ℕ) → k < n → h k ≡ (f k + g k) % 2 ^ 32)
    → sum_below n h % 2 ^ 32 ≡ (sum_below n f + sum_below n g) % 2 ^ 32
unfolding sum_below
sum_below-wrapped zero f g h each = refl
sum_below-wrapped (suc n) f g h each =
    let e = sum_below-wrapped n f g h (λ k p. each k (omega arith)) in
    let here = each n (omega arith) in
    omega (arith, e, here)

pub lanes_add : (n : ℕ) (s : List ℕ) (g h : ℕ → ℕ) (new : List ℕ) → length s ≡ n → new ≡ map h (range_with_len 0 n)
    → ((k : ℕ) → k < n → h k ≡ (slice_index s k + g k) % 2 ^ 32)
    → sum_l new % 2 ^ 32 ≡ (sum_l s + sum_below n g) % 2 ^ 32
lanes_add n s g h new long is each =
    let l : length new ≡ n = ap length is ∙ length-map-range_with_len h 0 n in
    let e : sum_l new ≡ sum_below n h =
    sum_by_index new ∙ rw l (sum_same n _ h (λ k p. rw is (get_or-map-range_with_len h 0 n k k 0 p (omega arith)))) in
    let f : sum_l s ≡ sum_below n (λ k. slice_index s k) = sum_by_index s ∙ rw long refl in
    let w = sum_below-wrapped n (λ k. slice_index s k) g h each in
    omega (arith, e, f, w)

pub list_is_map : (n : ℕ) (xs : List ℕ) → length xs ≡ n → xs ≡ map (λ k. slice_index xs k) (range_with_len 0 n)
list_is_map n xs p = fill_by_all (λ k. slice_index xs k) xs n 0 p (λ k h. refl)

-- one lane
shifted_lane : (s w a b c : ℕ) → (s + ((w * a % 2 ^ 32 + w / 2 ^ 10 * b % 2 ^ 32) % 2 ^ 32 + w / 2 ^ 20 * c % 2 ^ 32) % 2 ^ 32) % 2 ^ 32
    ≡ (s + shifted_products w a b c) % 2 ^ 32
shifted_lane s w a b c = omega arith

-- one more vector of words
shifted_chunk : (n at : ℕ) (s ws xs ys zs : List ℕ) → length s ≡ n
    → at + n ≤ length ws → at + n ≤ length xs → at + n ≤ length ys → at + n ≤ length zs
    → sum_l (zip2 (λ x y. (x + y) % 2 ^ 32) s (zip2 (λ x y. (x + y) % 2 ^ 32) (zip2 (λ x y. (x + y) % 2 ^ 32)
    (zip2 (λ x y. (x * y) % 2 ^ 32) (chunk at n ws) (chunk at n xs))
    (zip2 (λ x y. (x * y) % 2 ^ 32) (zip2 (λ x y. x / 2 ^ y) (chunk at n ws) (replicate n 10)) (chunk at n ys)))
    (zip2 (λ x y. (x * y) % 2 ^ 32) (zip2 (λ x y. x / 2 ^ y) (chunk at n ws) (replicate n 20)) (chunk at n zs)))) % 2 ^ 32
    ≡ (sum_l s + sum_below n (λ k. shifted_products (slice_index ws (at + k)) (slice_index xs (at + k)) (slice_index ys (at + k)) (slice_index zs (at + k)))) %
    2 ^ 32
shifted_chunk n at s ws xs ys zs long pw px py pz =
    let vs = range_with_len 0 n in
    let lv = length-range_with_len 0 n in
    let add : ℕ → ℕ → ℕ = λ x y. (x + y) % 2 ^ 32 in
    let mul : ℕ → ℕ → ℕ = λ x y. (x * y) % 2 ^ 32 in
    let shr : ℕ → ℕ → ℕ = λ x y. x / 2 ^ y in
    let w = chunk_is_map at n ws pw in
    let low = zip2_of_maps mul _ _ vs w (chunk_is_map at n xs px) in
    let middle = zip2_of_maps mul _ _ vs (zip2_of_maps shr _ _ vs w (splat_is_map vs n 10 lv)) (chunk_is_map at n ys py) in
    let high = zip2_of_maps mul _ _ vs (zip2_of_maps shr _ _ vs w (splat_is_map vs n 20 lv)) (chunk_is_map at n zs pz) in
    let new = zip2_of_maps add _ _ vs (list_is_map n s long) (zip2_of_maps add _ _ vs (zip2_of_maps add _ _ vs low middle) high) in
    lanes_add n s _ _ _ long new (λ k h. shifted_lane (slice_index s k) (slice_index ws (at + k)) (slice_index xs (at + k)) (slice_index ys (at + k))
    (slice_index zs (at + k)))

pub shifted_more : (n i k : ℕ) (s ws xs ys zs : List ℕ) → length s ≡ n → i < k
    → k * n ≤ length ws → k * n ≤ length xs → k * n ≤ length ys → k * n ≤ length zs
    → sum_l s % 2 ^ 32 ≡ sum_below (i * n) (λ t. shifted_products (slice_index ws t) (slice_index xs t) (slice_index ys t) (slice_index zs t)) % 2 ^ 32
    → sum_l (zip2 (λ x y. (x + y) % 2 ^ 32) s (zip2 (λ x y. (x + y) % 2 ^ 32) (zip2 (λ x y. (x + y) % 2 ^ 32)
    (zip2 (λ x y. (x * y) % 2 ^ 32) (get_or (first_chunks n k ws) i []) (get_or (first_chunks n k xs) i []))
    (zip2 (λ x y. (x * y) % 2 ^ 32) (zip2 (λ x y. x / 2 ^ y) (get_or (first_chunks n k ws) i []) (replicate n 10)) (get_or (first_chunks n k ys) i [])))
    (zip2 (λ x y. (x * y) % 2 ^ 32) (zip2 (λ x y. x / 2 ^ y) (get_or (first_chunks n k ws) i []) (replicate n 20)) (get_or (first_chunks n k zs) i [])))) % 2 ^
    32
    ≡ sum_below ((i + 1) * n) (λ t. shifted_products (slice_index ws t) (slice_index xs t) (slice_index ys t) (slice_index zs t)) % 2 ^ 32
shifted_more n i k s ws xs ys zs long below fw fx fy fz so_far =
    let room : i * n + n ≤ k * n = row_fits i n k n below (omega arith) in
    let next : (i + 1) * n ≡ i * n + n = omega arith in
    let e = shifted_chunk n (i * n) s ws xs ys zs long (omega arith) (omega arith) (omega arith) (omega arith) in
    let g = sum_below-add (i * n) n (λ t. shifted_products (slice_index ws t) (slice_index xs t) (slice_index ys t) (slice_index zs t)) in
    rw (chunk_at n k i ws [] below, chunk_at n k i xs [] below, chunk_at n k i ys [] below, chunk_at n k i zs [] below, next) (omega (arith, e, g, so_far))

-- one more word, added by itself
pub shifted_step : (total so_far w a b c : ℕ) → total ≡ so_far % 2 ^ 32
    → (((total + w * a % 2 ^ 32) % 2 ^ 32 + w / 2 ^ 10 * b % 2 ^ 32) % 2 ^ 32 + w / 2 ^ 20 * c % 2 ^ 32) % 2 ^ 32
    ≡ (so_far + shifted_products w a b c) % 2 ^ 32
shifted_step total so_far w a b c e = omega arith

-- the lanes together, and the words that are left
pub shifted_end : (n k i : ℕ) (s ws xs ys zs wt xt yt zt : List ℕ) (rest : ℕ) → i ≡ k → k * n ≤ length ws
    → wt ≡ drop (k * n) ws → xt ≡ drop (k * n) xs → yt ≡ drop (k * n) ys → zt ≡ drop (k * n) zs → rest ≡ shifted_sum wt xt yt zt
    → sum_l s % 2 ^ 32 ≡ sum_below (i * n) (λ t. shifted_products (slice_index ws t) (slice_index xs t) (slice_index ys t) (slice_index zs t)) % 2 ^ 32
    → (fold_l (λ a x. (a + x) % 2 ^ 32) 0 s + rest) % 2 ^ 32 ≡ shifted_sum ws xs ys zs
shifted_end n k i s ws xs ys zs wt xt yt zt rest all le dw dx dy dz is so_far =
    let f : ℕ → ℕ = λ t. shifted_products (slice_index ws t) (slice_index xs t) (slice_index ys t) (slice_index zs t) in
    let m = k * n in
    let left = length ws - m in
    let e = lanes_total 0 s (lit< tt) in
    let l : length (drop m ws) ≡ left = length-drop m ws in
    let g : rest ≡ sum_below left (λ t. f (m + t)) % 2 ^ 32 =
    is ∙ rw (dw, dx, dy, dz, l) (ap (λ v. v % 2 ^ 32) (sum_same left _ _ (λ t h.
    rw (get_or-drop m ws t 0, get_or-drop m xs t 0, get_or-drop m ys t 0, get_or-drop m zs t 0) refl))) in
    let whole : m + left ≡ length ws = omega arith in
    let parts = sum_below-add m left f in
    let w : sum_below (length ws) f ≡ sum_below (m + left) f = ap (λ v. sum_below v f) (sym whole) in
    let h = rw all at so_far in
    omega (arith, e, g, parts, w, h)

-- what eight lanes hold after i vectors of a row's words
abbrev pub IsLanesSum : List ℕ → List ℕ → List ℕ → List ℕ → ℕ → List ℕ → Type 0
IsLanesSum ws xs ys zs i sum =
    sum_l sum % 2 ^ 32 ≡ sum_below (i * 8) (λ t. shifted_products (slice_index ws t) (slice_index xs t) (slice_index ys t) (slice_index zs t)) % 2 ^ 32

-- a place within the vectors of eight of one list is within those of a list of the same length
pub eights_inside : (i k m n p : ℕ) → i < k → k ≡ n / 8 → m ≡ p / 8 → p ≡ n → i < m
eights_inside i k m n p below ek em same = omega arith

-- one vector more, whose products are these
pub lanes_more : (i k n : ℕ) (s ws xs ys zs : List ℕ) (cw cx cy cz : List (List ℕ)) (r : List ℕ) → i < k → k ≡ n / 8 → length s ≡ 8
    → length ws ≡ n → length xs ≡ n → length ys ≡ n → length zs ≡ n
    → cw ≡ first_chunks 8 (length ws / 8) ws → cx ≡ first_chunks 8 (length xs / 8) xs
    → cy ≡ first_chunks 8 (length ys / 8) ys → cz ≡ first_chunks 8 (length zs / 8) zs
    → r ≡ lane_products (get_or cw i []) (get_or cx i []) (get_or cy i []) (get_or cz i [])
    → IsLanesSum ws xs ys zs i s → IsLanesSum ws xs ys zs (i + 1) (zip2 (λ x y. (x + y) % 2 ^ 32) s r)
lanes_more i k n s ws xs ys zs cw cx cy cz r below all long lw lx ly lz ew ex ey ez is so_far =
    rw (is, ew, ex, ey, ez, lw, lx, ly, lz)
    (shifted_more 8 i (n / 8) s ws xs ys zs long (omega arith) (omega arith) (omega arith) (omega arith) (omega arith) so_far)

-- all lanes together, and the words that are left
pub lanes_end : (i k n : ℕ) (s ws xs ys zs : List ℕ) (result : ℕ) → k ≤ i → i ≤ k → k ≡ n / 8 → length ws ≡ n
    → result ≡ (fold_l (λ a x. (a + x) % 2 ^ 32) 0 s + shifted_sum (drop (length ws / 8 * 8) ws) (drop (length ws / 8 * 8) xs)
    (drop (length ws / 8 * 8) ys) (drop (length ws / 8 * 8) zs)) % 2 ^ 32
    → IsLanesSum ws xs ys zs i s → result ≡ shifted_sum ws xs ys zs
lanes_end i k n s ws xs ys zs result past most all lw is so_far =
    is ∙ shifted_end 8 (length ws / 8) i s ws xs ys zs _ _ _ _ _ (omega arith) (omega arith) refl refl refl refl refl so_far

split_left : (n d u x : ℕ) → n ≡ d + 1024 * u → n * x ≡ d * x + 1024 * (u * x)
split_left n d u x e = ap (λ k. k * x) e ∙ add-mul d (1024 * u) x ∙ ap (λ k. d * x + k) (mul_assoc 1024 u x)

split_right : (u b x : ℕ) → u * (b + 1024 * x) ≡ u * b + 1024 * (u * x)
split_right u b x = mul-add u b (1024 * x) ∙ ap (λ k. u * b + k) (mul_left_comm u 1024 x)

-- what is above a digit is taken off by the next term
pub shifted_word : (w x y z b c : ℕ) → (b + 1024 * x) % 2 ^ 32 ≡ y % 2 ^ 32 → (c + 1024 * y) % 2 ^ 32 ≡ z % 2 ^ 32
    → shifted_products w x b c % 2 ^ 32 ≡ digit_products w x y z % 2 ^ 32
shifted_word w x y z b c eb ec =
    let d = w % 1024 in
    let u = w / 2 ^ 10 in
    let e = u % 1024 in
    let v = w / 2 ^ 20 in
    let uw : w ≡ d + 1024 * u = omega arith in
    let vu : u ≡ e + 1024 * v = omega arith in
    let first = split_left w d u x uw in
    let second = split_left u e v y vu in
    let third = split_right u b x in
    let fourth = split_right v c y in
    let low = times_same u (b + 1024 * x) y eb in
    let high = times_same v (c + 1024 * y) z ec in
    omega (arith, first, second, third, fourth, low, high)

-- each third word of x from a place on
abbrev IsThirds : List ℕ → ℕ → ℕ → List ℕ → Type 0
IsThirds x first n part = (t : ℕ) → t < n → slice_index part t ≡ slice_index x (first + 3 * t)

-- each third word of x from the next place on, less 2 ^ 10 times the word before it, modulo 2 ^ 32
abbrev IsCarried : List ℕ → ℕ → ℕ → List ℕ → Type 0
IsCarried x first n carried =
    (t : ℕ) → t < n → (slice_index carried t + 1024 * slice_index x (first + 3 * t)) % 2 ^ 32 ≡ slice_index x (first + 3 * t + 1) % 2 ^ 32

-- the words of one part of a row
pub part_sum : (packed x : List ℕ) (row start count : ℕ) (ws xs ys zs : List ℕ) → length ws ≡ count
    → ws ≡ slice_range packed (row + start) (row + start + count)
    → IsThirds x (3 * start) count xs → IsCarried x (3 * start) count ys → IsCarried x (3 * start + 1) count zs
    → shifted_sum ws (take count xs) (take count ys) (take count zs) ≡ sum_below count (λ t. products_at packed x row (start + t)) % 2 ^ 32
part_sum packed x row start count ws xs ys zs long w is ys-is zs-is =
    rw long (sum_congruent count _ _ (λ t h.
    let at = 3 * (start + t) in
    let here : slice_index ws t ≡ slice_index packed (row + (start + t)) =
    let inside : t < row + start + count - (row + start) = omega arith in
    let place : row + start + t ≡ row + (start + t) = omega arith in
    rw w (get_or-take _ _ t 0 inside ∙ get_or-drop (row + start) packed t 0 ∙ rw place refl) in
    let p0 : 3 * start + 3 * t ≡ at = omega arith in
    let p1 : 3 * start + 1 + 3 * t ≡ at + 1 = omega arith in
    let p2 : at + 1 + 1 ≡ at + 2 = omega arith in
    let e0 : slice_index (take count xs) t ≡ slice_index x at = get_or-take count xs t 0 h ∙ rw (← p0) (is t h) in
    let e1 = rw p0 at (ys-is t h) in
    let e2 = rw (p1, p2) at (zs-is t h) in
    rw (here, e0, get_or-take count ys t 0 h, get_or-take count zs t 0 h)
    (shifted_word (slice_index packed (row + (start + t))) (slice_index x at) (slice_index x (at + 1)) (slice_index x (at + 2)) (slice_index ys t)
    (slice_index zs t) e1 e2)))

-- each word of out is the sum of the products of its row of packed words, up to so many of them
abbrev pub RowsSoFar : List ℕ → List ℕ → ℕ → ℕ → List ℕ → Type 0
RowsSoFar packed x words more out =
    (q : ℕ) → q < length out → slice_index out q ≡ sum_below more (λ t. products_at packed x (q * words) t) % 2 ^ 32

-- one more part of each row
pub parts_more : (packed x out new : List ℕ) (words start count : ℕ) → new ≡ plus_part out packed x words start count
    → RowsSoFar packed x words start out → RowsSoFar packed x words (start + count) new
parts_more packed x out new words start count is so_far q h =
    let long : length new ≡ length out = ap length is ∙ length-list_of (length out) _ in
    let here : q < length out = omega arith in
    let now = ap (λ xs. slice_index xs q) is
    ∙ at-list_of (length out) (λ q. (slice_index out q + sum_below count (λ t. products_at packed x (q * words) (start + t))) % 2 ^ 32) q here in
    let was = so_far q here in
    let more = sum_below-add start count (λ t. products_at packed x (q * words) t) in
    now ∙ omega (arith, was, more)

-- part of a row lies within the rows
pub piece_fits : (row rows words start count total : ℕ) → row < rows → start + count ≤ words → total ≡ rows * words → row * words + start + count ≤ total
piece_fits row rows words start count total below inside all =
    let fits : row * words + words ≤ rows * words = row_fits row words rows words below (omega arith) in
    omega (arith, fits)

-- the words of one part of a row, among all words
pub row_part : (packed x : List ℕ) (q rows words start count : ℕ) (xs ys zs : List ℕ) → q < rows → start + count ≤ words
    → length packed ≡ rows * words
    → IsThirds x (3 * start) count xs → IsCarried x (3 * start) count ys → IsCarried x (3 * start + 1) count zs
    → shifted_sum (slice_range packed (q * words + start) (q * words + start + count)) (take count xs) (take count ys) (take count zs)
    ≡ sum_below count (λ t. products_at packed x (q * words) (start + t)) % 2 ^ 32
row_part packed x q rows words start count xs ys zs below inside all is ys-is zs-is =
    let at = q * words + start in
    let fits : at + count ≤ length packed = piece_fits q rows words start count (length packed) below inside all in
    let cut : at + count - at ≡ count = omega arith in
    let long : length (slice_range packed at (at + count)) ≡ count = rw cut (length-chunk at count packed fits) in
    part_sum packed x (q * words) start count _ xs ys zs long refl is ys-is zs-is

-- n rows from one on lie within all rows
pub rows_within : (n row rows words total : ℕ) → row + n ≤ rows → total ≡ rows * words → (row + n) * words ≤ total
rows_within n row rows words total below all =
    let left = rows - (row + n) in
    let e : rows ≡ row + n + left = omega arith in
    let split = add-mul (row + n) left words in
    let more = ap (λ k. k * words) e in
    omega (arith, split, more, all)

-- part of one of n rows lies within them
pub rows_fit : (n at row words start count total : ℕ) → at < row + n → start + count ≤ words → (row + n) * words ≤ total
    → at * words + start + count ≤ total
rows_fit n at row words start count total below inside all =
    let fits = piece_fits at (row + n) words start count _ below inside refl in
    omega (arith, fits)

-- a sum by threes
pub sum_below-threes : (n : ℕ) (g : ℕ → ℕ) → sum_below (3 * n) g ≡ sum_below n (λ t. g (3 * t) + g (3 * t + 1) + g (3 * t + 2))
unfolding sum_below
sum_below-threes zero g = refl
sum_below-threes (suc n) g =
    let e = sum_below-threes n g in
    let size : 3 * suc n ≡ suc (suc (suc (3 * n))) = omega arith in
    let one : 3 * n + 1 ≡ suc (3 * n) = omega arith in
    let two : 3 * n + 2 ≡ suc (suc (3 * n)) = omega arith in
    rw (size, one, two) (omega (arith, e))

-- the words of a row are its digits, and x counts for nothing past its end
row_digits : (packed x : List ℕ) (cols at : ℕ) → length x ≡ cols → ((k : ℕ) → slice_index packed k < 2 ^ 30)
    → sum_below (packed_cols cols) (λ t. products_at packed x at t) ≡ sum_below cols (λ j. digit 10 (slice_index packed (at + j / 3)) (j % 3) * slice_index x j)
unfolding digit
row_digits packed x cols at long small =
    let n = (cols + 2) / 3 in
    let g : ℕ → ℕ = λ j. digit 10 (slice_index packed (at + j / 3)) (j % 3) * slice_index x j in
    let extra = 3 * n - cols in
    let whole : cols + extra ≡ 3 * n = omega arith in
    let past : sum_below extra (λ k. g (cols + k)) ≡ 0 = sum_same extra _ (λ _. 0) (λ k h.
    let out : slice_index x (cols + k) ≡ 0 = get_or_past x (cols + k) 0 (omega arith) in rw out (omega arith)) ∙ sum_zero extra in
    let parts = sum_below-add cols extra g in
    let threes = sum_below-threes n g in
    let each : sum_below n (λ t. products_at packed x at t) ≡ sum_below n (λ t. g (3 * t) + g (3 * t + 1) + g (3 * t + 2)) =
    sum_same n _ _ (λ t h.
    let d0 : 3 * t / 3 ≡ t = omega arith in
    let m0 : 3 * t % 3 ≡ 0 = omega arith in
    let d1 : (3 * t + 1) / 3 ≡ t = omega arith in
    let m1 : (3 * t + 1) % 3 ≡ 1 = omega arith in
    let d2 : (3 * t + 2) / 3 ≡ t = omega arith in
    let m2 : (3 * t + 2) % 3 ≡ 2 = omega arith in
    let w = slice_index packed (at + t) in
    let whole_word : w / 1 ≡ w = omega arith in
    let low = small (at + t) in
    let high : w / 2 ^ 20 % 1024 ≡ w / 2 ^ 20 = omega arith in
    rw (d0, m0, d1, m1, d2, m2, whole_word, high) refl) in
    let size = ap (λ k. sum_below k g) whole in
    omega (arith, past, parts, threes, each, size)

-- what holds of each word holds at each place, since there is 0 past the end
word_small : (words : List ℕ) → All (λ word. word < 2 ^ 30) words → (k : ℕ) → slice_index words k < 2 ^ 30
word_small words small k = elim (cases_lt k (length words)) [
  | inl lt ↦ All-get_or (λ word. word < 2 ^ 30) words k 0 lt small
  | inr le ↦ let e = get_or_past words k 0 le in omega (arith, e)
]

-- a row of packed digits times x
pub row_product : (packed x : List ℕ) (rows cols q : ℕ) → q < rows → length x ≡ cols → All (λ word. word < 2 ^ 30) packed
    → sum_below (packed_cols cols) (λ t. products_at packed x (q * packed_cols cols) t) % 2 ^ 32 ≡ dot (row (unpacked rows cols packed) q) x
row_product packed x rows cols q below long small =
    let f : ℕ → ℕ → ℕ = λ i j. digit 10 (slice_index packed (i * packed_cols cols + j / 3)) (j % 3) in
    let sums = row_digits packed x cols (q * packed_cols cols) long (word_small packed small) in
    let digits = dot-list_of cols (f q) (λ j. slice_index x j) x (λ k _. refl) in
    ap (λ n. n % 2 ^ 32) sums ∙ sym digits ∙ ap (λ xs. dot xs x) (sym (row-matrix_of rows cols f q below))
