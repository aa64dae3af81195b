-- Sums of products that are kept in lanes.
use Rattle.std.proofs.Common.{◌≡◌, ℕ, zero, suc, ◌+◌, ◌-◌, ◌*◌, ◌%◌, ◌^◌, ◌<◌, ◌≤◌, List, [], ◌∷◌, length, drop, slice_index, get_or, refl, sym, ap, ap₂, ◌∙◌, arith, length-drop, lit<, replicate, inl, inr, map}
use Rattle.std.specs.Simd.Lanes.{zip2, sum_l, fold_l, products, chunk, put_chunk}
use Rattle.std.specs.Simd.{first_chunks}
use Rattle.std.proofs.lemmas.List.{get_or-drop}
use Rattle.std.proofs.lemmas.List.FromFn.{fill_by_all, length-range_with_len, length-map-range_with_len, get_or-map-range_with_len}
use Rattle.std.specs.List.{range_with_len}
use Rattle.std.proofs.lemmas.Nat.{row_fits}
use Rattle.std.proofs.lemmas.Simd.{get_or-chunk, length-chunk, length-put_chunk, get_or-put_chunk_below, get_or-put_chunk_at, get_or-put_chunk_above, length-zip2, get_or-zip2, get_or-replicate, length-replicate, zip2_of_maps, splat_is_map}
use Rattle.std.proofs.lemmas.Bool.{cases_lt}
use Rattle.std.proofs.Math.Seq.{drop-drop}
use Rattle.matrix_u32.specs.Sum.{sum_below, dot}
use Rattle.matrix_u32.proofs.Products.{words_are}
use Rattle.lane_kernels.specs.Rows.{plus_four}
use Rattle.matrix_u32.proofs.Sums.{sum_below_none, sum_below-prefix, sum_same, sum_below-add}

-- chunk i of the chunks of a list
pub chunk_at : {X : Type 0} (n k i : ℕ) (xs : List X) (d : List X) → i < k → get_or (first_chunks n k xs) i d ≡ chunk (i * n) n xs
chunk_at n zero i xs d h = absurd (omega arith)
chunk_at n (suc k) zero xs d h = let none : 0 * n ≡ 0 = omega arith in rw none refl
chunk_at n (suc k) (suc i) xs d h =
    let e : n + i * n ≡ suc i * n = omega arith in
    chunk_at n k i (drop n xs) d (omega arith) ∙ rw (drop-drop, e) refl

-- one more vector of products in the lanes
pub lanes_more : (s a b : List ℕ) → length a ≡ length s → length b ≡ length s
    → sum_l (zip2 (λ x y. (x + y) % 2 ^ 32) s (zip2 (λ x y. (x * y) % 2 ^ 32) a b)) % 2 ^ 32 ≡ (sum_l s + sum_l (products a b)) % 2 ^ 32
lanes_more [] [] [] p q = refl
lanes_more [] (x ∷ a) b p q = absurd (omega arith)
lanes_more [] [] (y ∷ b) p q = absurd (omega arith)
lanes_more (z ∷ s) [] b p q = absurd (omega arith)
lanes_more (z ∷ s) (x ∷ a) [] p q = absurd (omega arith)
lanes_more (z ∷ s) (x ∷ a) (y ∷ b) p q =
    let e = lanes_more s a b (omega arith) (omega arith) in omega (arith, e)

-- the lanes together
pub lanes_total : (z : ℕ) (s : List ℕ) → z < 2 ^ 32 → fold_l (λ a x. (a + x) % 2 ^ 32) z s ≡ (z + sum_l s) % 2 ^ 32
lanes_total z [] h = omega arith
lanes_total z (x ∷ s) h =
    let e = lanes_total ((z + x) % 2 ^ 32) s (omega arith) in omega (arith, e)

-- a sum of products by index
pub sum_products : (xs ys : List ℕ) → length xs ≡ length ys
    → sum_l (products xs ys) ≡ sum_below (length xs) (λ k. slice_index xs k * slice_index ys k)
sum_products [] ys p = rw sum_below_none refl
sum_products (x ∷ xs) [] p = absurd (omega arith)
sum_products (x ∷ xs) (y ∷ ys) p =
    rw sum_below-prefix (ap (λ n. x * y + n) (sum_products xs ys (omega arith)))

-- the products of one chunk
pub sum_chunk : (at n : ℕ) (xs ys : List ℕ) → at + n ≤ length xs → at + n ≤ length ys
    → sum_l (products (chunk at n xs) (chunk at n ys)) ≡ sum_below n (λ k. slice_index xs (at + k) * slice_index ys (at + k))
sum_chunk at n xs ys p q =
    let l = length-chunk at n xs p in
    sum_products (chunk at n xs) (chunk at n ys) (l ∙ sym (length-chunk at n ys q))
    ∙ rw l (sum_same n _ _ (λ k h. ap₂ ◌*◌ (get_or-chunk at n xs k 0 h) (get_or-chunk at n ys k 0 h)))

-- the lanes after one more chunk
pub dot_more : (n i k : ℕ) (s xs ys : List ℕ) → length s ≡ n → i < k → k * n ≤ length xs → k * n ≤ length ys
    → sum_l s % 2 ^ 32 ≡ sum_below (i * n) (λ k. slice_index xs k * slice_index ys k) % 2 ^ 32
    → sum_l (zip2 (λ x y. (x + y) % 2 ^ 32) s (zip2 (λ x y. (x * y) % 2 ^ 32) (get_or (first_chunks n k xs) i []) (get_or (first_chunks n k ys) i []))) % 2 ^ 32
    ≡ sum_below ((i + 1) * n) (λ k. slice_index xs k * slice_index ys k) % 2 ^ 32
dot_more n i k s xs ys long below fits fits' so_far =
    let room : i * n + n ≤ k * n = row_fits i n k n below (omega arith) in
    let next : (i + 1) * n ≡ i * n + n = omega arith in
    let lx = length-chunk (i * n) n xs (omega arith) in
    let ly = length-chunk (i * n) n ys (omega arith) in
    let e = lanes_more s (chunk (i * n) n xs) (chunk (i * n) n ys) (lx ∙ sym long) (ly ∙ sym long) in
    let f = sum_chunk (i * n) n xs ys (omega arith) (omega arith) in
    let g = sum_below-add (i * n) n (λ k. slice_index xs k * slice_index ys k) in
    rw (chunk_at n k i xs [] below, chunk_at n k i ys [] below, next) (omega (arith, e, f, g, so_far))

-- the chunks and what is left
pub dot_parts : (m : ℕ) (xs ys : List ℕ) → m ≤ length xs → length xs ≡ length ys
    → (sum_below m (λ k. slice_index xs k * slice_index ys k) % 2 ^ 32 + dot (drop m xs) (drop m ys)) % 2 ^ 32 ≡ dot xs ys
unfolding dot
dot_parts m xs ys le same =
    let n = length xs - m in
    let f = λ (k : ℕ). slice_index xs k * slice_index ys k in
    let whole : m + n ≡ length xs = omega arith in
    let g = sum_below-add m n f in
    let l : length (drop m xs) ≡ n = length-drop m xs in
    let e : sum_below (length (drop m xs)) (λ k. slice_index (drop m xs) k * slice_index (drop m ys) k) ≡ sum_below n (λ k. f (m + k)) =
    rw l (sum_same n _ _ (λ k h. ap₂ ◌*◌ (get_or-drop m xs k 0) (get_or-drop m ys k 0))) in
    let w : sum_below (length xs) f ≡ sum_below (m + n) f = ap (λ k. sum_below k f) (sym whole) in
    omega (arith, e, g, w)

-- the lanes together, and the product of what is left
pub dot_end : (n k i : ℕ) (s xs ys xt yt : List ℕ) (rest : ℕ) → i ≡ k → k * n ≤ length xs → length xs ≡ length ys
    → xt ≡ drop (k * n) xs → yt ≡ drop (k * n) ys → rest ≡ dot xt yt
    → sum_l s % 2 ^ 32 ≡ sum_below (i * n) (λ k. slice_index xs k * slice_index ys k) % 2 ^ 32
    → (fold_l (λ a x. (a + x) % 2 ^ 32) 0 s + rest) % 2 ^ 32 ≡ dot xs ys
dot_end n k i s xs ys xt yt rest all le same xd yd rd so_far =
    let e = lanes_total 0 s (lit< tt) in
    let f : rest ≡ dot (drop (k * n) xs) (drop (k * n) ys) = rd ∙ rw (xd, yd) refl in
    let g = dot_parts (k * n) xs ys le same in
    let h = rw all at so_far in
    omega (arith, e, f, g, h)

-- a write of n lanes at `at` to a list that is f below `at`
pub put_done : (f : ℕ → ℕ) (at n : ℕ) (out ys : List ℕ) → length ys ≡ n → at + n ≤ length out
    → ((q : ℕ) → q < at → slice_index out q ≡ f q) → ((j : ℕ) → j < n → slice_index ys j ≡ f (at + j))
    → (q : ℕ) → q < at + n → slice_index (put_chunk at out ys) q ≡ f q
put_done f at n out ys long room before here q h =
    elim (cases_lt q at) [
      | inl lt ↦ get_or-put_chunk_below at out ys q 0 lt ∙ before q lt
      | inr le ↦
          let j = q - at in
          let e : at + j ≡ q = omega arith in
          let lt : j < n = omega arith in
          rw (← e) (get_or-put_chunk_at at out ys j 0 (omega arith) (omega arith) ∙ here j lt)
    ]

-- lane j of a sum with a multiple
pub scaled_lane : (n at k : ℕ) (out x : List ℕ) (j : ℕ) → at + n ≤ length out → at + n ≤ length x → j < n
    → slice_index (zip2 (λ a b. (a + b) % 2 ^ 32) (chunk at n out) (zip2 (λ a b. (a * b) % 2 ^ 32) (replicate n k) (chunk at n x))) j
    ≡ (slice_index out (at + j) + k * slice_index x (at + j)) % 2 ^ 32
scaled_lane n at k out x j p q h =
    let mul : ℕ → ℕ → ℕ = λ a b. (a * b) % 2 ^ 32 in
    let lo = length-chunk at n out p in
    let lx = length-chunk at n x q in
    let lk = length-replicate n k in
    let lz = length-zip2 mul (replicate n k) (chunk at n x) (lk ∙ sym lx) ∙ lk in
    let e = get_or-zip2 (λ a b. (a + b) % 2 ^ 32) (chunk at n out) (zip2 mul (replicate n k) (chunk at n x)) j 0 0 0 (omega arith) (omega arith) in
    let f = get_or-zip2 mul (replicate n k) (chunk at n x) j 0 0 0 (omega arith) (omega arith) in
    let g = get_or-chunk at n out j 0 h in
    let m = get_or-chunk at n x j 0 h in
    let r = get_or-replicate n j k 0 h in
    e ∙ rw (f, g, m, r) (omega arith)

pub scaled_length : (n at k : ℕ) (out x : List ℕ) → at + n ≤ length out → at + n ≤ length x
    → length (zip2 (λ a b. (a + b) % 2 ^ 32) (chunk at n out) (zip2 (λ a b. (a * b) % 2 ^ 32) (replicate n k) (chunk at n x))) ≡ n
scaled_length n at k out x p q =
    let mul : ℕ → ℕ → ℕ = λ a b. (a * b) % 2 ^ 32 in
    let lo = length-chunk at n out p in
    let lx = length-chunk at n x q in
    let lk = length-replicate n k in
    let lz = length-zip2 mul (replicate n k) (chunk at n x) (lk ∙ sym lx) ∙ lk in
    length-zip2 (λ a b. (a + b) % 2 ^ 32) (chunk at n out) (zip2 mul (replicate n k) (chunk at n x)) (lo ∙ sym lz) ∙ lo

-- what holds at each of four places
pub below_four : (P : ℕ → Type 0) → P 0 → P 1 → P 2 → P 3 → (j : ℕ) → j < 4 → P j
below_four P p0 p1 p2 p3 zero h = p0
below_four P p0 p1 p2 p3 (suc zero) h = p1
below_four P p0 p1 p2 p3 (suc (suc zero)) h = p2
below_four P p0 p1 p2 p3 (suc (suc (suc zero))) h = p3
below_four P p0 p1 p2 p3 (suc (suc (suc (suc n)))) h = absurd (omega arith)

-- what holds at each of two places
pub below_two : (P : ℕ → Type 0) → P 0 → P 1 → (j : ℕ) → j < 2 → P j
below_two P p0 p1 zero h = p0
below_two P p0 p1 (suc zero) h = p1
below_two P p0 p1 (suc (suc n)) h = absurd (omega arith)

-- a chunk, by index
pub chunk_is_map : (at n : ℕ) (xs : List ℕ) → at + n ≤ length xs → chunk at n xs ≡ map (λ k. slice_index xs (at + k)) (range_with_len 0 n)
chunk_is_map at n xs p = fill_by_all (λ k. slice_index xs (at + k)) (chunk at n xs) n 0 (length-chunk at n xs p) (λ k h. get_or-chunk at n xs k 0 h)

-- the lanes of out + f p + g q + h r + e s
pub four_lanes : (n at f g h e : ℕ) (out p q r s : List ℕ)
    → at + n ≤ length out → at + n ≤ length p → at + n ≤ length q → at + n ≤ length r → at + n ≤ length s
    → let add : List ℕ → List ℕ → List ℕ = zip2 (λ x y. (x + y) % 2 ^ 32) in
    let mul : ℕ → List ℕ → List ℕ = λ k xs. zip2 (λ x y. (x * y) % 2 ^ 32) (replicate n k) (chunk at n xs) in
    add (add (add (add (chunk at n out) (mul f p)) (mul g q)) (mul h r)) (mul e s)
    ≡ map (λ k. ((((slice_index out (at + k) + f * slice_index p (at + k) % 2 ^ 32) % 2 ^ 32 + g * slice_index q (at + k) % 2 ^ 32) % 2 ^ 32
    + h * slice_index r (at + k) % 2 ^ 32) % 2 ^ 32 + e * slice_index s (at + k) % 2 ^ 32) % 2 ^ 32) (range_with_len 0 n)
four_lanes n at f g h e out p q r s lo lp lq lr ls =
    let vs = range_with_len 0 n in
    let lv = length-range_with_len 0 n in
    let add : ℕ → ℕ → ℕ = λ x y. (x + y) % 2 ^ 32 in
    let mul : ℕ → ℕ → ℕ = λ x y. (x * y) % 2 ^ 32 in
    let times = λ (k : ℕ) (xs : List ℕ) (fits : at + n ≤ length xs). zip2_of_maps mul _ _ vs (splat_is_map vs n k lv) (chunk_is_map at n xs fits) in
    zip2_of_maps add _ _ vs (zip2_of_maps add _ _ vs (zip2_of_maps add _ _ vs (zip2_of_maps add _ _ vs
    (chunk_is_map at n out lo) (times f p lp)) (times g q lq)) (times h r lr)) (times e s ls)

-- the word that four rows, each times its factor, make of one of a list
abbrev pub four_word : List ℕ → List ℕ → List ℕ → List ℕ → List ℕ → List ℕ → ℕ → ℕ
four_word out p q r s f j =
    (slice_index out j + slice_index f 0 * slice_index p j + slice_index f 1 * slice_index q j + slice_index f 2 * slice_index r j + slice_index f 3 * slice_index
    s j) % 2 ^ 32

-- a list to which four rows were added below a place
pub record FourSoFar (old p q r s f : List ℕ) (at : ℕ) (out : List ℕ) : Type 0 where
  pub count : length out ≡ length old
  pub done : (j : ℕ) → j < at → slice_index out j ≡ four_word old p q r s f j
  pub rest : (j : ℕ) → at ≤ j → slice_index out j ≡ slice_index old j

pub four_more : (n at : ℕ) (old out p q r s f : List ℕ)
    → at + n ≤ length out → at + n ≤ length p → at + n ≤ length q → at + n ≤ length r → at + n ≤ length s
    → FourSoFar old p q r s f at out
    → let add : List ℕ → List ℕ → List ℕ = zip2 (λ x y. (x + y) % 2 ^ 32) in
    let mul : ℕ → List ℕ → List ℕ = λ k xs. zip2 (λ x y. (x * y) % 2 ^ 32) (replicate n k) (chunk at n xs) in
    FourSoFar old p q r s f (at + n) (put_chunk at out
    (add (add (add (add (chunk at n out) (mul (slice_index f 0) p)) (mul (slice_index f 1) q)) (mul (slice_index f 2) r)) (mul (slice_index f 3) s)))
four_more n at old out p q r s f lo lp lq lr ls was =
    let f0 = slice_index f 0 in
    let f1 = slice_index f 1 in
    let f2 = slice_index f 2 in
    let f3 = slice_index f 3 in
    let lane : ℕ → ℕ = λ k. ((((slice_index out (at + k) + f0 * slice_index p (at + k) % 2 ^ 32) % 2 ^ 32 + f1 * slice_index q (at + k) % 2 ^ 32) % 2 ^ 32
    + f2 * slice_index r (at + k) % 2 ^ 32) % 2 ^ 32 + f3 * slice_index s (at + k) % 2 ^ 32) % 2 ^ 32 in
    let long : length (map lane (range_with_len 0 n)) ≡ n = length-map-range_with_len lane 0 n in
    rw (four_lanes n at f0 f1 f2 f3 out p q r s lo lp lq lr ls)
    (record {
      count = length-put_chunk at out _ ∙ was.count;
      done = put_done (four_word old p q r s f) at n out _ long lo was.done
          (λ j h. let e = was.rest (at + j) (omega arith) in get_or-map-range_with_len lane 0 n j j 0 h (omega arith) ∙ omega (arith, e));
      rest = λ j h. get_or-put_chunk_above at out _ j 0 (omega (arith, long)) ∙ was.rest j (omega arith);
    })

-- with what is added after the last whole vector
pub four_end : (old p q r s f : List ℕ) (out : List ℕ) (new : List ℕ) (at : ℕ) → length new ≡ length old
    → FourSoFar old p q r s f at out
    → ((j : ℕ) → j < at → slice_index new j ≡ slice_index out j)
    → ((j : ℕ) → at ≤ j → j < length out → slice_index new j ≡ four_word out p q r s f j)
    → new ≡ plus_four old p q r s (slice_index f 0) (slice_index f 1) (slice_index f 2) (slice_index f 3)
four_end old p q r s f out new at long so_far kept done =
    words_are new (length old) (four_word old p q r s f) long (λ j h. elim (cases_lt j at) [
      | inl lt ↦ kept j lt ∙ so_far.done j lt
      | inr le ↦ done j le (omega (arith, so_far.count)) ∙ rw (so_far.rest j le) refl
    ])
