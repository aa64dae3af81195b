-- Matrices with columns of zeros after their own, in one word each and three in a word.
use Rattle.std.proofs.Common.{◌≡◌, ℕ, ◌+◌, ◌*◌, ◌/◌, ◌%◌, ◌<◌, ◌≤◌, arith, ap, ◌∙◌, sym, refl, subst, inl, inr, List, length, replicate}
use Rattle.std.proofs.lemmas.Bool.{cases_lt}
use Rattle.std.proofs.lemmas.List.{length-replicate}
use Rattle.std.proofs.lemmas.Nat.{row_fits, div_below}
use Rattle.std.proofs.lemmas.Simd.{put_chunk_is, length-put_chunk, get_or-put_chunk_below, get_or-put_chunk_at, get_or-put_chunk_above}
use Rattle.std.specs.Simd.Lanes.{put_chunk}
use borrow.Rule.Slice.PartMut.{put_mid}
use Rattle.std.specs.Prelude.{slice_index}
use Rattle.matrix_u32.specs.Sum.{list_of}
use Rattle.matrix_u32.specs.Matrix.{WordMatrix, IsWhole, entry_or_zero, widened}
use Rattle.matrix_u32.proofs.Products.{at-list_of, length-list_of, entry-matrix_of, same-list_of}
use Rattle.matrix_u32.proofs.Changes.{matrix_by_entries, some_columns}
use Rattle.lane_kernels.specs.Packed.{packed_cols, unpacked}
use Rattle.digit_pack.specs.Packed.{packed, packed_word, IsPacked}
use Rattle.digit_pack.proofs.Triples.{IsSmall, within, past, small_or_zero, holds, stays_packed, small_unpacked, zero_at}

-- the first n rows of words, each of so many, that are written into the rows of a list of zeros
pub record WidensFirst (words : List ℕ) (rows from to n : ℕ) (wide : List ℕ) : Type 0 where
  pub count : length wide ≡ rows * to
  pub here : (r q : ℕ) → r < n → q < from → slice_index wide (r * to + q) ≡ slice_index words (r * from + q)
  pub past : (r q : ℕ) → r < rows → q < to → from ≤ q → slice_index wide (r * to + q) ≡ 0
  pub below : (r q : ℕ) → n ≤ r → r < rows → q < to → slice_index wide (r * to + q) ≡ 0

pub none_widened : (words : List ℕ) (rows from to : ℕ) → WidensFirst words rows from to 0 (replicate (rows * to) 0)
none_widened words rows from to = record {
  count = length-replicate (rows * to) 0;
  here = λ r q l h. absurd (omega arith);
  past = λ r q a b c. zero_at (rows * to) (r * to + q);
  below = λ r q a b c. zero_at (rows * to) (r * to + q);
}

-- one more row
module _ (words : List ℕ) (rows from to n a b : ℕ) (wide ys : List ℕ) (w : WidensFirst words rows from to n wide) (more : n < rows) (wider : from ≤ to)
    (ea : a ≡ n * to) (eb : b ≡ from) (is : ys ≡ list_of from (λ j. slice_index words (n * from + j))) where
  long : length ys ≡ from
  long = ap length is ∙ length-list_of from (λ j. slice_index words (n * from + j))

  room : n * to + to ≤ rows * to
  room = row_fits n to rows to more (omega arith)

  abbrev new : List ℕ
  new = put_chunk (n * to) wide ys

  fits : n * to + length ys ≤ length wide
  fits = omega (arith, long, room, w.count)

  same : put_mid a b wide ys ≡ new
  same = ap (λ k. put_mid k b wide ys) ea ∙ ap (λ k. put_mid (n * to) k wide ys) (eb ∙ sym long) ∙ sym (put_chunk_is (n * to) wide ys fits)

  before : (r q : ℕ) → r < n → q < to → slice_index new (r * to + q) ≡ slice_index wide (r * to + q)
  before r q l h =
      let ends : r * to + to ≤ n * to = row_fits r to n to l (omega arith) in
      get_or-put_chunk_below (n * to) wide ys (r * to + q) 0 (omega (arith, ends))

  after : (r q : ℕ) → n ≤ r → from ≤ q → slice_index new (r * to + q) ≡ slice_index wide (r * to + q)
  after r q l h =
      let starts : n * to ≤ r * to = grind arith in
      get_or-put_chunk_above (n * to) wide ys (r * to + q) 0 (omega (arith, starts, long))

  later : (r q : ℕ) → n < r → slice_index new (r * to + q) ≡ slice_index wide (r * to + q)
  later r q l =
      let starts : n * to + to ≤ r * to = row_fits n to r to l (omega arith) in
      get_or-put_chunk_above (n * to) wide ys (r * to + q) 0 (omega (arith, starts, long))

  copied : (q : ℕ) → q < from → slice_index new (n * to + q) ≡ slice_index words (n * from + q)
  copied q h =
      get_or-put_chunk_at (n * to) wide ys q 0 (omega (arith, long)) fits
      ∙ ap (λ (l : List ℕ). slice_index l q) is
      ∙ at-list_of from (λ j. slice_index words (n * from + j)) q h

  counted : length new ≡ rows * to
  counted = length-put_chunk (n * to) wide ys ∙ w.count

  now : WidensFirst words rows from to (n + 1) new
  now = record {
    count = counted;
    here = λ r q l h. elim (cases_lt r n) [
      | inl lt ↦ before r q lt (omega arith) ∙ w.here r q lt h
      | inr ge ↦
          let e : r ≡ n = omega arith in
          ap (λ k. slice_index new (k * to + q)) e ∙ copied q h ∙ ap (λ k. slice_index words (k * from + q)) (sym e)
    ];
    past = λ r q l h g. elim (cases_lt r n) [
      | inl lt ↦ before r q lt h ∙ w.past r q l h g
      | inr ge ↦ after r q ge g ∙ w.past r q l h g
    ];
    below = λ r q g l h. later r q (omega arith) ∙ w.below r q (omega arith) l h;
  }

  pub one_widened : WidensFirst words rows from to (n + 1) (put_mid a b wide ys)
  one_widened = subst (WidensFirst words rows from to (n + 1)) (sym same) now

-- all rows
pub all_widened : (words : List ℕ) (rows from to : ℕ) (wide : List ℕ) → WidensFirst words rows from to rows wide →
    wide ≡ (widened (record { rows = rows; cols = from; words = words }) to).words
all_widened words rows from to wide w =
    let old : WordMatrix = record { rows = rows; cols = from; words = words } in
    let m : WordMatrix = record { rows = rows; cols = to; words = wide } in
    ap (λ (a : WordMatrix). a.words) (matrix_by_entries m rows to (entry_or_zero old) refl refl w.count (λ i j p q. elim (cases_lt j from) [
      | inl lt ↦ w.here i j p lt ∙ sym (within old i j lt)
      | inr ge ↦ w.past i j p q ge ∙ sym (past old i j ge)
    ]))

pub length-widened : (a : WordMatrix) (cols : ℕ) → length (widened a cols).words ≡ a.rows * cols
length-widened a cols = length-list_of (a.rows * cols) (λ k. entry_or_zero a (k / cols) (k % cols))

-- a matrix as wide as it was
pub widened_same : (a : WordMatrix) (cols : ℕ) → IsWhole a → cols ≡ a.cols → widened a cols ≡ a
widened_same a cols whole e =
    ap (widened a) e ∙ sym (matrix_by_entries a a.rows a.cols (entry_or_zero a) refl refl whole (λ i j p q. sym (within a i j q)))

-- ---- three digits in a word
module _ (rows cols wider : ℕ) (words wide : List ℕ) (h : IsPacked rows cols words) (le : cols ≤ wider)
    (is : wide ≡ (widened (record { rows = rows; cols = packed_cols cols; words = words }) (packed_cols wider)).words) where
  abbrev was : WordMatrix
  was = unpacked rows cols words

  abbrev grown : WordMatrix
  grown = widened was wider

  grown_whole : IsWhole grown
  grown_whole = length-list_of (rows * wider) _

  grown_small : IsSmall grown
  grown_small = record {
    each = λ i j p q.
        omega (arith, entry-matrix_of rows wider (entry_or_zero was) i j p q, small_or_zero was i j (small_unpacked rows cols words) p);
  }

  digit_kept : (i j : ℕ) → i < rows → entry_or_zero grown i j ≡ entry_or_zero was i j
  digit_kept i j p = elim (cases_lt j wider) [
    | inl lt ↦ within grown i j lt ∙ entry-matrix_of rows wider (entry_or_zero was) i j p lt
    | inr ge ↦ past grown i j ge ∙ sym (past was i j (omega arith))
  ]

  word_kept : (i t : ℕ) → i < rows → packed_word grown i t ≡ packed_word was i t
  word_kept i t p = omega (arith, digit_kept i (3 * t) p, digit_kept i (3 * t + 1) p, digit_kept i (3 * t + 2) p)

  old_word : (i t : ℕ) → i < rows → entry_or_zero (record { rows = rows; cols = packed_cols cols; words = words }) i t ≡ packed_word was i t
  old_word i t p =
      let old : WordMatrix = record { rows = rows; cols = packed_cols cols; words = words } in
      elim (cases_lt t (packed_cols cols)) [
        | inl lt ↦
            within old i t lt
            ∙ ap (λ (ws : List ℕ). slice_index ws (i * packed_cols cols + t)) h.same
            ∙ entry-matrix_of rows (packed_cols cols) (packed_word was) i t p lt
        | inr ge ↦
            past old i t ge
            ∙ omega (arith, past was i (3 * t) (omega arith), past was i (3 * t + 1) (omega arith), past was i (3 * t + 2) (omega arith))
      ]

  grown_words : wide ≡ packed grown
  grown_words =
      is
      ∙ same-list_of (rows * packed_cols wider) _ (λ k. packed_word grown (k / packed_cols wider) (k % packed_cols wider)) (λ k l.
      let n : ℕ = packed_cols wider in
      let some : 0 < n = some_columns k rows n l in
      let row : k / n < rows = div_below k n rows some l in
      old_word (k / n) (k % n) row ∙ sym (word_kept (k / n) (k % n) row))

  pub grown_is : unpacked rows wider wide ≡ widened (unpacked rows cols words) wider
  grown_is = holds grown wide grown_whole grown_small grown_words

  pub grown_packed : IsPacked rows wider wide
  grown_packed = stays_packed grown wide grown_whole grown_small grown_words
