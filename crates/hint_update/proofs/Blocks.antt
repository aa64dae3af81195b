-- Hints of which the digits of listed rows change, in blocks of rows.
use Rattle.std.proofs.Common.{◌≡◌, ◌≢◌, ℕ, ◌+◌, ◌-◌, ◌*◌, ◌%◌, ◌^◌, ◌<◌, ◌≤◌, ◌⊎◌, arith, ap, ◌∙◌, sym, refl, inl, inr, lit<, List, ◌∷◌, [], length}
use Rattle.std.proofs.lemmas.Bool.{cases_eq, cases_lt}
use Rattle.std.proofs.lemmas.Nat.{mul-mod_first}
use Rattle.std.specs.Prelude.{slice_index}
use Rattle.matrix_u32.specs.Sum.{sum_below}
use Rattle.matrix_u32.specs.Matrix.{WordMatrix, IsWhole, entry, row, written_row}
use Rattle.matrix_u32.specs.Blocks.{plus_rows}
use Rattle.matrix_u32.proofs.Sums.{sum_below-add, sum_below_none, sum_same, sum_zero, sum_congruent}
use Rattle.matrix_u32.proofs.Changes.{matrix_by_entries}
use Rattle.matrix_u32.proofs.Products.{words_are}
use Rattle.matrix_u32.proofs.Rows.{row_index, length-row, plus_rows-index, plus_rows-length, length-written_row, written_row-same, written_row-other}
use Rattle.digit_pack.specs.Columns.{WritesColumn}
use Rattle.hint_update.specs.Updates.{AreRowsBelow, TakesRows, TakesBlock, AddsRows, change_times, digit_change, moved_by_rows, word_digit_at}
use Rattle.hint_update.proofs.Listed.{listed_apart}

-- ---- columns of the server's hint
-- the digits of row `col` of a hint in the column of its number, from row `first` on
pub column_taken : (w : ℕ) (hint s0 s : WordMatrix) (col first : ℕ) (words : List ℕ) → WritesColumn s0 s first col words →
    ((b : ℕ) → b < length words → slice_index words b ≡ word_digit_at w (row hint col) (first + b)) → TakesBlock w hint s0 s (col ∷ []) first (length words)
column_taken w hint s0 s col first words h are = record {
  rows = h.rows;
  cols = h.cols;
  whole = h.whole;
  taken = λ r k low high l.
      let few : k < 1 = l in
      let e : k ≡ 0 = omega (arith, few) in
      let b : ℕ = r - first in
      let at : first + b ≡ r = omega (arith, low) in
      let inside : b < length words = omega (arith, low, high) in
      ap (λ k. entry s r (slice_index (col ∷ []) k)) e ∙ ap (λ r. entry s r col) (sym at) ∙ h.here b inside ∙ are b inside
      ∙ ap (word_digit_at w (row hint col)) at ∙ ap (λ k. word_digit_at w (row hint (slice_index (col ∷ []) k)) r) (sym e);
  unlisted = λ r j p q out. h.elsewhere r j p q (λ x. out 0 (lit< tt) (sym x.0));
  elsewhere = λ r j p q out. h.elsewhere r j p q (λ x. elim out [
    | inl l ↦ absurd (omega (arith, l, x.1))
    | inr g ↦ absurd (omega (arith, g, x.2))
  ]);
}

-- a matrix before and after the digits of the first n listed rows of a hint come into `count` rows
-- of their columns, from row `first` on
pub record TakesColumns (w : ℕ) (hint old new : WordMatrix) (listed : List ℕ) (n first count : ℕ) : Type 0 where
  pub few : n ≤ length listed
  pub rows : new.rows ≡ old.rows
  pub cols : new.cols ≡ old.cols
  pub whole : IsWhole new
  pub taken : (r k : ℕ) → first ≤ r → r < first + count → k < n →
      entry new r (slice_index listed k) ≡ word_digit_at w (row hint (slice_index listed k)) r
  pub kept : (r j : ℕ) → r < old.rows → j < old.cols → ((k : ℕ) → k < n → slice_index listed k ≢ j) ⊎ ((r < first) ⊎ (first + count ≤ r)) →
      entry new r j ≡ entry old r j

pub no_columns_taken : (w : ℕ) (hint s : WordMatrix) (listed : List ℕ) (first count : ℕ) → IsWhole s → TakesColumns w hint s s listed 0 first count
no_columns_taken w hint s listed first count whole = record {
  few = omega arith;
  rows = refl;
  cols = refl;
  whole = whole;
  taken = λ r k low high l. absurd (omega (arith, l));
  kept = λ r j p q out. refl;
}

-- a place of a list of one has its only number
only_one : (col k j : ℕ) → k < length (col ∷ []) → slice_index (col ∷ []) k ≡ j → col ≡ j
only_one col k j l is =
    let few : k < 1 = l in
    let e : 0 ≡ k = omega (arith, few) in
    ap (slice_index (col ∷ [])) e ∙ is

-- one column more
pub more_columns_taken : (w : ℕ) (hint s0 s s' : WordMatrix) (listed : List ℕ) (n first count : ℕ) → AreRowsBelow s0.cols listed → n < length listed →
    first + count ≤ s0.rows → TakesColumns w hint s0 s listed n first count → TakesBlock w hint s s' (slice_index listed n ∷ []) first count →
    TakesColumns w hint s0 s' listed (n + 1) first count
more_columns_taken w hint s0 s s' listed n first count rows l fits h g =
    let col : ℕ = slice_index listed n in
    record {
      few = omega (arith, l);
      rows = g.rows ∙ h.rows;
      cols = g.cols ∙ h.cols;
      whole = g.whole;
      taken = λ r k low high q. elim (cases_eq k n) [
        | inl e ↦
            ap (λ k. entry s' r (slice_index listed k)) e ∙ g.taken r 0 low high (lit< tt)
            ∙ ap (λ k. word_digit_at w (row hint (slice_index listed k)) r) (sym e)
        | inr apart ↦
            let before : k < n = omega (arith, q, apart) in
            let inside : slice_index listed k < s0.cols = rows.below k (omega (arith, before, l)) in
            g.unlisted r (slice_index listed k) (omega (arith, high, fits, h.rows)) (omega (arith, inside, h.cols))
            (λ i b is. listed_apart listed rows.ascending k n before l (sym (only_one col i (slice_index listed k) b is)))
            ∙ h.taken r k low high before
      ];
      kept = λ r j p q out. elim out [
        | inl none ↦
            g.unlisted r j (omega (arith, p, h.rows)) (omega (arith, q, h.cols)) (λ i b is. none n (omega arith) (only_one col i j b is))
            ∙ h.kept r j p q (inl (λ k b. none k (omega (arith, b))))
        | inr away ↦ g.elsewhere r j (omega (arith, p, h.rows)) (omega (arith, q, h.cols)) away ∙ h.kept r j p q (inr away)
      ];
    }

-- all of them
pub all_columns_taken : (w : ℕ) (hint s0 s : WordMatrix) (listed : List ℕ) (n first count : ℕ) → length listed ≤ n →
    TakesColumns w hint s0 s listed n first count → TakesBlock w hint s0 s listed first count
all_columns_taken w hint s0 s listed n first count all h = record {
  rows = h.rows;
  cols = h.cols;
  whole = h.whole;
  taken = λ r k low high l. h.taken r k low high (omega (arith, l, all));
  unlisted = λ r j p q out. h.kept r j p q (inl (λ k b. out k (omega (arith, b, h.few))));
  elsewhere = λ r j p q out. h.kept r j p q (inr out);
}

-- ---- rows of the server's hint
pub no_rows_taken : (w : ℕ) (hint s : WordMatrix) (listed : List ℕ) (first : ℕ) → IsWhole s → TakesBlock w hint s s listed first 0
no_rows_taken w hint s listed first whole = record {
  rows = refl;
  cols = refl;
  whole = whole;
  taken = λ r k low high l. absurd (omega (arith, low, high));
  unlisted = λ r j p q out. refl;
  elsewhere = λ r j p q out. refl;
}

-- further rows
pub more_taken : (w : ℕ) (hint s0 s s' : WordMatrix) (listed : List ℕ) (first count more : ℕ) → AreRowsBelow s0.cols listed → first + count + more ≤ s0.rows →
    TakesBlock w hint s0 s listed first count → TakesBlock w hint s s' listed (first + count) more → TakesBlock w hint s0 s' listed first (count + more)
more_taken w hint s0 s s' listed first count more rows fits h g = record {
  rows = g.rows ∙ h.rows;
  cols = g.cols ∙ h.cols;
  whole = g.whole;
  taken = λ r k low high l. elim (cases_lt r (first + count)) [
    | inl p ↦
        let inside : slice_index listed k < s0.cols = rows.below k l in
        g.elsewhere r (slice_index listed k) (omega (arith, p, fits, h.rows)) (omega (arith, inside, h.cols)) (inl p) ∙ h.taken r k low p l
    | inr past ↦ g.taken r k past (omega (arith, high)) l
  ];
  unlisted = λ r j p q out. g.unlisted r j (omega (arith, p, h.rows)) (omega (arith, q, h.cols)) out ∙ h.unlisted r j p q out;
  elsewhere = λ r j p q out.
      g.elsewhere r j (omega (arith, p, h.rows)) (omega (arith, q, h.cols)) (elim out [
        | inl l ↦ inl (omega (arith, l))
        | inr past ↦ inr (omega (arith, past))
      ])
      ∙ h.elsewhere r j p q (elim out [
        | inl l ↦ inl l
        | inr past ↦ inr (omega (arith, past))
      ]);
}

-- all rows
pub all_taken : (w : ℕ) (hint s0 s : WordMatrix) (listed : List ℕ) (n : ℕ) → s0.rows ≤ n → TakesBlock w hint s0 s listed 0 n → TakesRows w hint s0 s listed
all_taken w hint s0 s listed n all h = record {
  rows = h.rows;
  cols = h.cols;
  whole = h.whole;
  taken = λ r k p l. h.taken r k (omega arith) (omega (arith, all, p)) l;
  kept = λ r j p q out. h.unlisted r j p q out;
}

-- ---- rows that are added
-- rows that are added no times leave a list
pub none_added : (out : List ℕ) (n : ℕ) (f : ℕ → ℕ) (b : WordMatrix) (start : ℕ) → ((q : ℕ) → slice_index out q < 2 ^ 32) →
    ((k : ℕ) → k < n → f k ≡ 0) → out ≡ plus_rows out n f b start
none_added out n f b start small none =
    words_are out (length out) _ refl (λ q h.
    let s = small q in
    let zero : sum_below n (λ k. f k * entry b (start + k) q) ≡ 0 =
    sum_same n (λ k. f k * entry b (start + k) q) (λ _. 0) (λ k l. ap (λ y. y * entry b (start + k) q) (none k l) ∙ omega arith)
    ∙ sum_zero n in
    rw zero (omega (arith, s)))

pub no_row_added : (c factors b : WordMatrix) (first t n : ℕ) → IsWhole c → AddsRows c c first 0 factors b t n
no_row_added c factors b first t n whole = record {
  rows = refl;
  cols = refl;
  whole = whole;
  added = λ i q l p. absurd (omega (arith, l));
  elsewhere = λ r q l p out. refl;
}

-- to one row more, which is written with the right words
pub row_added : (c0 c factors b : WordMatrix) (first count t n : ℕ) (words : List ℕ) → AddsRows c0 c first count factors b t n → first + count < c0.rows →
    length words ≡ c.cols →
    ((q : ℕ) → q < c.cols →
    slice_index words q ≡ (entry c (first + count) q + sum_below n (λ k. entry factors count (t + k) * entry b (t + k) q)) % 2 ^ 32) →
    AddsRows c0 (written_row c (first + count) words) first (count + 1) factors b t n
row_added c0 c factors b first count t n words h fits long is =
    let r : ℕ = first + count in
    let inside : r < c.rows = omega (arith, fits, h.rows) in
    let sum : ℕ → ℕ → ℕ = λ i q. sum_below n (λ k. entry factors i (t + k) * entry b (t + k) q) in
    record {
      rows = h.rows;
      cols = h.cols;
      whole = length-written_row c r words h.whole inside long;
      added = λ i q l p.
          let across : q < c.cols = omega (arith, p, h.cols) in
          elim (cases_eq i count) [
            | inl e ↦
                ap (λ i. entry (written_row c r words) (first + i) q) e ∙ written_row-same c r words h.whole inside long q across ∙ is q across
                ∙ ap (λ y. (y + sum count q) % 2 ^ 32) (h.elsewhere r q fits p (inr (omega arith)) ∙ ap (λ i. entry c0 (first + i) q) (sym e))
                ∙ ap (λ x. (entry c0 (first + i) q + sum x q) % 2 ^ 32) (sym e)
            | inr apart ↦
                written_row-other c r words h.whole inside long (first + i) q (λ x. apart (omega (arith, x))) across ∙ h.added i q (omega (arith, l, apart)) p
          ];
      elsewhere = λ i q l p out.
          written_row-other c r words h.whole inside long i q
          (elim out [
            | inl low ↦ λ x. absurd (omega (arith, low, x))
            | inr past ↦ λ x. absurd (omega (arith, past, x))
          ]) (omega (arith, p, h.cols))
          ∙ h.elsewhere i q l p (elim out [
            | inl low ↦ inl low
            | inr past ↦ inr (omega (arith, past))
          ]);
    }

-- the same of a row to which others are added
pub one_added : (c0 c factors b : WordMatrix) (first count t n : ℕ) (f : ℕ → ℕ) (words : List ℕ) → AddsRows c0 c first count factors b t n → first + count < c0.rows →
    ((k : ℕ) → k < n → f k ≡ entry factors count (t + k)) → words ≡ plus_rows (row c (first + count)) n f b t →
    AddsRows c0 (written_row c (first + count) words) first (count + 1) factors b t n
one_added c0 c factors b first count t n f words h fits are is =
    let r : ℕ = first + count in
    row_added c0 c factors b first count t n words h fits (ap length is ∙ plus_rows-length (row c r) n f b t ∙ length-row c r) (λ q across.
    ap (λ (xs : List ℕ). slice_index xs q) is ∙ plus_rows-index (row c r) n f b t q (omega (arith, across, length-row c r))
    ∙ ap (λ y. (y + sum_below n (λ k. f k * entry b (t + k) q)) % 2 ^ 32) (row_index c r q across)
    ∙ ap (λ y. (entry c r q + y) % 2 ^ 32)
    (sum_same n (λ k. f k * entry b (t + k) q) (λ k. entry factors count (t + k) * entry b (t + k) q) (λ k l. ap (λ y. y * entry b (t + k) q) (are k l))))

-- no rows of the other matrix
pub nothing_added : (c factors b : WordMatrix) (first count : ℕ) → IsWhole c → ((i q : ℕ) → entry c i q < 2 ^ 32) → AddsRows c c first count factors b 0 0
nothing_added c factors b first count whole small = record {
  rows = refl;
  cols = refl;
  whole = whole;
  added = λ i q l p.
      let none : sum_below 0 (λ k. entry factors i (0 + k) * entry b (0 + k) q) ≡ 0 = sum_below_none _ in
      let s : entry c (first + i) q < 2 ^ 32 = small (first + i) q in
      omega (arith, none, s);
  elsewhere = λ r q l p out. refl;
}

-- further rows of it
pub more_added : (c0 c c' factors b : WordMatrix) (first count t n : ℕ) → first + count ≤ c0.rows → AddsRows c0 c first count factors b 0 t →
    AddsRows c c' first count factors b t n → AddsRows c0 c' first count factors b 0 (t + n)
more_added c0 c c' factors b first count t n fits h g = record {
  rows = g.rows ∙ h.rows;
  cols = g.cols ∙ h.cols;
  whole = g.whole;
  added = λ i q l p.
      let f : ℕ → ℕ = λ k. entry factors i (0 + k) * entry b (0 + k) q in
      let parts : sum_below (t + n) f ≡ sum_below t f + sum_below n (λ k. entry factors i (t + k) * entry b (t + k) q) =
      sum_below-add t n f ∙ ap (λ y. sum_below t f + y)
      (sum_same n (λ k. f (t + k)) (λ k. entry factors i (t + k) * entry b (t + k) q) (λ k m. ap (λ x. entry factors i x * entry b x q) (omega arith))) in
      let first_part : entry c (first + i) q ≡ (entry c0 (first + i) q + sum_below t f) % 2 ^ 32 = h.added i q l p in
      let last_part : entry c' (first + i) q ≡ (entry c (first + i) q + sum_below n (λ k. entry factors i (t + k) * entry b (t + k) q)) % 2 ^ 32 =
      g.added i q l (omega (arith, p, h.cols)) in
      omega (arith, parts, first_part, last_part);
  elsewhere = λ r q l p out. g.elsewhere r q (omega (arith, l, h.rows)) (omega (arith, p, h.cols)) out ∙ h.elsewhere r q l p out;
}

-- ---- the client's hint
-- the change of word q of row i by the listed rows
abbrev moved_word : ℕ → WordMatrix → WordMatrix → WordMatrix → List ℕ → ℕ → ℕ → ℕ
moved_word w hint s0 a2 listed i q = sum_below (length listed) (λ k. digit_change w hint s0 listed i k * entry a2 (slice_index listed k) q)

-- the rows before row r have changed, and the others are as before
pub record IsMovedTo (r w : ℕ) (hint s0 c0 c a2 : WordMatrix) (listed : List ℕ) : Type 0 where
  pub rows : c.rows ≡ c0.rows
  pub cols : c.cols ≡ c0.cols
  pub whole : IsWhole c
  pub moved : (i q : ℕ) → i < r → i < c0.rows → q < c0.cols → entry c i q ≡ (entry c0 i q + moved_word w hint s0 a2 listed i q) % 2 ^ 32
  pub stays : (i q : ℕ) → r ≤ i → i < c0.rows → q < c0.cols → entry c i q ≡ entry c0 i q

pub none_moved : (w : ℕ) (hint s0 c a2 : WordMatrix) (listed : List ℕ) → IsWhole c → IsMovedTo 0 w hint s0 c c a2 listed
none_moved w hint s0 c a2 listed whole = record {
  rows = refl;
  cols = refl;
  whole = whole;
  moved = λ i q l p b. absurd (omega (arith, l));
  stays = λ i q l p b. refl;
}

-- a block more, whose changes are those of digits that no row before took
pub block_moved : (w : ℕ) (hint s0 s c0 c c' a2 public changes : WordMatrix) (listed : List ℕ) (first count : ℕ) → AreRowsBelow s0.cols listed →
    first + count ≤ s0.rows → c0.rows ≡ s0.rows → c0.cols ≡ a2.cols → TakesBlock w hint s0 s listed 0 first →
    ((b k : ℕ) → b < count → k < length listed → entry changes b k ≡ digit_change w hint s listed (first + b) k) →
    ((k q : ℕ) → k < length listed → q < a2.cols → entry public k q ≡ entry a2 (slice_index listed k) q) →
    AddsRows c c' first count changes public 0 (length listed) →
    IsMovedTo first w hint s0 c0 c a2 listed → IsMovedTo (first + count) w hint s0 c0 c' a2 listed
block_moved w hint s0 s c0 c c' a2 public changes listed first count rows fits high wide taken are copied adds h = record {
  rows = adds.rows ∙ h.rows;
  cols = adds.cols ∙ h.cols;
  whole = adds.whole;
  moved = λ i q l p b. elim (cases_lt i first) [
    | inl low ↦ adds.elsewhere i q (omega (arith, p, h.rows)) (omega (arith, b, h.cols)) (inl low) ∙ h.moved i q low p b
    | inr past ↦
        let o : ℕ = i - first in
        let at : first + o ≡ i = omega (arith, past) in
        let sum : sum_below (length listed) (λ k. entry changes o (0 + k) * entry public (0 + k) q) ≡ moved_word w hint s0 a2 listed i q =
        sum_same (length listed) (λ k. entry changes o (0 + k) * entry public (0 + k) q)
        (λ k. digit_change w hint s0 listed i k * entry a2 (slice_index listed k) q) (λ k m.
        let zero : 0 + k ≡ k = omega arith in
        let was : entry s i (slice_index listed k) ≡ entry s0 i (slice_index listed k) =
        taken.elsewhere i (slice_index listed k) (omega (arith, p, high)) (rows.below k m) (inr (omega (arith, past))) in
        ap (λ x. entry changes o x * entry public x q) zero
        ∙ ap (λ y. y * entry public k q) (are o k (omega (arith, l, past)) m ∙ ap (λ i. digit_change w hint s listed i k) at
        ∙ ap (λ y. (word_digit_at w (row hint (slice_index listed k)) i + (2 ^ 32 - y)) % 2 ^ 32) was)
        ∙ ap (λ y. digit_change w hint s0 listed i k * y) (copied k q m (omega (arith, b, wide)))) in
        ap (λ i. entry c' i q) (sym at) ∙ adds.added o q (omega (arith, l, past)) (omega (arith, b, h.cols))
        ∙ ap (λ y. (entry c (first + o) q + y) % 2 ^ 32) sum
        ∙ ap (λ i'. (entry c i' q + moved_word w hint s0 a2 listed i q) % 2 ^ 32) at
        ∙ ap (λ y. (y + moved_word w hint s0 a2 listed i q) % 2 ^ 32) (h.stays i q past p b)
  ];
  stays = λ i q l p b.
      adds.elsewhere i q (omega (arith, p, h.rows)) (omega (arith, b, h.cols)) (inr l) ∙ h.stays i q (omega (arith, l)) p b;
}

-- all rows
pub all_moved : (r w : ℕ) (hint s0 s c0 c a2 : WordMatrix) (listed : List ℕ) → c0.rows ≤ r → c0.rows ≡ s0.rows → TakesRows w hint s0 s listed →
    IsMovedTo r w hint s0 c0 c a2 listed → c ≡ moved_by_rows c0 s0 s a2 listed
all_moved r w hint s0 s c0 c a2 listed all high takes h =
    matrix_by_entries c c0.rows c0.cols
    (λ i q. (entry c0 i q + sum_below (length listed) (change_times s0 s a2 listed i q)) % 2 ^ 32) h.rows h.cols h.whole (λ i q p b.
    let same : moved_word w hint s0 a2 listed i q % 2 ^ 32 ≡ sum_below (length listed) (change_times s0 s a2 listed i q) % 2 ^ 32 =
    sum_congruent (length listed) (λ k. digit_change w hint s0 listed i k * entry a2 (slice_index listed k) q) (change_times s0 s a2 listed i q) (λ k l.
    let digit_of : ℕ = word_digit_at w (row hint (slice_index listed k)) i in
    let old : ℕ = entry s0 i (slice_index listed k) in
    mul-mod_first (digit_of + (2 ^ 32 - old)) (entry a2 (slice_index listed k) q) (2 ^ 32)
    ∙ ap (λ y. (y + (2 ^ 32 - old)) * entry a2 (slice_index listed k) q % 2 ^ 32) (sym (takes.taken i k (omega (arith, p, high)) l))) in
    h.moved i q (omega (arith, p, all)) p b ∙ omega (arith, same))
