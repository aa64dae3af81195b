-- Marked rows as a list.
use Rattle.std.proofs.Common.{◌≡◌, ℕ, suc, ◌+◌, ◌-◌, ◌<◌, ◌≤◌, ◌&&◌, ◌||◌, arith, ap, ◌∙◌, sym, refl, subst, List, [], ◌∷◌, ◌++◌, length, filter, Bool, true, false, cond, append-nil}
use Rattle.std.proofs.lemmas.Bool.{ne_eqb}
use Rattle.std.proofs.lemmas.List.Elements.{All-filter, All-from_get_or, All-get_or, filter-append}
use Rattle.std.proofs.lemmas.List.FromFn.{get_or-range_with_len, length-range_with_len}
use Rattle.std.proofs.lemmas.List.Kept.{IsStrictlyIncreasing-filter}
use Rattle.std.specs.Prelude.{slice_index, slice_index_or, All}
use Rattle.std.specs.List.{range_with_len}
use Rattle.std.specs.List.Sorted.{IsStrictlyIncreasing}
use Rattle.hint_update.specs.Updates.{AreRowsBelow, IsUnlisted}
use Rattle.version_store.specs.Editions.{is_marked}
use Rattle.version_store.proofs.ChangedRows.{range_more}
use Rattle.version_store.proofs.RowUnions.{is_in, in_range, in_filter, range_rises}

-- the marked rows of a part, from row r on and before row r'
pub record ListsMarked (marks : List Bool) (r r' : ℕ) (listed : List ℕ) : Type 0 where
  pub ordered : r ≤ r'
  pub ascending : IsStrictlyIncreasing listed
  pub inside : (k : ℕ) → k < length listed → (r ≤ slice_index listed k) × (slice_index listed k < r')
  pub unmarked : (i : ℕ) → r ≤ i → i < r' → IsUnlisted listed i → is_marked marks i ≡ false

-- a number that is in no place of a list is not in it
not_in_list : (xs : List ℕ) (i : ℕ) → IsUnlisted xs i → is_in xs i ≡ false
not_in_list [] i out = refl
not_in_list (x ∷ xs) i out =
    ap (λ b. b || is_in xs i) (ne_eqb i x (λ e. out 0 (omega arith) (sym e))) ∙ not_in_list xs i (λ k l. out (suc k) (omega (arith, l)))

pub marked_listed : (marks : List Bool) (r r' : ℕ) (listed : List ℕ) → r ≤ r' → listed ≡ filter (is_marked marks) (range_with_len r (r' - r)) →
    ListsMarked marks r r' listed
marked_listed marks r r' listed le is =
    let all : List ℕ = range_with_len r (r' - r) in
    let inside : All (λ i. (r ≤ i) × (i < r')) (filter (is_marked marks) all) =
    All-filter (is_marked marks) (λ i. (r ≤ i) × (i < r')) all (All-from_get_or (λ i. (r ≤ i) × (i < r')) all 0 (λ i h.
    let low : i < r' - r = omega (arith, h, length-range_with_len r (r' - r)) in
    let at : slice_index_or all i 0 ≡ r + i = get_or-range_with_len r (r' - r) i 0 low in
    (omega (arith, at), omega (arith, at, low)))) in
    record {
      ordered = le;
      ascending = subst IsStrictlyIncreasing (sym is) (IsStrictlyIncreasing-filter (is_marked marks) all (range_rises r (r' - r)));
      inside = λ k l. All-get_or (λ i. (r ≤ i) × (i < r')) listed k 0 l (subst (All (λ i. (r ≤ i) × (i < r'))) (sym is) inside);
      unmarked = λ i low high out.
          let gone : (is_marked marks i && is_in all i) ≡ false =
          sym (in_filter (is_marked marks) all i) ∙ ap (λ (xs : List ℕ). is_in xs i) (sym is) ∙ not_in_list listed i out in
          by (is_marked marks i) (is_in all i) gone (in_range r (r' - r) i low (omega (arith, low, high)));
    }
  where
    by : (b c : Bool) → (b && c) ≡ false → c ≡ true → b ≡ false
    by false c e f = refl
    by true c e f = let bad : true ≡ false = sym f ∙ e in absurd cc

-- rows that an update takes
pub listed_below : (marks : List Bool) (r r' n : ℕ) (listed : List ℕ) → r' ≤ n → ListsMarked marks r r' listed → AreRowsBelow n listed
listed_below marks r r' n listed le h = record {
  ascending = h.ascending;
  below = λ k l. let part : (r ≤ slice_index listed k) × (slice_index listed k < r') = h.inside k l in omega (arith, part.1, le);
}

-- ---- one row more
more_range : (a r : ℕ) → a ≤ r → range_with_len a (r + 1 - a) ≡ range_with_len a (r - a) ++ r ∷ []
more_range a r le =
    let more : r + 1 - a ≡ r - a + 1 = omega (arith, le) in
    let last : a + (r - a) ≡ r = omega (arith, le) in
    ap (range_with_len a) more ∙ range_more a (r - a) ∙ ap (λ (x : ℕ). range_with_len a (r - a) ++ x ∷ []) last

pub one_listed : (marks : List Bool) (a r : ℕ) → a ≤ r → is_marked marks r ≡ true →
    filter (is_marked marks) (range_with_len a (r + 1 - a)) ≡ filter (is_marked marks) (range_with_len a (r - a)) ++ r ∷ []
one_listed marks a r le e =
    ap (filter (is_marked marks)) (more_range a r le)
    ∙ filter-append (is_marked marks) (range_with_len a (r - a)) (r ∷ [])
    ∙ ap (λ b. filter (is_marked marks) (range_with_len a (r - a)) ++ cond b (r ∷ []) []) e

pub none_listed : (marks : List Bool) (a r : ℕ) → a ≤ r → is_marked marks r ≡ false →
    filter (is_marked marks) (range_with_len a (r + 1 - a)) ≡ filter (is_marked marks) (range_with_len a (r - a))
none_listed marks a r le e =
    ap (filter (is_marked marks)) (more_range a r le)
    ∙ filter-append (is_marked marks) (range_with_len a (r - a)) (r ∷ [])
    ∙ ap (λ b. filter (is_marked marks) (range_with_len a (r - a)) ++ cond b (r ∷ []) []) e
    ∙ append-nil (filter (is_marked marks) (range_with_len a (r - a)))

-- the same from row 0 on
pub marked_more : (marks : List Bool) (r : ℕ) → is_marked marks r ≡ true →
    filter (is_marked marks) (range_with_len 0 (r + 1)) ≡ filter (is_marked marks) (range_with_len 0 r) ++ r ∷ []
marked_more marks r e =
    let all : r + 1 - 0 ≡ r + 1 = omega arith in
    let some : r - 0 ≡ r = omega arith in
    ap (λ n. filter (is_marked marks) (range_with_len 0 n)) (sym all) ∙ one_listed marks 0 r (omega arith) e
    ∙ ap (λ n. filter (is_marked marks) (range_with_len 0 n) ++ r ∷ []) some

pub marked_kept : (marks : List Bool) (r : ℕ) → is_marked marks r ≡ false →
    filter (is_marked marks) (range_with_len 0 (r + 1)) ≡ filter (is_marked marks) (range_with_len 0 r)
marked_kept marks r e =
    let all : r + 1 - 0 ≡ r + 1 = omega arith in
    let some : r - 0 ≡ r = omega arith in
    ap (λ n. filter (is_marked marks) (range_with_len 0 n)) (sym all) ∙ none_listed marks 0 r (omega arith) e
    ∙ ap (λ n. filter (is_marked marks) (range_with_len 0 n)) some
