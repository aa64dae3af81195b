use Rattle.std.proofs.Common.{◌≡◌, ◌≤◌, ◌*◌, ℕ, List, arith, ap, ◌∙◌, sym, length}
use Rattle.matrix_u32.specs.Matrix.{WordMatrix, widened}
use Rattle.lane_kernels.specs.Packed.{packed_cols}
use Rattle.digit_pack.proofs.Triples.{count_packed}
use Rattle.digit_pack.proofs.WiderRows.{widened_same, grown_is, grown_packed}
use Rattle.digit_pack.proofs.packed3.PackedDigitsDigitStore.grow.Goals as goal

-- words whose rows stay as long as they were
kept : (rows cols wider : ℕ) (words : List ℕ) → length words ≡ rows * packed_cols cols → packed_cols wider ≡ packed_cols cols →
    words ≡ (widened (record { rows = rows; cols = packed_cols cols; words = words }) (packed_cols wider)).words
kept rows cols wider words count e =
    sym (ap (λ (a : WordMatrix). a.words) (widened_same (record { rows = rows; cols = packed_cols cols; words = words }) (packed_cols wider) count e))

-- words whose rows become longer
regrown : (rows cols wider from to : ℕ) (old lent wide : List ℕ) → wide ≡ (widened (record { rows = rows; cols = from; words = lent }) to).words → lent ≡ old →
    from ≡ packed_cols cols → to ≡ packed_cols wider →
    wide ≡ (widened (record { rows = rows; cols = packed_cols cols; words = old }) (packed_cols wider)).words
regrown rows cols wider from to old lent wide e el ef et =
    e ∙ ap (λ (ws : List ℕ). (widened (record { rows = rows; cols = from; words = ws }) to).words) el
    ∙ ap (λ n. (widened (record { rows = rows; cols = n; words = old }) to).words) ef
    ∙ ap (λ n. (widened (record { rows = rows; cols = packed_cols cols; words = old }) n).words) et

pub invariant_of-self : goal.invariant_of-self
invariant_of-self g c =
    let rows : ℕ = c.self.inside.rows in
    let cols : ℕ = c.self.inside.cols in
    let le : cols ≤ c.args.cols = omega (arith, ap (λ m. m.cols) c.self.view_is) in
    let e : packed_cols c.args.cols ≡ packed_cols cols = sym c.row_words-to.ensures ∙ sym c.if-from-to.true ∙ c.row_words-from.ensures in (
      grown_packed rows cols c.args.cols c.self.inside.words.items c.self.inside.words.items c.self.invariant.0 le
          (kept rows cols c.args.cols c.self.inside.words.items (count_packed rows cols c.self.inside.words.items c.self.invariant.0) e),
      c.in_ok-judge_size.ensures.fits,
    )

pub returns-then-from-to-clause-grown : goal.returns-then-from-to-clause-grown
returns-then-from-to-clause-grown g c =
    let rows : ℕ = c.self.inside.rows in
    let cols : ℕ = c.self.inside.cols in
    let le : cols ≤ c.args.cols = omega (arith, ap (λ m. m.cols) c.self.view_is) in
    let e : packed_cols c.args.cols ≡ packed_cols cols = sym c.row_words-to.ensures ∙ sym c.if-from-to.true ∙ c.row_words-from.ensures in
    grown_is rows cols c.args.cols c.self.inside.words.items c.self.inside.words.items c.self.invariant.0 le
    (kept rows cols c.args.cols c.self.inside.words.items (count_packed rows cols c.self.inside.words.items c.self.invariant.0) e)
    ∙ ap (λ m. widened m c.args.cols) c.self.view_is

pub widened_words-requires-clause-count : goal.widened_words-requires-clause-count
widened_words-requires-clause-count g c =
    ap length c.deref.ensures.value
    ∙ count_packed c.self.inside.rows c.self.inside.cols c.self.inside.words.items c.self.invariant.0
    ∙ ap (λ n. c.self.inside.rows * n) (sym c.row_words-from.ensures)

pub invariant_of-self-2 : goal.invariant_of-self-2
invariant_of-self-2 g c =
    let rows : ℕ = c.self.inside.rows in
    let cols : ℕ = c.self.inside.cols in
    let le : cols ≤ c.args.cols = omega (arith, ap (λ m. m.cols) c.self.view_is) in
    let words = regrown rows cols c.args.cols c.row_words-from.result c.row_words-to.result c.self.inside.words.items c.deref.result.now c.in-Ok.words.items
    c.in-Ok.ensures c.deref.ensures.value c.row_words-from.ensures c.row_words-to.ensures in
    (grown_packed rows cols c.args.cols c.self.inside.words.items c.in-Ok.words.items c.self.invariant.0 le words, c.in_ok-judge_size.ensures.fits)

pub returns-clause-grown : goal.returns-clause-grown
returns-clause-grown g c =
    let rows : ℕ = c.self.inside.rows in
    let cols : ℕ = c.self.inside.cols in
    let le : cols ≤ c.args.cols = omega (arith, ap (λ m. m.cols) c.self.view_is) in
    let words = regrown rows cols c.args.cols c.row_words-from.result c.row_words-to.result c.self.inside.words.items c.deref.result.now c.in-Ok.words.items
    c.in-Ok.ensures c.deref.ensures.value c.row_words-from.ensures c.row_words-to.ensures in
    grown_is rows cols c.args.cols c.self.inside.words.items c.in-Ok.words.items c.self.invariant.0 le words
    ∙ ap (λ m. widened m c.args.cols) c.self.view_is
