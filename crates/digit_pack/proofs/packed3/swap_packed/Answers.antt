use Rattle.std.proofs.Common.{◌≡◌, ◌+◌, ◌*◌, ◌/◌, ◌%◌, ◌^◌, ◌<◌, ℕ, List, arith, ap, ◌∙◌, sym, subst, length}
use Rattle.std.specs.Prelude.{slice_index, slice_set}
use Rattle.matrix_u32.specs.Matrix.{WordMatrix, entry, with_entry}
use Rattle.matrix_u32.proofs.Products.{entry-matrix_of}
use Rattle.lane_kernels.specs.Digit.{digit}
use Rattle.lane_kernels.specs.Packed.{packed_cols, unpacked}
use Rattle.digit_pack.specs.Packed.{IsReplaced}
use Rattle.digit_pack.proofs.ColumnLemmas.{SwapsFirst, none_swapped, one_swapped}
use Rattle.digit_pack.proofs.Triples.{count_packed, whole_unpacked, word_small, written, written_packed}
use Rattle.digit_pack.proofs.packed3.swap_packed.Goals as goal

pub loop-b-init : goal.loop-b-init
loop-b-init c = record {
  packed = c.requires.packed;
  swapped = none_swapped (unpacked c.args.rows c.args.cols c.args.words.now) c.args.first c.args.j c.args.others.now
      (whole_unpacked c.args.rows c.args.cols c.args.words.now);
}

pub word_place-at-requires-clause-count : goal.word_place-at-requires-clause-count
word_place-at-requires-clause-count c = count_packed c.args.rows c.args.cols c.loop-b.words c.loop-b.invariant.packed

pub replaced-requires-clause-word : goal.replaced-requires-clause-word
replaced-requires-clause-word c =
    let here : c.args.first + c.loop-b.b < c.args.rows = omega (arith, c.loop-b-test.true, c.loop-b.auto.b-end, c.requires.inside) in
    word_small c.args.rows c.args.cols c.loop-b.words (c.args.first + c.loop-b.b) c.args.j c.word_place-at.result c.loop-b.invariant.packed here c.requires.col
    c.word_place-at.ensures.value

pub loop-b-preserved : goal.loop-b-preserved
unfolding digit
loop-b-preserved c =
    let rows : ℕ = c.args.rows in
    let cols : ℕ = c.args.cols in
    let first : ℕ = c.args.first in
    let j : ℕ = c.args.j in
    let b : ℕ = c.loop-b.b in
    let r : ℕ = first + b in
    let words : List ℕ = c.loop-b.words in
    let others : List ℕ = c.loop-b.others in
    let before : List ℕ = c.args.others.now in
    let at : ℕ = c.word_place-at.result in
    let w : ℕ = c.replaced.result in
    let was : ℕ = slice_index words at / 2 ^ (10 * (j % 3)) % 1024 in
    let old : WordMatrix = unpacked rows cols c.args.words.now in
    let inside : b < length before = omega (arith, c.loop-b-test.true, c.loop-b.auto.b-end) in
    let here : r < rows = omega (arith, inside, c.requires.inside) in
    let col : j < cols = c.requires.col in
    let d : ℕ = slice_index others b in
    let small : d < 1024 = omega (arith, c.loop-b.invariant.swapped.rest b (omega arith), c.requires.small b inside) in
    let place : at ≡ r * packed_cols cols + j / 3 = c.word_place-at.ensures.value in
    let is : IsReplaced (slice_index words at) (j % 3) d w = c.replaced.ensures in
    let now : unpacked rows cols (slice_set words at w) ≡ with_entry (unpacked rows cols words) r j d =
    written rows cols words r j d at w c.loop-b.invariant.packed here col small place is in
    let read : was ≡ entry (unpacked rows cols words) r j =
    ap (λ k. slice_index words k / 2 ^ (10 * (j % 3)) % 1024) place
    ∙ sym (entry-matrix_of rows cols (λ i j. digit 10 (slice_index words (i * packed_cols cols + j / 3)) (j % 3)) r j here col) in
    record {
      packed = written_packed rows cols words r j d at w c.loop-b.invariant.packed here col small place is;
      swapped = subst (λ m. SwapsFirst old m first j (b + 1) before (slice_set others b was)) (sym now)
          (one_swapped old (unpacked rows cols words) first j b was before others c.loop-b.invariant.swapped inside here col read);
    }
