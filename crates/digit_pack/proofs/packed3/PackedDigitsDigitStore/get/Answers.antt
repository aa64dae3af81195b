use Rattle.std.proofs.Common.{ap, sym, ◌∙◌, ◌≡◌, ◌<◌, ◌+◌, ◌*◌, ◌/◌, ◌%◌, ◌^◌, arith, ℕ, length}
use Rattle.std.proofs.lemmas.Grind.{get_or_default_zero}
use Rattle.std.specs.Prelude.{slice_index}
use Rattle.matrix_u32.specs.Matrix.{entry}
use Rattle.matrix_u32.proofs.Products.{entry-matrix_of}
use Rattle.lane_kernels.specs.Digit.{digit}
use Rattle.lane_kernels.specs.Packed.{packed_cols}
use Rattle.digit_pack.proofs.Triples.{count_packed}
use Rattle.digit_pack.proofs.packed3.PackedDigitsDigitStore.get.Goals as goal

pub word_place-at-requires-clause-count : goal.word_place-at-requires-clause-count
word_place-at-requires-clause-count g c = c.len.ensures ∙ c.self.inside.words.ok.0
    ∙ count_packed c.self.inside.rows c.self.inside.cols c.self.inside.words.items c.self.invariant.0

pub returns : goal.returns
unfolding digit
returns g c =
    let rows : ℕ = c.self.inside.rows in
    let cols : ℕ = c.self.inside.cols in
    let inside : c.word_place-at.result < length c.self.inside.words.items =
    omega (arith, c.len.ensures, c.self.inside.words.ok.0, c.word_place-at.ensures.inside) in
    let word : c.index.result.now ≡ slice_index c.self.inside.words.items (c.args.i * packed_cols cols + c.args.j / 3) =
    c.index.ensures ∙ get_or_default_zero c.self.inside.words.items c.word_place-at.result c.index.result.now inside
    ∙ ap (slice_index c.self.inside.words.items) c.word_place-at.ensures.value in
    ap (λ y. y / 2 ^ (10 * (c.args.j % 3)) % 1024) word
    ∙ sym (entry-matrix_of rows cols (λ i j. digit 10 (slice_index c.self.inside.words.items (i * packed_cols cols + j / 3)) (j % 3)) c.args.i c.args.j
    (omega (arith, ap (λ m. m.rows) c.self.view_is)) (omega (arith, ap (λ m. m.cols) c.self.view_is)))
    ∙ ap (λ m. entry m c.args.i c.args.j) c.self.view_is
