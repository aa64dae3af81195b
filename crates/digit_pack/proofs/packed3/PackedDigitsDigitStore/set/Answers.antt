use Rattle.std.proofs.Common.{ap, ◌∙◌, ◌≡◌, ◌<◌, ◌%◌, arith, length, subst}
use Rattle.std.proofs.lemmas.Grind.{get_or_default_zero}
use Rattle.std.specs.Prelude.{slice_index}
use Rattle.matrix_u32.specs.Matrix.{with_entry}
use Rattle.digit_pack.specs.Packed.{IsReplaced}
use Rattle.digit_pack.proofs.Triples.{count_packed, word_small, written, written_packed}
use Rattle.digit_pack.proofs.packed3.PackedDigitsDigitStore.set.Goals as goal

pub word_place-at-requires-clause-count : goal.word_place-at-requires-clause-count
word_place-at-requires-clause-count g c = c.len.ensures ∙ c.self.inside.words.ok.0
    ∙ count_packed c.self.inside.rows c.self.inside.cols c.self.inside.words.items c.self.invariant.0

pub replaced-requires-clause-word : goal.replaced-requires-clause-word
replaced-requires-clause-word g c =
    let inside : c.word_place-at.result < length c.self.inside.words.items =
    omega (arith, c.len.ensures, c.self.inside.words.ok.0, c.word_place-at.ensures.inside) in
    let word : c.index.result.now ≡ slice_index c.self.inside.words.items c.word_place-at.result = c.index.ensures
    ∙ get_or_default_zero c.self.inside.words.items c.word_place-at.result c.index.result.now inside in
    omega (
      arith,
      word,
      word_small c.self.inside.rows c.self.inside.cols c.self.inside.words.items c.args.i c.args.j c.word_place-at.result c.self.invariant.0
          (omega (arith, ap (λ m. m.rows) c.self.view_is)) (omega (arith, ap (λ m. m.cols) c.self.view_is)) c.word_place-at.ensures.value,
    )

pub invariant_of-self : goal.invariant_of-self
invariant_of-self g c =
    let inside : c.word_place-at.result < length c.self.inside.words.items =
    omega (arith, c.len.ensures, c.self.inside.words.ok.0, c.word_place-at.ensures.inside) in
    let word : c.index.result.now ≡ slice_index c.self.inside.words.items c.word_place-at.result = c.index.ensures
    ∙ get_or_default_zero c.self.inside.words.items c.word_place-at.result c.index.result.now inside in (
      written_packed c.self.inside.rows c.self.inside.cols c.self.inside.words.items c.args.i c.args.j c.args.digit c.word_place-at.result c.replaced.result
          c.self.invariant.0
          (omega (arith, ap (λ m. m.rows) c.self.view_is)) (omega (arith, ap (λ m. m.cols) c.self.view_is)) c.requires.small c.word_place-at.ensures.value
          (subst (λ y. IsReplaced y (c.args.j % 3) c.args.digit c.replaced.result) word c.replaced.ensures),
      c.self.invariant.1,
    )

pub returns : goal.returns
returns g c =
    let inside : c.word_place-at.result < length c.self.inside.words.items =
    omega (arith, c.len.ensures, c.self.inside.words.ok.0, c.word_place-at.ensures.inside) in
    let word : c.index.result.now ≡ slice_index c.self.inside.words.items c.word_place-at.result = c.index.ensures
    ∙ get_or_default_zero c.self.inside.words.items c.word_place-at.result c.index.result.now inside in
    written c.self.inside.rows c.self.inside.cols c.self.inside.words.items c.args.i c.args.j c.args.digit c.word_place-at.result c.replaced.result
    c.self.invariant.0
    (omega (arith, ap (λ m. m.rows) c.self.view_is)) (omega (arith, ap (λ m. m.cols) c.self.view_is)) c.requires.small c.word_place-at.ensures.value
    (subst (λ y. IsReplaced y (c.args.j % 3) c.args.digit c.replaced.result) word c.replaced.ensures)
    ∙ ap (λ m. with_entry m c.args.i c.args.j c.args.digit) c.self.view_is
