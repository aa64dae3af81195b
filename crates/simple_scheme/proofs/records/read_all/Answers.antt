use Rattle.std.proofs.Common.{arith, ap, sym, ◌∙◌, ◌≡◌, ◌+◌, ◌*◌, ◌<◌, ◌^◌, ℕ, length, List, subst}
use Rattle.std.specs.Prelude.{All}
use Rattle.matrix_u32.proofs.Products.{length-list_of}
use Rattle.seed_expand.specs.Words.{word}
use Rattle.digit_pack.specs.Layout.{digits_per_record}
use Rattle.simple_scheme.specs.Simple.{secret, simple_reading}
use Rattle.simple_scheme.proofs.Lists.{kept, read_is, small_reading, length-reading}
use Rattle.simple_scheme.proofs.records.read_all.Goals as goal

pub read_digits-requires-clause-secret : goal.read_digits-requires-clause-secret
read_digits-requires-clause-secret g c =
    ap length (c.deref.ensures.value ∙ c.in_ok-s.ensures.words) ∙ length-list_of c.cols.result (λ k. word c.args.asked.now.seed.now (4 * c.args.asked.now.number) (0 + k))
    ∙ c.cols.ensures

pub returns : goal.returns
returns g c =
    let digits : List ℕ = simple_reading c.args.layout.now c.args.hint.now c.args.asked.now.seed.now c.args.asked.now.number c.args.asked.now.i c.args.answer.now in
    let n : length c.deref_mut.result.now ≡ digits_per_record c.args.layout.now =
    omega (arith, c.deref_mut.ensures.len, c.in_ok-digits.ensures.len, c.digits_per_record.ensures.value) in
    let out : c.read_digits.new.out ≡ digits =
    read_is c.args.layout.now c.args.hint.now c.args.asked.now.seed.now c.args.asked.now.number c.args.asked.now.i c.args.answer.now c.width.result c.place-first.result.0
    (length c.deref_mut.result.now) c.deref.result.now c.read_digits.new.out
    c.width.ensures.value (ap (λ p. p.0) c.place-first.ensures.value) n (c.deref.ensures.value ∙ c.in_ok-s.ensures.words
    ∙ ap (λ n. secret c.args.asked.now.seed.now c.args.asked.now.number n) c.cols.ensures) c.read_digits.ensures in
    let count : length digits ≡ digits_per_record c.args.layout.now =
    length-reading c.args.layout.now c.args.hint.now c.args.asked.now.seed.now c.args.asked.now.number c.args.asked.now.i c.args.answer.now in
    let all = kept c.in_ok-digits.digits c.read_digits.new.out (digits_per_record c.args.layout.now) (ap length out ∙ count) (c.in_ok-digits.ensures.len
    ∙ c.digits_per_record.ensures.value) ∙ out in (
      all,
      subst (All (λ d. d < 2 ^ c.args.layout.now.width)) (sym all)
          (small_reading c.args.layout.now c.args.hint.now c.args.asked.now.seed.now c.args.asked.now.number c.args.asked.now.i c.args.answer.now c.width.ensures.layout),
      ap length all ∙ count,
    )
