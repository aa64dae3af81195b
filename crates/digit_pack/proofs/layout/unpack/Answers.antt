use Rattle.std.proofs.Common.{arith, ap, ◌∙◌, sym, refl, ◌*◌, ◌/◌, ◌%◌, ◌^◌}
use Rattle.matrix_u32.proofs.Products.{words_are, filled_more}
use Rattle.lane_kernels.specs.Digit.{digit}
use Rattle.digit_pack.specs.Digits.{number_of}
use Rattle.digit_pack.proofs.Unpacking.{fits_decided, byte_from_digits}
use Rattle.digit_pack.proofs.layout.unpack.Goals as goal

pub returns-then-digits-top : goal.returns-then-digits-top
returns-then-digits-top c = (
  (fits_decided c.args.layout.now c.width-w.result c.record_len.result c.digits_per_record-top.result c.args.digits.now
      c.width-w.ensures.value c.record_len.ensures.value c.digits_per_record-top.ensures.value c.width-w.ensures.layout c.requires.small c.requires.digits).1
      c.if-digits-top.true,
  refl,
)

pub loop-i-preserved : goal.loop-i-preserved
loop-i-preserved c =
    filled_more c.loop-i.out c.loop-i.i _ (digit 8 (number_of c.width-w.result c.args.digits.now)) (omega arith)
    (ap (λ y. y / 2 ^ (8 * c.loop-i.i % c.width-w.result) % 256) c.digit_window.ensures
    ∙ sym (byte_from_digits c.width-w.result c.args.digits.now c.loop-i.i (omega arith) (rw c.width-w.ensures.value c.requires.small)))
    c.loop-i.invariant

pub returns : goal.returns
returns c = (
  (fits_decided c.args.layout.now c.width-w.result c.record_len.result c.digits_per_record-top.result c.args.digits.now
      c.width-w.ensures.value c.record_len.ensures.value c.digits_per_record-top.ensures.value c.width-w.ensures.layout c.requires.small c.requires.digits).0
      c.if-digits-top.false,
  words_are c.loop-i.out c.args.layout.now.record_len (digit 8 (number_of c.args.layout.now.width c.args.digits.now)) (c.loop-i.auto.out ∙ c.requires.room)
      (λ k l. c.loop-i.invariant k (omega (arith, c.requires.room, c.loop-i-test.false))
      ∙ ap (λ w. digit 8 (number_of w c.args.digits.now) k) c.width-w.ensures.value),
)
