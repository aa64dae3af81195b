use Rattle.std.proofs.Common.{arith, ap, sym, ◌∙◌, lit<, ◌≡◌, ℕ, ◌%◌, ◌^◌, ◌≤◌, slice_index, List}
use Rattle.std.proofs.Math.Nat.{pow-le-pow_right, mod-lt}
use Rattle.digit_pack.proofs.DigitSums.{split_some}
use Rattle.lane_kernels.specs.Digit.{digit, split_count}
use Rattle.double_scheme.proofs.Filled.{none_filled, one_filled, filled_row_list, kept_row_is}
use Rattle.double_scheme.proofs.hints.put_digit_row.Goals as goal

pub nonzero_rem-t : goal.nonzero_rem-t
nonzero_rem-t g c = rw c.split_count.ensures (split_some c.args.w (omega arith))

pub word_digit-requires-clause-place : goal.word_digit-requires-clause-place
word_digit-requires-clause-place g c = rw c.split_count.ensures (mod-lt c.args.r (split_some c.args.w (omega arith)))

pub set-requires-clause-small : goal.set-requires-clause-small
set-requires-clause-small g c =
    let few : 2 ^ c.args.w ≤ 2 ^ 10 = pow-le-pow_right (lit< tt) c.requires.width.1 in
    omega (arith, few, c.word_digit.ensures.small)

pub loop-j-preserved : goal.loop-j-preserved
loop-j-preserved g c =
    let w : ℕ = c.args.w in
    let words : List ℕ = c.args.words.now in
    let r : ℕ = c.args.r in
    let j : ℕ = c.loop-j.j in
    let value : c.word_digit.result ≡ digit w (slice_index words j) (r % split_count w) =
    c.word_digit.ensures.value ∙ ap (λ n. digit w (slice_index words j) (r % n)) c.split_count.ensures in
    rw c.set.ensures
    (one_filled (g.S.DigitStore.digits c.args.store.now) (g.S.DigitStore.digits c.loop-j.store) r j c.word_digit.result
    (λ j. digit w (slice_index words j) (r % split_count w)) (omega arith) (omega arith) value c.loop-j.invariant)

pub loop-j-init : goal.loop-j-init
loop-j-init g c = none_filled (g.S.DigitStore.digits c.args.store.now) c.args.r _ c.requires.whole

pub returns : goal.returns
returns g c =
    let w : ℕ = c.args.w in
    let words : List ℕ = c.args.words.now in
    let r : ℕ = c.args.r in
    let old = g.S.DigitStore.digits c.args.store.now in
    let h = c.loop-j.invariant in
    let f : ℕ → ℕ = λ j. digit w (slice_index words j) (r % split_count w) in
    record {
      shape = (h.rows, h.cols, h.whole);
      written = filled_row_list old (g.S.DigitStore.digits c.loop-j.store) r c.loop-j.j _ f (sym c.requires.wide) (omega arith) h;
      kept = λ i lt. kept_row_is old (g.S.DigitStore.digits c.loop-j.store) r c.loop-j.j i f h lt;
    }
