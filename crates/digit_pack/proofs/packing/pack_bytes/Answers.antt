use Rattle.std.proofs.Common.{arith, ap, sym, ◌∙◌, ◌≡◌, ◌+◌, ◌*◌, ◌/◌, ◌%◌, ◌^◌, ◌<◌, ◌≤◌, ℕ, length}
use Rattle.std.proofs.lemmas.Nat.{one_shl}
use Rattle.std.proofs.lemmas.List.Elements.{All-from_get_or}
use Rattle.std.specs.Prelude.{All}
use Rattle.matrix_u32.proofs.Products.{words_are, filled_more}
use Rattle.lane_kernels.specs.Digit.{digit}
use Rattle.digit_pack.specs.Digits.{number_of}
use Rattle.digit_pack.proofs.WindowLemmas.{digit_from_window}
use Rattle.digit_pack.proofs.packing.pack_bytes.Goals as goal

pub loop-t-preserved : goal.loop-t-preserved
loop-t-preserved c =
    let bit : ℕ = c.args.w * c.loop-t.t in
    let size : 1 * 2 ^ c.args.w % 2 ^ 32 ≡ 2 ^ c.args.w = one_shl c.args.w 32 (omega arith) in
    let bytes : All (λ b. b < 2 ^ 8) c.args.bytes.now = All-from_get_or (λ b. b < 2 ^ 8) c.args.bytes.now 0 (λ i _. (c.type_inv.bytes i).fits) in
    let at : bit ≡ 8 * (bit / 8) + bit % 8 = omega arith in
    let fits : c.args.w + bit % 8 ≤ 3 * 8 = omega arith in
    filled_more c.loop-t.out c.loop-t.t _ (digit c.args.w (number_of 8 c.args.bytes.now)) (omega arith)
    (ap (λ y. c.byte_window.result / 2 ^ (bit % 8) % y) size ∙ ap (λ y. y / 2 ^ (bit % 8) % 2 ^ c.args.w) c.byte_window.ensures
    ∙ sym (digit_from_window c.args.w 8 c.args.bytes.now c.loop-t.t (bit / 8) (bit % 8) bytes at fits))
    c.loop-t.invariant

pub returns : goal.returns
returns c =
    words_are c.loop-t.out (length c.args.out.now) (digit c.args.w (number_of 8 c.args.bytes.now)) c.loop-t.auto.out (λ k l. c.loop-t.invariant k (omega arith))
