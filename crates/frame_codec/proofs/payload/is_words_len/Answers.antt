use Rattle.std.proofs.Common.{ℕ, ◌-◌, ◌/◌, ◌%◌, arith}
use Rattle.std.proofs.lemmas.Bool.{eq-eqb, eqb-true}
use Rattle.frame_codec.proofs.payload.is_words_len.Goals as goal

pub returns-then-len-before : goal.returns-then-len-before
returns-then-len-before c =
    let le = c.if-len-before.true in
    let n : ℕ = c.args.len - c.args.before in (
      λ h. (n / 4, omega (arith, le, eqb-true (n % 4) 0 h)),
      λ h. eq-eqb (n % 4) 0 (omega (arith, le, h.1)),
    )
