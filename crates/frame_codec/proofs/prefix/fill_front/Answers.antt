use Rattle.std.proofs.Common.{◌≡◌, ◌<◌, ◌++◌, List, ℕ, length, get_or, arith, ◌∙◌}
use Rattle.std.proofs.lemmas.List.{length-append}
use Rattle.frame_codec.proofs.Fronts.{byte_front, byte_back, copies_on}
use Rattle.frame_codec.proofs.prefix.fill_front.Goals.{then-i-first, else-i-first}
use Rattle.frame_codec.proofs.prefix.fill_front.Goals as goal

pub loop-i-preserved : goal.loop-i-preserved
loop-i-preserved c =
    let both : List ℕ = c.args.first.now ++ c.args.rest.now in
    let within : c.loop-i.i < length c.loop-i.space = omega (arith, c.loop-i-test.true, c.loop-i.invariant.long, c.min-len.ensures) in
    let inside : c.loop-i.i < length both =
    omega (arith, c.loop-i-test.true, c.min-len.ensures, c.saturating_add.ensures, length-append c.args.first.now c.args.rest.now) in
    let byte : get_or both c.loop-i.i 0 ≡ c.if-i-first.space = elim c.if-i-first.branch [
      | then-i-first w ↦ byte_front c.args.first.now c.args.rest.now c.loop-i.i c.if-i-first.space w.if-i-first.true w.space-is
      | else-i-first w ↦ byte_back c.args.first.now c.args.rest.now c.loop-i.i c.if-i-first.space w.if-i-first.false w.space-is
    ] in
    let on = copies_on c.loop-i.space both c.loop-i.i c.if-i-first.space within inside c.loop-i.invariant.taken byte in
    record { long = on.0 ∙ c.loop-i.invariant.long; taken = on.1 }
