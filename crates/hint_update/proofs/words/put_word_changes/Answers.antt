use Rattle.std.proofs.Common.{◌≡◌, ℕ, ◌+◌, ◌-◌, ◌*◌, ◌<◌, ◌≤◌, arith}
use Rattle.std.proofs.lemmas.Nat.{mul-add-lt}
use Rattle.lane_kernels.specs.Digit.{split_count}
use Rattle.digit_pack.proofs.DigitSums.{split_some}
use Rattle.hint_update.proofs.words.put_word_changes.Goals as goal

-- the digits of a word are within those of all words
within : (word step cols : ℕ) → 0 < step → word < cols → word * step + step ≤ cols * step
within word step cols some l =
    let last : word * step + (step - 1) < step * cols = mul-add-lt word step (step - 1) cols l (omega (arith, some)) in
    let turn : step * cols ≡ cols * step = grind arith in
    omega (arith, last, turn, some)

pub word_in-old-requires-clause-rows : goal.word_in-old-requires-clause-rows
word_in-old-requires-clause-rows g c =
    let some : 0 < split_count c.args.w = split_some c.args.w (omega (arith, c.requires.width.0)) in
    let low = within c.args.word (split_count c.args.w) c.args.hint.now.cols some c.requires.word in
    omega (arith, low, c.requires.server_rows)
