use Rattle.std.proofs.Common.{sym, ◌∙◌, ◌%◌, ◌^◌, ◌/◌, pos, neg_ℤ}
use Rattle.noise_table.specs.Noise.{noise, magnitude}
use Rattle.noise_table.proofs.Bound.{negated, if_one}
use Rattle.noise_table.proofs.noise_of.Goals as goal

pub returns-then-word-eq1-clause-value : goal.returns-then-word-eq1-clause-value
unfolding noise
returns-then-word-eq1-clause-value c =
    negated _ _ c.magnitude_of-magnitude.ensures.value c.magnitude_of-magnitude.ensures.bound
    ∙ sym (if_one (c.args.word / 2 ^ 15 % 2) (neg_ℤ (pos (magnitude (c.args.word % 2 ^ 15)))) (pos (magnitude (c.args.word % 2 ^ 15))) c.if-word-eq1.true)
