use Rattle.std.proofs.Common.{rules, ◌≢◌, length}
use Rattle.frame_codec.proofs.Payloads.{no_stands, is_bye}
use Rattle.frame_codec.proofs.payload.bye_of.Goals as goal

pub returns-then-not-is_empty : goal.returns-then-not-is_empty
returns-then-not-is_empty c = no_stands 8 c.args.payload.now (λ h. let ne : length c.args.payload.now ≢ 0 = search rules in ne h)

pub returns : goal.returns
returns c = is_bye _ (search rules)
