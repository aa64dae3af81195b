use Rattle.std.proofs.Common.{◌^◌}
use Rattle.world_script.proofs.Values.{number_is}
use Rattle.world_script.proofs.line.number_of.Goals as goal

pub returns : goal.returns
returns c = number_is c.args.text.now (2 ^ 64) c.decimal.result c.decimal.ensures
