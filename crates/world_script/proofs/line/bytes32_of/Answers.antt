use Rattle.world_script.proofs.Values.{bytes32_is}
use Rattle.world_script.proofs.line.bytes32_of.Goals as goal

pub returns : goal.returns
returns c = bytes32_is c.args.text.now c.bytes32_from_hex.result c.bytes32_from_hex.ensures.value c.bytes32_from_hex.ensures.found
