use Rattle.std.proofs.Common.{rules}
use Rattle.server_core.specs.Serving.{is_publisher_key}
use Rattle.server_core.proofs.serve.is_publisher_key.Goals as goal

pub returns : goal.returns
unfolding is_publisher_key
returns g c = search rules
