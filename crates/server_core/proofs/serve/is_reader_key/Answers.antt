use Rattle.std.proofs.Common.{rules}
use Rattle.server_core.specs.Serving.{is_reader_key}
use Rattle.server_core.proofs.serve.is_reader_key.Goals as goal

pub returns : goal.returns
unfolding is_reader_key
returns c = search rules
