use Rattle.std.proofs.Common.{arith}
use Rattle.std.proofs.lemmas.Str.Pattern.{strip_prefix_char}
use Rattle.command_words.proofs.secrets.file_in.Goals as goal

pub returns : goal.returns
returns c = strip_prefix_char 64 c.args.value.now c.strip_prefix.result c.strip_prefix.ensures.cases (omega arith)
