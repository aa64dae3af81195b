use Rattle.std.proofs.lemmas.Str.{IsUtf8-from_ascii}
use Rattle.world_script.proofs.Values.{line_is}
use Rattle.world_script.proofs.line.read_line.Goals as goal

pub returns-in_default : goal.returns-in_default
returns-in_default c = absurd (c.in_default.ensures.cases.0 (IsUtf8-from_ascii c.args.text.now c.if-not-is_ascii.ensures.cases))

pub returns : goal.returns
returns c =
    line_is c.read_words.result c.in-Ok.text.now c.args.text.now c.in-Ok.ensures.cases.0 c.if-not-is_ascii.ensures.cases
    c.read_words.ensures
