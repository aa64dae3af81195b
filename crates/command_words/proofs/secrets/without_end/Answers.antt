use Rattle.std.proofs.Common.{inr, refl, None}
use Rattle.std.proofs.lemmas.Str.Pattern.{strip_suffix_char}
use Rattle.command_words.proofs.secrets.without_end.Goals as goal

pub returns-in-None : goal.returns-in-None
returns-in-None c = inr (refl, strip_suffix_char c.args.end c.args.text.now None c.in-None.ensures.cases c.requires.ascii)
