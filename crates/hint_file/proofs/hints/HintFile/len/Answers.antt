use Rattle.std.proofs.Common.{arith}
use Rattle.std.proofs.lemmas.List.{length-append}
use Rattle.frame_codec.specs.Numbers.{word_bytes}
use Rattle.frame_codec.proofs.NumberBytes.{length-words}
use Rattle.hint_file.proofs.hints.HintFile.len.Goals as goal

pub returns : goal.returns
returns c =
    omega (arith, length-append c.args.self.now.head.items (word_bytes c.args.self.now.words.now), length-words c.args.self.now.words.now)
