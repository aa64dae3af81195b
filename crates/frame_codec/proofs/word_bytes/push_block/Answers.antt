use Rattle.std.proofs.Common.{◌++◌, List, ℕ, ap, ◌∙◌}
use Rattle.frame_codec.specs.Numbers.{word_bytes}
use Rattle.frame_codec.proofs.NumberBytes.{words_split}
use Rattle.frame_codec.proofs.word_bytes.push_block.Goals as goal

pub returns-clause-items : goal.returns-clause-items
returns-clause-items c =
    let old : List ℕ = c.args.out.now.items in
    ap word_bytes c.push_words.ensures.items ∙ words_split old c.read_words.new.words
    ∙ ap (λ (x : List ℕ). word_bytes old ++ x) c.read_words.ensures.bytes
