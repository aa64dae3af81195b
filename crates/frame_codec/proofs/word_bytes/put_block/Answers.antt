use Rattle.std.proofs.Common.{◌++◌, List, ℕ, ap, sym, ◌∙◌}
use Rattle.frame_codec.proofs.NumberBytes.{words_written}
use Rattle.frame_codec.proofs.word_bytes.put_block.Goals as goal

pub returns-clause-items : goal.returns-clause-items
returns-clause-items c = c.put.ensures.items ∙ ap (λ (x : List ℕ). c.args.out.now.items ++ x) (c.write_u32_into.ensures ∙ sym (words_written c.args.words.now))
