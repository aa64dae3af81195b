use Rattle.std.proofs.Common.{◌≡◌, sym, ◌∙◌, rules}
use Rattle.frame_codec.specs.Numbers.{word_bytes}
use Rattle.frame_codec.proofs.NumberBytes.{words_written}
use Rattle.hint_file.proofs.word_bytes.add_block.Goals as goal

pub returns : goal.returns
returns c =
    let e : c.write_u32_into.new.dst ≡ word_bytes c.args.words.now = c.write_u32_into.ensures ∙ sym (words_written c.args.words.now) in
    rw (← e) (search rules)
