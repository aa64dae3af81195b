use Rattle.std.proofs.Common.{◌≡◌, ◌++◌, ◌∙◌, ℕ, List, sym, ap, arith}
use Rattle.std.proofs.lemmas.List.{length-append}
use Rattle.frame_codec.specs.Numbers.{word_bytes}
use Rattle.frame_codec.proofs.NumberBytes.{length-words, words_written}
use Rattle.hint_file.proofs.hints.HintFile.write_into.Goals as goal

pub write_u32_into-requires : goal.write_u32_into-requires
write_u32_into-requires c =
    omega (
      arith,
      c.requires,
      length-append c.args.self.now.head.items (word_bytes c.args.self.now.words.now),
      length-words c.args.self.now.words.now,
      c.split_at_mut-head.ensures.back_len,
    )

pub returns : goal.returns
returns c =
    let written : c.write_u32_into.new.dst ≡ word_bytes c.args.self.now.words.now = c.write_u32_into.ensures ∙ sym (words_written c.args.self.now.words.now) in
    ap (λ (x : List ℕ). x ++ c.write_u32_into.new.dst) (c.copy_from_slice.ensures.after ∙ c.deref.ensures.value)
    ∙ ap (λ (x : List ℕ). c.args.self.now.head.items ++ x) written
