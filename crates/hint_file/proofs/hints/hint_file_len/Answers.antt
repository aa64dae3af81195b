use Rattle.std.proofs.Common.{length, ap, arith}
use Rattle.std.proofs.lemmas.List.{length-append}
use Rattle.frame_codec.specs.Numbers.{word_bytes}
use Rattle.frame_codec.proofs.NumberBytes.{length-words}
use Rattle.hint_file.specs.Files.{hint_magic, head_bytes, fields_of, part_digests}
use Rattle.hint_file.proofs.PartDigests.{length-part_digests}
use Rattle.hint_file.proofs.HeadBytes.{length-head}
use Rattle.hint_file.proofs.WholeRead.{length-hint_magic}
use Rattle.hint_file.proofs.hints.hint_file_len.Goals as goal

pub returns : goal.returns
returns c = λ known seed.
    omega (
      arith,
      ap length c.words.ensures.value,
      length-append (head_bytes (fields_of known c.args.hint.now) (part_digests (word_bytes c.args.hint.now.matrix.words)))
          (word_bytes c.args.hint.now.matrix.words),
      length-head hint_magic (part_digests (word_bytes c.args.hint.now.matrix.words)) (fields_of known c.args.hint.now) seed,
      length-hint_magic,
      length-part_digests (word_bytes c.args.hint.now.matrix.words),
      length-words c.args.hint.now.matrix.words,
    )
