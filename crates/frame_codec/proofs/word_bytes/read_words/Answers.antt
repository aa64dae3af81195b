use Rattle.std.proofs.Common.{arith}
use Rattle.frame_codec.proofs.NumberBytes.{words_read}
use Rattle.frame_codec.proofs.word_bytes.read_words.Goals as goal

pub returns-clause-bytes : goal.returns-clause-bytes
returns-clause-bytes c =
    words_read c.read_u32_into.new.dst c.args.bytes.now (λ i. omega (arith, c.type_inv.bytes i)) (omega (arith, c.requires, c.read_u32_into.auto.dst)) c.read_u32_into.ensures
