use Rattle.std.proofs.Common.{◌≡◌, ◌*◌, ◌++◌, ◌∙◌, length, sym, arith, rules}
use Rattle.std.specs.Prelude.{replicate}
use Rattle.std.proofs.lemmas.List.{take_at}
use Rattle.frame_codec.proofs.NumberBytes.{IsBytes, words_read}
use Rattle.hint_file.proofs.WordsRead.{words_small, among, as_long}
use Rattle.hint_file.proofs.word_bytes.words_among_zeros.Goals as goal

pub returns-clause-words : goal.returns-clause-words
returns-clause-words c =
    let fits : IsBytes c.args.bytes.now = λ i. omega (arith, c.type_inv.bytes i) in
    let zeros : c.in_ok-all.all.items ≡ replicate c.args.total 0 = search rules in
    let lent : c.in_ok-all.all.items ≡ c.split_at_mut-rest.result.0.now ++ c.split_at_mut-rest.result.1.now =
    sym c.deref_mut.ensures.value ∙ c.split_at_mut-rest.ensures.value in
    let place : length c.split_at_mut-words.result.0.now ≡ c.requires.0 = omega (arith, c.split_at_mut-words.ensures.front_len, c.requires.1) in
    let count : length c.read_u32_into.new.dst ≡ c.requires.0 = omega (arith, c.read_u32_into.auto.dst, place) in
    let four : length c.args.bytes.now ≡ 4 * length c.read_u32_into.new.dst = omega (arith, c.requires.1, count) in (
      c.read_u32_into.new.dst,
      words_small c.read_u32_into.new.dst c.args.bytes.now fits four c.read_u32_into.ensures,
      words_read c.read_u32_into.new.dst c.args.bytes.now fits four c.read_u32_into.ensures,
      take_at (c.split_at_mut-rest.result.0.now ++ (c.read_u32_into.new.dst ++ c.split_at_mut-words.result.1.now)) _ c.in_ok-all.all.len
          (as_long c.args.total c.requires.0 c.in_ok-all.all.items c.split_at_mut-rest.result.0.now c.split_at_mut-rest.result.1.now c.split_at_mut-words.result.0.now
          c.split_at_mut-words.result.1.now c.read_u32_into.new.dst zeros lent c.split_at_mut-words.ensures.value place count ∙ sym c.in_ok-all.ensures.len)
          ∙ among c.args.total c.args.start c.requires.0 c.in_ok-all.all.items c.split_at_mut-rest.result.0.now c.split_at_mut-rest.result.1.now
          c.split_at_mut-words.result.0.now c.split_at_mut-words.result.1.now c.read_u32_into.new.dst zeros lent c.split_at_mut-words.ensures.value
          c.split_at_mut-rest.ensures.front_len place count,
    )
