use Rattle.std.proofs.Common.{◌≡◌, ◌++◌, ◌*◌, ◌∙◌, List, ℕ, length, Result, Ok, Err, ap, arith}
use Rattle.std.specs.Prelude.{OnOk, is_ok, if◌then◌else◌}
use Rattle.frame_codec.specs.Numbers.{word_bytes}
use Rattle.frame_codec.proofs.NumberBytes.{words_read, words_split}
use Rattle.hint_file.proofs.word_bytes.add_read_block.Goals as goal

-- the bytes of words that were added
added : {T E : Type 0} (r : Result T E) (new old words bytes : List ℕ) → new ≡ (if is_ok r then old ++ words else old) → word_bytes words ≡ bytes →
    OnOk r (word_bytes new ≡ word_bytes old ++ bytes)
added (Ok x) new old words bytes e read = ap word_bytes e ∙ words_split old words ∙ ap (λ (y : List ℕ). word_bytes old ++ y) read
added (Err x) new old words bytes e read = tt

pub returns : goal.returns
returns c =
    let len : length c.args.bytes.now ≡ 4 * length c.read_u32_into.new.dst = omega (arith, c.requires.1, c.read_u32_into.auto.dst, c.split_at_mut-words.ensures.front_len) in
    let read : word_bytes c.read_u32_into.new.dst ≡ c.args.bytes.now =
    words_read c.read_u32_into.new.dst c.args.bytes.now (λ i. omega (arith, c.type_inv.bytes i)) len c.read_u32_into.ensures in
    added _ _ _ _ _ c.extend_from_slice.ensures.items read
