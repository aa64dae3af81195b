use Rattle.std.proofs.Common.{rules, ◌≡◌, ◌++◌, List, ℕ, [], ◌+◌, length, arith, ap, sym, ◌∙◌}
use Rattle.std.proofs.lemmas.List.{take-append-drop, length-append, nil_from_length}
use Rattle.frame_codec.specs.Numbers.{word_bytes}
use Rattle.frame_codec.proofs.NumberBytes.{words_none, words_on}
use Rattle.frame_codec.proofs.word_bytes.put_words.Goals as goal

pub loop-rest-preserved : goal.loop-rest-preserved
loop-rest-preserved c =
    let i = c.loop-rest.invariant in
    let block : List ℕ = c.split_at.result.0.now in
    let beyond : List ℕ = c.split_at.result.1.now in
    let whole : block ++ beyond ≡ c.loop-rest.rest.now = rw (c.split_at.ensures.front, c.split_at.ensures.back) (take-append-drop _ c.loop-rest.rest.now) in
    let added : c.put_block.new.out.items ++ word_bytes beyond ≡ c.loop-rest.out.items ++ word_bytes c.loop-rest.rest.now =
    ap (λ (x : List ℕ). x ++ word_bytes beyond) c.put_block.ensures.items ∙ words_on c.loop-rest.out.items block beyond
    ∙ ap (λ (x : List ℕ). c.loop-rest.out.items ++ word_bytes x) whole in
    let sizes : length block + length beyond ≡ length c.loop-rest.rest.now = sym (length-append block beyond) ∙ ap length whole in
    record {
      items = added ∙ i.items;
      len = omega (arith, i.len, c.put_block.ensures.len, sizes);
      space = omega (arith, i.space, c.put_block.ensures.len, c.put_block.ensures.room, sizes);
      room = omega (arith, i.room, c.put_block.ensures.room);
    }

pub returns-clause-items : goal.returns-clause-items
returns-clause-items c =
    let none : c.loop-rest.rest.now ≡ [] = nil_from_length c.loop-rest.rest.now (search rules) in
    sym (words_none c.loop-rest.out.items) ∙ ap (λ (x : List ℕ). c.loop-rest.out.items ++ word_bytes x) (sym none) ∙ c.loop-rest.invariant.items
