use Rattle.std.proofs.Common.{arith, ap, sym, ◌∙◌, ◌≡◌, ◌+◌, length}
use Rattle.std.proofs.lemmas.List.{with_items_is}
use Rattle.matrix_u32.specs.Sum.{list_of}
use Rattle.matrix_u32.proofs.Products.{length-list_of}
use Rattle.seed_expand.specs.Words.{word, source_word, words_from}
use Rattle.seed_expand.proofs.Sources.{words-source_at}
use Rattle.seed_expand.proofs.stream_words.Goals as goal

pub returns-clause-words : goal.returns-clause-words
returns-clause-words c =
    let count : length c.deref_mut.result.now ≡ c.args.count = omega (arith, c.deref_mut.ensures.len, c.in_ok-words.ensures.len) in
    let filled : c.fill_words.new.out ≡ words_from c.args.seed.now c.args.stream c.args.place c.args.count =
    c.fill_words.ensures.words
    ∙ ap (λ n. list_of n (source_word c.at.result)) count
    ∙ ap (λ s. list_of c.args.count (source_word s)) c.at.ensures
    ∙ words-source_at c.args.seed.now c.args.stream c.args.place c.args.count in
    let as_long : length c.fill_words.new.out ≡ c.args.count = ap length filled
    ∙ length-list_of c.args.count (λ k. word c.args.seed.now c.args.stream (c.args.place + k)) in
    with_items_is c.in_ok-words.words c.fill_words.new.out (as_long ∙ sym c.in_ok-words.ensures.len) ∙ filled
