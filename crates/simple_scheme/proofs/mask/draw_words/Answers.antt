use Rattle.std.proofs.Common.{ap, ◌∙◌, ◌+◌, ℕ, length}
use Rattle.matrix_u32.specs.Sum.{list_of}
use Rattle.matrix_u32.proofs.Products.{same-list_of}
use Rattle.seed_expand.specs.Words.{word, source_word}
use Rattle.simple_scheme.proofs.mask.draw_words.Goals as goal

pub returns : goal.returns
returns c =
    let n : ℕ = length c.args.out.now in
    c.fill_words.ensures.words
    ∙ ap (λ s. list_of n (source_word s)) c.at.ensures
    ∙ same-list_of n _ (λ k. word c.args.seed.now c.args.stream (c.args.place + k)) (λ k _.
    c.source_gives_words.ensures c.args.seed.now c.args.stream c.args.place k)
