use Rattle.std.proofs.Common.{ap, ◌∙◌, ◌+◌, ℕ, length}
use Rattle.matrix_u32.specs.Sum.{list_of}
use Rattle.matrix_u32.proofs.Products.{same-list_of}
use Rattle.seed_expand.specs.Words.{word, source_word}
use Rattle.noise_table.specs.Noise.{noise}
use Rattle.simple_scheme.proofs.mask.draw_noise.Goals as goal

pub returns : goal.returns
returns c =
    let n : ℕ = length c.args.out.now in
    c.fill_noise.ensures.noise
    ∙ ap (λ s. list_of n (λ k. noise (source_word s k))) c.at.ensures
    ∙ same-list_of n _ (λ k. noise (word c.args.seed.now c.args.stream (c.args.place + k))) (λ k _.
    ap noise (c.source_gives_words.ensures c.args.seed.now c.args.stream c.args.place k))
