use Rattle.std.proofs.Common.{◌≡◌, ℕ, ◌*◌, arith, ap, ◌∙◌, length}
use Rattle.matrix_u32.specs.Sum.{list_of, dot}
use Rattle.matrix_u32.specs.Matrix.{row}
use Rattle.matrix_u32.proofs.Products.{words_are, filled_more, length-list_of}
use Rattle.seed_expand.specs.Words.{source_word, further, source_rows}
use Rattle.seed_expand.proofs.Sources.{further-further, row-source_rows}
use Rattle.seed_expand.proofs.expand_times.Goals as goal

pub loop-word-preserved : goal.loop-word-preserved
loop-word-preserved g c =
    let n : ℕ = length c.args.x.now in
    let i : ℕ = c.loop-word.word-index in
    let given : c.fill_words.new.out ≡ row (source_rows c.args.source (length c.args.out.now) n) i =
    c.fill_words.ensures.words
    ∙ ap (λ k. list_of k (source_word c.loop-word.source)) c.loop-word.invariant.wide
    ∙ ap (λ s. list_of n (source_word s)) c.loop-word.invariant.source
    ∙ row-source_rows c.args.source (length c.args.out.now) n i (omega (arith, c.loop-word.auto.out)) in
    record {
      wide = ap length given ∙ length-list_of n _;
      source = c.fill_words.ensures.source
          ∙ ap (λ s. further s (length c.loop-word.row)) c.loop-word.invariant.source
          ∙ ap (λ k. further (further c.args.source (i * n)) k) c.loop-word.invariant.wide
          ∙ further-further c.args.source (i * n) n
          ∙ ap (further c.args.source) (omega arith);
      filled = filled_more c.loop-word.out i _ (λ k. dot (row (source_rows c.args.source (length c.args.out.now) n) k) c.args.x.now) (omega arith)
          (c.dot.ensures ∙ ap (λ r. dot r c.args.x.now) given) c.loop-word.invariant.filled;
    }

pub returns-clause-words : goal.returns-clause-words
returns-clause-words g c =
    words_are c.loop-word.out (length c.args.out.now) (λ k. dot (row (source_rows c.args.source (length c.args.out.now) (length c.args.x.now)) k) c.args.x.now)
    c.loop-word.auto.out (λ k l. c.loop-word.invariant.filled k (omega arith))
