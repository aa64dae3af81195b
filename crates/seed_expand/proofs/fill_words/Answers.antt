use Rattle.std.proofs.Common.{arith, ap, ◌∙◌, length}
use Rattle.matrix_u32.proofs.Products.{words_are, filled_more}
use Rattle.seed_expand.specs.Words.{word_here, source_word, further}
use Rattle.seed_expand.proofs.Sources.{further-further}
use Rattle.seed_expand.proofs.fill_words.Goals as goal

pub loop-word-preserved : goal.loop-word-preserved
loop-word-preserved c =
    record {
      source = c.next.ensures.source ∙ ap (λ s. further s 1) c.loop-word.invariant.source ∙ further-further c.args.source.now c.loop-word.word-index 1;
      filled = filled_more c.loop-word.out c.loop-word.word-index _ (source_word c.args.source.now) (omega arith)
          (c.next.ensures.word ∙ ap word_here c.loop-word.invariant.source) c.loop-word.invariant.filled;
    }

pub returns-clause-words : goal.returns-clause-words
returns-clause-words c =
    words_are c.loop-word.out (length c.args.out.now) (source_word c.args.source.now) c.loop-word.auto.out (λ k l. c.loop-word.invariant.filled k (omega arith))
