use Rattle.std.proofs.Common.{arith, ap, sym, refl, ◌∙◌, ◌+◌, ◌*◌}
use Rattle.std.specs.Prelude.{slice_index}
use Rattle.seed_expand.specs.Words.{words_from}
use Rattle.simple_scheme.specs.Simple.{secret}
use Rattle.simple_scheme.specs.Masks.{secrets_of}
use Rattle.simple_scheme.proofs.Rows.{no_rows_of, one_row, all_rows}
use Rattle.simple_scheme.proofs.MaskColumns.{row-secrets_of}
use Rattle.simple_scheme.proofs.masks.draw_secrets.Goals as goal

pub loop-c-init : goal.loop-c-init
loop-c-init c =
    no_rows_of (secrets_of c.args.seed.now c.args.first c.args.secrets.now.rows c.args.secrets.now.cols) c.args.secrets.now refl refl c.rows-c-end.ensures.whole

pub loop-c-preserved : goal.loop-c-preserved
loop-c-preserved c =
    one_row (secrets_of c.args.seed.now c.args.first c.args.secrets.now.rows c.args.secrets.now.cols) c.loop-c.secrets c.loop-c.c (c.loop-c.c + 1)
    c.draw_words.new.out refl (omega (arith, c.loop-c.invariant.rows))
    (c.draw_words.ensures
    ∙ ap (λ n. words_from c.args.seed.now (4 * (c.args.first + c.loop-c.c)) 0 n) (c.row_mut.ensures.count ∙ c.loop-c.invariant.cols)
    ∙ sym (row-secrets_of c.args.seed.now c.args.first c.args.secrets.now.rows c.args.secrets.now.cols c.loop-c.c (omega arith)))
    c.loop-c.invariant

pub returns : goal.returns
returns c =
    all_rows c.args.secrets.now.rows c.args.secrets.now.cols c.loop-c.c
    (λ k j. slice_index (secret c.args.seed.now (c.args.first + k) c.args.secrets.now.cols) j) c.loop-c.secrets (omega arith) c.loop-c.invariant
