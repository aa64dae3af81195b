use Rattle.std.proofs.Common.{◌≡◌, ℕ, arith, ap, refl, ◌∙◌, ◌+◌, ◌*◌, ◌%◌, ◌^◌, length}
use Rattle.matrix_u32.specs.Sum.{list_of, dot}
use Rattle.matrix_u32.specs.Matrix.{WordMatrix, row}
use Rattle.matrix_u32.proofs.Products.{length-list_of}
use Rattle.seed_expand.specs.Words.{source_word, further, source_rows}
use Rattle.seed_expand.proofs.Sources.{further-further, row-source_rows}
use Rattle.simple_scheme.specs.Masks.{row_products}
use Rattle.simple_scheme.proofs.Rows.{no_rows_of, one_row, all_rows}
use Rattle.simple_scheme.proofs.MaskColumns.{row-row_products}
use Rattle.simple_scheme.proofs.masks.put_products.Goals as goal

pub loop-j-init : goal.loop-j-init
loop-j-init g c = record {
  wide = c.requires.row;
  source =
      let here : c.args.source.word_pos ≡ (c.args.source.word_pos + 0 * c.args.secrets.now.cols) % 2 ^ 68 = omega (arith, c.place.ensures.bound) in
      ap (λ (p : ℕ). record { key = c.args.source.key; stream = c.args.source.stream; word_pos = p }) here;
  written = no_rows_of (row_products (source_rows c.args.source c.args.products.now.rows c.args.secrets.now.cols) c.args.secrets.now) c.args.products.now refl
      c.requires.cols c.rows-j-end.ensures.whole;
}

pub loop-j-preserved : goal.loop-j-preserved
loop-j-preserved g c =
    let n : ℕ = c.args.secrets.now.cols in
    let m : ℕ = c.args.products.now.rows in
    let a : WordMatrix = source_rows c.args.source m n in
    let j : ℕ = c.loop-j.j in
    let given : c.fill_words.new.out ≡ row a j =
    c.fill_words.ensures.words
    ∙ ap (λ k. list_of k (source_word c.loop-j.source)) c.loop-j.invariant.wide
    ∙ ap (λ s. list_of n (source_word s)) c.loop-j.invariant.source
    ∙ row-source_rows c.args.source m n j (omega (arith, c.rows-j-end.ensures.value)) in
    record {
      wide = ap length given ∙ length-list_of n _;
      source = c.fill_words.ensures.source
          ∙ ap (λ s. further s (length c.loop-j.row)) c.loop-j.invariant.source
          ∙ ap (λ k. further (further c.args.source (j * n)) k) c.loop-j.invariant.wide
          ∙ further-further c.args.source (j * n) n
          ∙ ap (further c.args.source) (omega arith);
      written = one_row (row_products a c.args.secrets.now) c.loop-j.products j (j + 1) c.mul_vec.new.out refl (omega (arith, c.rows-j-end.ensures.value))
          (c.mul_vec.ensures ∙ row-row_products a c.args.secrets.now j c.fill_words.new.out refl (omega (arith, c.rows-j-end.ensures.value)) given)
          c.loop-j.invariant.written;
    }

pub returns : goal.returns
returns g c =
    all_rows c.args.products.now.rows c.args.secrets.now.rows c.loop-j.j
    (λ j k. dot (row (source_rows c.args.source c.args.products.now.rows c.args.secrets.now.cols) j) (row c.args.secrets.now k)) c.loop-j.products
    (omega (arith, c.rows-j-end.ensures.value)) c.loop-j.invariant.written
