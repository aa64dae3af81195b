use Rattle.std.proofs.Common.{ap, sym, refl, ◌∙◌, ◌≡◌, ℕ, List, ◌++◌, length}
use Rattle.matrix_u32.specs.Matrix.{WordMatrix}
use Rattle.seed_expand.specs.Words.{source_rows}
use Rattle.digit_pack.specs.Layout.{Shape, digit_rows, digit_cols}
use Rattle.simple_scheme.proofs.Lists.{kept}
use Rattle.double_scheme.specs.Double.{first_query_of, double_query}
use Rattle.double_scheme.specs.Buffers.{QuerySizes}
use Rattle.double_scheme.proofs.Lengths.{length-query_of}
use Rattle.double_scheme.proofs.queries.QueryBuffers.fill.Goals as goal

pub returns-clause-words : goal.returns-clause-words
unfolding double_query
returns-clause-words g c =
    let l : Shape = c.self.inside.layout in
    let seed : List ℕ = c.args.seed.now in
    let number : ℕ = c.args.number in
    let i : ℕ = c.args.i in
    let a1 : WordMatrix = source_rows c.args.first (digit_cols l) (length c.self.inside.mask.secret) in
    let a2 : WordMatrix = source_rows c.args.second (digit_rows l) (length c.self.inside.parts.row.items) in
    let whole : c.put_query_under.new.out ++ c.put_parts_under.new.out ≡ double_query l a1 a2 seed number i =
    ap (λ (ws : List ℕ). ws ++ c.put_parts_under.new.out) c.put_query_under.ensures
    ∙ ap (λ (ws : List ℕ). first_query_of l a1 seed number i ++ ws) c.put_parts_under.ensures in
    kept c.self.inside.words (c.put_query_under.new.out ++ c.put_parts_under.new.out) c.self.inside.words.len
    (ap length whole ∙ length-query_of l a1 a2 seed number i refl refl ∙ sym c.self.invariant.words_len ∙ sym c.self.inside.words.ok.0) refl
    ∙ whole
    ∙ ap (λ (s : QuerySizes). double_query s.layout (source_rows c.args.first (digit_cols s.layout) s.first_dimension)
    (source_rows c.args.second (digit_rows s.layout) s.second_dimension) seed number i) c.self.view_is
