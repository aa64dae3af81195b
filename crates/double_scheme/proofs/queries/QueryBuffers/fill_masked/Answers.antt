use Rattle.std.proofs.Common.{ap, sym, refl, ◌∙◌, ◌≡◌, ℕ, List, ◌++◌, length}
use Rattle.matrix_u32.specs.Matrix.{WordMatrix}
use Rattle.seed_expand.specs.Words.{source_rows}
use Rattle.digit_pack.specs.Layout.{Shape, digit_rows, digit_cols}
use Rattle.simple_scheme.proofs.Lists.{kept}
use Rattle.simple_scheme.proofs.MaskColumns.{masks-rows}
use Rattle.double_scheme.specs.Double.{first_query_of, double_query}
use Rattle.double_scheme.specs.Buffers.{QuerySizes}
use Rattle.double_scheme.proofs.Lengths.{length-query_of}
use Rattle.double_scheme.proofs.queries.QueryBuffers.fill_masked.Goals as goal

pub returns : goal.returns
unfolding double_query
returns g c = λ a1 first count made at.
    let l : Shape = c.self.inside.layout in
    let seed : List ℕ = c.args.asked.now.seed.now in
    let number : ℕ = c.args.asked.now.number in
    let i : ℕ = c.args.asked.now.i in
    let a2 : WordMatrix = source_rows c.args.second (digit_rows l) (length c.self.inside.parts.row.items) in
    let rows : a1.rows ≡ digit_cols l =
    sym (masks-rows a1 c.args.masks.now seed first count made) ∙ c.requires.rows ∙ ap (λ (s : QuerySizes). digit_cols s.layout) (sym c.self.view_is) in
    let whole : c.put_masked_query.new.out ++ c.put_parts_under.new.out ≡ double_query l a1 a2 seed number i =
    ap (λ (ws : List ℕ). ws ++ c.put_parts_under.new.out) (c.put_masked_query.ensures a1 first count made at)
    ∙ ap (λ (ws : List ℕ). first_query_of l a1 seed number i ++ ws) c.put_parts_under.ensures in
    kept c.self.inside.words (c.put_masked_query.new.out ++ c.put_parts_under.new.out) c.self.inside.words.len
    (ap length whole ∙ length-query_of l a1 a2 seed number i rows refl ∙ sym c.self.invariant.words_len ∙ sym c.self.inside.words.ok.0) refl
    ∙ whole
    ∙ ap (λ (s : QuerySizes). double_query s.layout a1 (source_rows c.args.second (digit_rows s.layout) s.second_dimension) seed number i) c.self.view_is
