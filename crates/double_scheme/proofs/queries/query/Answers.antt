use Rattle.std.proofs.Common.{ap, sym, refl, ◌∙◌, ◌≡◌, ℕ, ◌*◌, List, ◌++◌, length, arith}
use Rattle.matrix_u32.specs.Matrix.{WordMatrix}
use Rattle.digit_pack.specs.Layout.{Shape, digit_rows, digits_per_record}
use Rattle.simple_scheme.proofs.Lists.{kept}
use Rattle.double_scheme.specs.Double.{first_query_of, double_query, double_query_count}
use Rattle.double_scheme.proofs.Lengths.{length-query_of}
use Rattle.double_scheme.proofs.queries.query.Goals as goal

pub returns-clause-words : goal.returns-clause-words
unfolding double_query
returns-clause-words g c =
    let l : Shape = c.args.layout.now in
    let seed : List ℕ = c.args.seed.now in
    let number : ℕ = c.args.number in
    let i : ℕ = c.args.i in
    let a1 : WordMatrix = c.args.a1.now in
    let a2 : WordMatrix = c.args.a2.now in
    let whole : c.put_query.new.out ++ c.put_parts.new.out ≡ double_query l a1 a2 seed number i =
    ap (λ (ws : List ℕ). ws ++ c.put_parts.new.out) c.put_query.ensures
    ∙ ap (λ (ws : List ℕ). first_query_of l a1 seed number i ++ ws) c.put_parts.ensures in
    let products : c.digits_per_record.result * c.rows-rows.result ≡ digits_per_record l * digit_rows l =
    ap (λ k. k * c.rows-rows.result) c.digits_per_record.ensures.value ∙ ap (λ k. digits_per_record l * k) c.rows-rows.ensures.value in
    let count : double_query_count l ≡ c.in_ok-out.out.len =
    omega (arith, products, c.rows-2.ensures.value, c.requires.rows, c.in_ok-out.ensures.len, sym c.in_ok-out.out.ok.0) in
    kept c.in_ok-out.out (c.put_query.new.out ++ c.put_parts.new.out) c.in_ok-out.out.len
    (ap length whole ∙ length-query_of l a1 a2 seed number i c.requires.rows c.requires.second_rows ∙ count) refl
    ∙ whole
