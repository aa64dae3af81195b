use Rattle.std.proofs.Common.{ℕ, ◌+◌, ◌*◌, ◌<◌, ◌≤◌, ◌^◌, arith, ℤ, pos}
use Rattle.std.specs.Prelude.{unsigned_abs}
use Rattle.std.proofs.lemmas.Nat.{pow_pos}
use Rattle.matrix_u32.specs.Matrix.{entry, row}
use Rattle.matrix_u32.proofs.Products.{length-list_of, each-list_of}
use Rattle.noise_table.specs.Noise.{noise}
use Rattle.seed_expand.specs.Words.{word}
use Rattle.digit_pack.specs.Layout.{digit_matrix, digit_rows, digit_cols, first_row}
use Rattle.simple_scheme.specs.Simple.{query_noise}
use Rattle.simple_scheme.proofs.laws.certain_shape_is_quiet.Goals as goal

pub returns : goal.returns
returns c = λ l records seed number m i s certain d q.
    let below : ℕ → Type 0 = λ x. x < 2 ^ l.width in
    let within : ℤ → Type 0 = λ z. unsigned_abs z ≤ 27 in
    c.certain_is_quiet.ensures l.width (row (digit_matrix l records) (first_row l i + d)) (query_noise seed number m)
    (rw (length-list_of (digit_cols l) (λ j. entry (digit_matrix l records) (first_row l i + d) j)) certain)
    (each-list_of below (digit_cols l) _ 0 (pow_pos l.width) (λ j.
    each-list_of below (digit_rows l * digit_cols l) _ 0 (pow_pos l.width) (λ k. c.digits_are_small.ensures l.width _ _)
    ((first_row l i + d) * digit_cols l + j)))
    (each-list_of within m (λ k. noise (word seed (4 * number + 1) (0 + k))) (pos 0) (omega arith) (λ k. c.noise_is_bounded.ensures _))
