-- Masks: all that depends on no record in the first layers of several retrievals' queries.
use Rattle.std.specs.Prelude.{◌≡◌, ℕ, ◌+◌, ◌<◌, ◌≤◌, List}
use Rattle.matrix_u32.specs.Matrix.{WordMatrix}
use Rattle.seed_expand.specs.Words.{public_rows}
use Rattle.digit_pack.specs.Layout.{digit_cols}
use Rattle.pir_schemes.specs.declared.plan.Plan.{Plan}
use Rattle.pir_schemes.specs.declared.query_masks.MasksFor.{MasksFor}
use Rattle.pir_schemes.specs.Plans.{shape_at}

-- the first public matrix over so many columns of digits
abbrev pub public_over : Plan → ℕ → WordMatrix
public_over p cols = public_rows p.seed 0 0 cols p.dimension

-- the masks include that of retrieval `number` of a client's seed, on a version with so many
-- records
pub record Serve (m : MasksFor) (p : Plan) (records : ℕ) (seed : List ℕ) (number : ℕ) : Type 0 where
  pub plan : m.plan ≡ p
  pub cols : m.cols ≡ digit_cols (shape_at p records)
  pub secret : m.seed ≡ seed
  pub low : m.first ≤ number
  pub high : number < m.first + m.count
