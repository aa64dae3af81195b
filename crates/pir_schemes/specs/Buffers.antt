-- The memory that queries are made in.
use Rattle.std.specs.Prelude.{◌≡◌, ℕ}
use Rattle.digit_pack.specs.Layout.{Shape}
use Rattle.pir_schemes.specs.declared.scheme.Scheme.{Scheme}
use Rattle.pir_schemes.specs.declared.scheme.Scheme.TheVariants as scheme
use Rattle.pir_schemes.specs.declared.plan.Plan.{Plan}
use Rattle.pir_schemes.specs.declared.query_buffers.SchemeBuffers.{SchemeBuffers}
use Rattle.pir_schemes.specs.declared.query_buffers.SchemeBuffers.TheVariants.{Simple, Double}
use Rattle.pir_schemes.specs.Plans.{IsPlan, shape_at}

-- what a query's memory is taken for: a scheme, a plan and a count of records
pub record Asking : Type 0 where
  pub scheme : Scheme
  pub plan : Plan
  pub count : ℕ

-- the scheme whose queries are made in it
abbrev pub scheme_asked : SchemeBuffers → Scheme
scheme_asked (Simple room) = scheme.Simple
scheme_asked (Double room) = scheme.Double

-- memory for a query on a shape, under public matrices of so many columns
abbrev pub IsSchemeBuffers : Shape → ℕ → SchemeBuffers → Type 0
IsSchemeBuffers l n (Simple room) = room ≡ record { layout = l; dimension = n }
IsSchemeBuffers l n (Double room) = room ≡ record { layout = l; first_dimension = n; second_dimension = n }

-- a plan, and memory for a query
pub record IsQueryBuffers (p : Plan) (count : ℕ) (room : SchemeBuffers) : Type 0 where
  pub plan : IsPlan p count
  pub sizes : IsSchemeBuffers (shape_at p count) p.dimension room
