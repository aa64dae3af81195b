use Rattle.std.proofs.Common.{ℕ, List, length}
use Rattle.digit_pack.specs.Layout.{Shape, IsShape, digit_cols}
use Rattle.simple_scheme.specs.Laws.{SimpleCertainShapeIsQuiet as SimpleLaw}
use Rattle.double_scheme.specs.Laws.{DoubleCertainShapeIsQuiet as DoubleLaw}
use Rattle.pir_schemes.specs.declared.scheme.Scheme.{Scheme}
use Rattle.pir_schemes.specs.declared.scheme.Scheme.TheVariants.{Simple, Double}
use Rattle.pir_schemes.specs.declared.plan.Plan.{Plan}
use Rattle.pir_schemes.specs.Plans.{shape_at, slots, first_public}
use Rattle.pir_schemes.specs.Retrievals.{IsQuietOf}
use Rattle.pir_schemes.specs.Laws.{IsCertainOf}
use Rattle.pir_schemes.proofs.laws.certain_shape_is_quiet.Goals as goal

by_scheme : SimpleLaw → DoubleLaw → (s : Scheme) (p : Plan) (records : List (List ℕ)) (seed : List ℕ) (number i : ℕ) →
    IsShape (shape_at p (length records)) → IsCertainOf s (shape_at p (length records)) → IsQuietOf s p records seed number i
by_scheme simple double Simple p records seed number i ok certain =
    let l : Shape = shape_at p (length records) in
    simple l (slots p records) seed number (digit_cols l) i ok certain
by_scheme simple double Double p records seed number i ok certain =
    let l : Shape = shape_at p (length records) in
    double l (slots p records) (first_public l p.dimension p.seed) seed number i ok certain.0 certain.1

pub returns : goal.returns
returns c = by_scheme c.certain_shape_is_quiet.ensures c.certain_shape_is_quiet-2.ensures
