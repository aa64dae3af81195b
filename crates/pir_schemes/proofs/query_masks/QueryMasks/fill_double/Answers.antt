use Rattle.std.proofs.Common.{◌≡◌, ap, sym, arith, ◌∙◌}
use Rattle.simple_scheme.proofs.MaskColumns.{masks-rows, masks-cols}
use Rattle.pir_schemes.specs.declared.query_masks.MasksFor.{MasksFor}
use Rattle.pir_schemes.specs.Masks.{public_over}
use Rattle.pir_schemes.proofs.query_masks.QueryMasks.fill_double.Goals as goal

pub fill_masked-requires-clause-rows : goal.fill_masked-requires-clause-rows
fill_masked-requires-clause-rows g c =
    let m = c.self.inside in
    masks-rows (public_over m.made.plan m.made.cols) m.masks m.made.seed m.made.first m.made.count c.self.invariant
    ∙ ap (λ (x : MasksFor). x.cols) c.self.view_is
    ∙ sym c.requires.columns

pub fill_masked-requires-clause-retrieval : goal.fill_masked-requires-clause-retrieval
fill_masked-requires-clause-retrieval g c =
    let m = c.self.inside in
    let many : m.masks.cols ≡ m.made.count = masks-cols (public_over m.made.plan m.made.cols) m.masks m.made.seed m.made.first m.made.count c.self.invariant in
    let first : m.made.first ≡ c.args.self.now.first = ap (λ (x : MasksFor). x.first) c.self.view_is in
    let count : m.made.count ≡ c.args.self.now.count = ap (λ (x : MasksFor). x.count) c.self.view_is in
    omega (arith, many, first, count, c.requires.low, c.requires.high)
