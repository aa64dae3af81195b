use Rattle.std.proofs.Common.{ap, ◌∙◌, ◌+◌, sym, ◌≡◌, length}
use Rattle.digit_pack.specs.Layout.{is_layout}
use Rattle.pir_schemes.specs.Plans.{shape_at}
use Rattle.version_store.proofs.Grown.{length-draft}
use Rattle.version_store.proofs.store.Store.has_room.Goals as goal

pub returns : goal.returns
returns g c =
    let many : length c.args.self.now.draft ≡ c.self.inside.count =
    sym (ap (λ s. length s.draft) c.self.view_is) ∙ length-draft c.self.inside.edition c.self.inside.count c.self.inside.changes.entries c.self.invariant.0.more in
    c.has_layout.ensures
    ∙ ap (λ p. is_layout (shape_at p (c.self.inside.count + 1))) (c.plan.ensures ∙ ap (λ s. s.edition.plan) c.self.view_is)
    ∙ ap (λ n. is_layout (shape_at c.args.self.now.edition.plan (n + 1))) (sym many)
