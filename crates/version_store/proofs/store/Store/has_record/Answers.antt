use Rattle.std.proofs.Common.{ap, ◌∙◌, sym, ◌≡◌, length}
use Rattle.std.proofs.lemmas.Bool.{lt-ltb, ltb-true}
use Rattle.version_store.proofs.Grown.{length-draft}
use Rattle.version_store.proofs.store.Store.has_record.Goals as goal

pub returns : goal.returns
returns g c =
    let many : length c.args.self.now.draft ≡ c.self.inside.count =
    sym (ap (λ s. length s.draft) c.self.view_is) ∙ length-draft c.self.inside.edition c.self.inside.count c.self.inside.changes.entries c.self.invariant.0.more in
    rw (sym many) (ltb-true c.args.i (length c.args.self.now.draft), lt-ltb c.args.i (length c.args.self.now.draft))
