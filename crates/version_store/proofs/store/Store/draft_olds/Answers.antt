use Rattle.std.proofs.Common.{◌≡◌, ◌∙◌, ℕ, ap, sym, true}
use Rattle.digit_pack.specs.Layout.{is_wide}
use Rattle.pir_schemes.specs.declared.plan.Plan.{Plan}
use Rattle.record_log.specs.OldRecords.{OldBytes}
use Rattle.version_store.specs.Drafts.{Changes}
use Rattle.version_store.specs.Editions.{Records}
use Rattle.version_store.specs.Histories.{StoreState}
use Rattle.version_store.specs.OldRecords.{draft_olds, olds_between}
use Rattle.version_store.proofs.OldSlots.{after_draft, before_draft, draft_some}
use Rattle.version_store.proofs.store.Store.draft_olds.Goals as goal

pub returns : goal.returns
returns g c =
    let e : Records = c.self.inside.edition in
    let n : ℕ = c.self.inside.count in
    let changes : Changes = c.self.inside.changes.entries in
    let made : Records → OldBytes = λ x. record { record_len = x.plan.record_len; records = olds_between (before_draft x n) (after_draft x n changes) } in
    let wide : is_wide e.plan.form ≡ true =
    ap (λ (p : Plan). is_wide p.form) (sym c.plan.ensures) ∙ sym c.is_wide.ensures ∙ c.if-not-is_wide.false in
    draft_some e n changes c.self.invariant.0.more c.in_ok-olds.olds wide (c.in_ok-olds.ensures ∙ ap made c.layer.ensures)
    ∙ ap (λ (s : StoreState). draft_olds s.edition s.draft) c.self.view_is
