use Rattle.std.proofs.Common.{◌∙◌, ◌+◌, ap, arith, refl, ℕ, List, length}
use Rattle.publication_log.specs.Publications.{Placed}
use Rattle.log_replay.proofs.ChangeLemmas.{changes_decide}
use Rattle.log_replay.proofs.drafting.draft_publication.Goals as goal

pub returns-in-Ok-push_changes-clause-made : goal.returns-in-Ok-push_changes-clause-made
returns-in-Ok-push_changes-clause-made g c =
    let s = c.args.store.now in
    let it = c.in-Ok-push_changes.ensures _ c.in-Ok.ensures refl in
    let some = it.3.some ((c.in-Some.ensures.first refl).0 refl) in (
      it.0,
      it.1,
      record {
        next = changes_decide s.edition.plan s.version (length s.edition.records) it.0
            (it.2 ∙ ap (λ (n : ℕ). n + 1) c.version-version.ensures) (λ none. absurd (omega (arith, some, ap (λ (cs : List Placed). length cs) none))) ∙ it.3.each;
        made = it.3.made;
      },
    )
