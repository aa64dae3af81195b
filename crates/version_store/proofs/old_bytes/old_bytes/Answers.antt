use Rattle.std.proofs.Common.{◌∙◌, ◌<◌, ℕ, arith, ap, sym, subst, All, List}
use Rattle.std.proofs.lemmas.List.Elements.{All-weaker}
use Rattle.record_log.specs.OldRecords.{OldBytes, OldRecord}
use Rattle.version_store.specs.Editions.{Records}
use Rattle.version_store.specs.Drafts.{Changes}
use Rattle.version_store.proofs.OldSlots.{after_draft, all_below, all_olds, before_draft, next_fits, next_olds, olds_below}
use Rattle.version_store.proofs.old_bytes.old_bytes.Goals as goal

pub push_old-requires-clause-later : goal.push_old-requires-clause-later
push_old-requires-clause-later c =
    let e : Records = c.args.layer.now in
    let before : List (List ℕ) = before_draft e c.args.count in
    let after : List (List ℕ) = after_draft e c.args.count c.args.changes.now.entries in
    let Below : ℕ → OldRecord → Type 0 = λ n old. old.index < n in
    subst (λ (o : OldBytes). All (Below c.in-Some.i) o.records) (sym c.loop-i.invariant.olds)
    (All-weaker (Below c.loop-i.from) (Below c.in-Some.i) (λ old lt. omega (arith, lt, c.in-Some.ensures.at)) (olds_below before after c.loop-i.from)
    (all_below before after c.loop-i.from))

pub loop-i-preserved : goal.loop-i-preserved
loop-i-preserved c =
    let e : Records = c.args.layer.now in
    let n : ℕ = c.args.count in
    let changes : Changes = c.args.changes.now.entries in
    let inside = (next_fits e n changes c.requires.more c.in-Some.i c.in-Some.bytes.now c.requires.fit c.in-Some.ensures.some).0 in
    record {
      olds = next_olds e n changes c.requires.more c.loop-i.from c.in-Some.i c.in-Some.bytes.now c.loop-i.olds c.push_old.new.olds c.loop-i.invariant.olds
          c.in-Some.ensures.at inside c.in-Some.ensures.some c.in-Some.ensures.between (c.in_ok-push_old.ensures n c.requires.more inside);
      inside = omega (arith, inside);
    }

pub returns : goal.returns
returns c =
    let e : Records = c.args.layer.now in
    let made : List OldRecord → OldBytes = λ records. record { record_len = e.plan.record_len; records = records } in
    c.loop-i.invariant.olds
    ∙ ap made (all_olds e c.args.count c.args.changes.now.entries c.requires.more c.loop-i.from c.loop-i.invariant.inside c.in_default.ensures.none)
