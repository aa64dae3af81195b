use Rattle.std.proofs.Common.{◌≡◌, ℕ, List, length, ap, ◌∙◌, sym, subst, refl, true, IfOk}
use Rattle.std.proofs.lemmas.Bool.{both_ways, cond-true, true_from_ne_false}
use Rattle.record_log.specs.OldRecords.{OldRecord, entries_bytes}
use Rattle.record_log.specs.Logs.{is_listed, nth_bytes, oldest_bytes}
use Rattle.record_log.specs.Steps.{AddsWithin, change_or_none, next_entry, olds_of}
use Rattle.record_log.proofs.since.push_listed.Goals as goal

pub returns : goal.returns
returns g c =
    let len : ℕ = g.S.RecordSource.record_len c.args.current.now in
    let bytes : List ℕ = g.S.RecordSource.bytes c.args.current.now in
    let lists : List (List OldRecord) = olds_of c.args.lists.now in
    let n : ℕ = c.args.number in
    let old : List ℕ = c.in-Some.old.now in
    let new : List ℕ = nth_bytes len bytes n in
    let there : is_listed lists n ≡ true =
    true_from_ne_false (is_listed lists n) (λ none. both_ways true (c.in-Some.ensures.there.1 none) refl) in
    let same : entries_bytes (change_or_none n old (nth_bytes (length old) bytes n)) ≡ next_entry lists len bytes n =
    ap (λ k. entries_bytes (change_or_none n old (nth_bytes k bytes n))) (c.in-Some.ensures.len len c.requires.len)
    ∙ ap (λ (o : List ℕ). entries_bytes (change_or_none n o new))
    (c.in-Some.ensures.found ∙ sym (cond-true (is_listed lists n) (oldest_bytes lists n) new there)) in
    subst (λ (added : List ℕ). IfOk c.push_change.result (AddsWithin c.args.most c.args.out.now.items c.push_change.new.out.items added)) same
    c.push_change.ensures
