use Rattle.std.proofs.Common.{◌≡◌, length, ap, ◌∙◌, sym, subst, rules}
use Rattle.std.specs.List.Sorted.{IsStrictlyIncreasing}
use Rattle.record_log.specs.OldRecords.{OldBytes, numbers_of}
use Rattle.record_log.proofs.Olds.{length-olds_in, numbers_of-olds_in}
use Rattle.record_log.proofs.old_records.OldRecords.count.Goals as goal

pub returns-clause-value : goal.returns-clause-value
returns-clause-value c =
    let o = c.self.inside in
    let many : c.len.result ≡ length o.numbers.items = search rules in
    many ∙ sym (length-olds_in o.record_len o.numbers.items o.bytes.items) ∙ ap (λ (v : OldBytes). length v.records) c.self.view_is

pub returns-clause-ascending : goal.returns-clause-ascending
returns-clause-ascending c =
    let o = c.self.inside in
    let same : o.numbers.items ≡ numbers_of c.args.self.now.records =
    sym (numbers_of-olds_in o.record_len o.numbers.items o.bytes.items) ∙ ap (λ (v : OldBytes). numbers_of v.records) c.self.view_is in
    subst IsStrictlyIncreasing same c.self.invariant.1
