use Rattle.std.proofs.Common.{◌≡◌, ◌*◌, length, ap, ◌∙◌, sym, rules}
use Rattle.record_log.specs.OldRecords.{OldBytes}
use Rattle.record_log.proofs.Olds.{length-olds_in}
use Rattle.record_log.proofs.old_records.OldRecords.byte_len.Goals as goal

pub returns : goal.returns
returns c =
    let o = c.self.inside in
    let whole : c.len.result ≡ length o.bytes.items = search rules in
    whole ∙ c.self.invariant.0
    ∙ ap (λ n. n * o.record_len) (sym (length-olds_in o.record_len o.numbers.items o.bytes.items))
    ∙ ap (λ (v : OldBytes). length v.records * v.record_len) c.self.view_is
