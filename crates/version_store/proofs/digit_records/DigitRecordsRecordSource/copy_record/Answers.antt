use Rattle.std.proofs.Common.{◌∙◌, ◌+◌, ◌*◌, ◌≤◌, ap, sym, subst, length, take, drop}
use Rattle.version_store.specs.KeptRecords.{KeptRecords}
use Rattle.version_store.proofs.KeptDigits.{is_taken, kept_there, kept_record}
use Rattle.version_store.proofs.digit_records.DigitRecordsRecordSource.copy_record.Goals as goal

pub copy_record-requires-clause-record : goal.copy_record-requires-clause-record
copy_record-requires-clause-record c =
    kept_there c.self.inside.layout c.self.inside.taken c.self.inside.digits c.self.invariant c.args.i
    (is_taken c.self.inside.layout c.self.inside.taken c.self.inside.digits c.self.invariant c.args.i
    (subst (λ (v : KeptRecords). c.args.i * v.shape.record_len + v.shape.record_len ≤ length v.bytes) (sym c.self.view_is) c.requires.inside))

pub returns : goal.returns
returns c =
    c.copy_record.ensures
    ∙ kept_record c.self.inside.layout c.self.inside.taken c.self.inside.digits c.self.invariant c.args.i
    (is_taken c.self.inside.layout c.self.inside.taken c.self.inside.digits c.self.invariant c.args.i
    (subst (λ (v : KeptRecords). c.args.i * v.shape.record_len + v.shape.record_len ≤ length v.bytes) (sym c.self.view_is) c.requires.inside))
    ∙ ap (λ (v : KeptRecords). take v.shape.record_len (drop (c.args.i * v.shape.record_len) v.bytes)) c.self.view_is
