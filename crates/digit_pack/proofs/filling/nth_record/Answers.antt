use Rattle.digit_pack.proofs.RecordLemmas.{record_in}
use Rattle.digit_pack.proofs.filling.nth_record.Goals as goal

pub returns-clause-value : goal.returns-clause-value
returns-clause-value c = record_in c.args.layout.now c.args.bytes.now c.args.i c.record_len-len.result c.record_len-len.ensures.value c.requires.index
