use Rattle.std.proofs.Common.{length, arith}
use Rattle.version_store.proofs.KeptBytes.{below_count}
use Rattle.version_store.proofs.first_layer.FirstLayerRecordSource.copy_record.Goals as goal

pub copy_slot-requires-clause-index : goal.copy_slot-requires-clause-index
copy_slot-requires-clause-index c =
    below_count c.args.i (length c.args.self.now.records) c.args.self.now.plan.record_len (omega (arith, c.layout.ensures.plan.layout.record_len.0))
    (omega (arith, c.requires.inside, c.bytes_len.ensures.value, c.bytes_len.ensures.each))
