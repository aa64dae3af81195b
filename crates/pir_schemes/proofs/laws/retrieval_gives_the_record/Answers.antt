use Rattle.pir_schemes.proofs.Quiet.{retrieval_gives}
use Rattle.pir_schemes.proofs.laws.retrieval_gives_the_record.Goals as goal

pub returns : goal.returns
returns c =
    retrieval_gives c.quiet_retrieval_reads_the_record.ensures c.quiet_retrieval_reads_the_record-2.ensures c.pack_unpacks.ensures
    c.certain_shape_is_quiet.ensures
