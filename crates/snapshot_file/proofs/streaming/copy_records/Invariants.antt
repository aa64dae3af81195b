use Rattle.std.proofs.Common.{◌≡◌, ◌*◌, take, drop}
use Rattle.snapshot_file.proofs.streaming.copy_records.Given as goal

abbrev pub invariant-loop-k : goal.invariant-loop-k
invariant-loop-k g l =
    take (l.k * l.record_len) l.out ≡ take (l.k * l.record_len) (drop (l.first * l.record_len) (g.S.RecordSource.bytes l.source))
