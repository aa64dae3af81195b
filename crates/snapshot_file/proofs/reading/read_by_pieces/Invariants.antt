use Rattle.std.proofs.Common.{◌≡◌, ◌≤◌, ◌-◌, vec_len, min}
use Rattle.std.specs.Io.KnownBytes.{Consumes}
use Rattle.snapshot_file.proofs.reading.read_by_pieces.Given as goal

abbrev pub invariant-loop-buffer : goal.invariant-loop-buffer
invariant-loop-buffer g l = record {
  room : vec_len l.buffer ≡ min l.wanted 65536;
  within : vec_len l.records ≤ l.wanted;
  read : Consumes (g.R.Read.remaining l.fn.reader) (g.R.Read.remaining l.reader) l.records.items;
}

abbrev pub decreases-loop-buffer : goal.decreases-loop-buffer
decreases-loop-buffer g l = l.wanted - vec_len l.records
