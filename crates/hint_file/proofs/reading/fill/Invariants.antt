use Rattle.std.proofs.Common.{◌≤◌, ◌-◌, length, take}
use Rattle.std.specs.Io.KnownBytes.{Consumes}
use Rattle.hint_file.proofs.reading.fill.Given as goal

abbrev pub invariant-loop-at : goal.invariant-loop-at
invariant-loop-at g l = record {
  within : l.at ≤ length l.out;
  read : Consumes (g.R.Read.remaining l.fn.reader) (g.R.Read.remaining l.reader) (take l.at l.out);
}

abbrev pub decreases-loop-at : goal.decreases-loop-at
decreases-loop-at g l = length l.initial.out - l.at
